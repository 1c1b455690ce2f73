-- The permitted error of a car by itself: 24 and 25 behind all refusals of the car, and the limit beside its six figures.
use Rattle.std.specs.Prelude.{ℕ, ◌≡◌, Bool, ◌||◌, List, [], ◌∷◌, ◌++◌, ltb, eqb, get_or, Result}
use Rattle.base.specs.Answer.{Test, refuse_if, accepts, first, Answer, answer}
use Rattle.base.specs.Refusal.{told}
use Rattle.base.specs.declared.refusal.Refusal.{Refusal}
use Rattle.base.specs.Numbers.{one_if}
use Rattle.table.specs.Table.{Table}
use Rattle.gauging.specs.Capacity.{Gap, rows_around}
use Rattle.heating.specs.Steps.{expansion}
use Rattle.car.specs.declared.Measured.{Measured}
use Rattle.car.specs.Measured.{rows, v0, gross, mass}
use Rattle.car.specs.Car.{Intake, measured_of, figures_of, alone_tests}
use Rattle.accuracy.specs.declared.Errors.{Errors}
use Rattle.accuracy.specs.declared.Permitted.{Permitted}
use Rattle.accuracy.specs.Terms.{level_term, terms, sum_of_squares}
use Rattle.accuracy.specs.Limit.{IsLimit, within}

-- the errors by their six numbers, in the order in which 02 names them
abbrev pub errors_of : List ℕ → Errors
errors_of ns = record {
  capacity = get_or ns 0 0;
  density = get_or ns 1 0;
  processing = get_or ns 2 0;
  density_temperature = get_or ns 3 0;
  oil_temperature = get_or ns 4 0;
  level = get_or ns 5 0;
}

-- The terms of what is measured of a car, on its tables.

-- the rows around the mean level; on a row, that row and the one below
abbrev pub gap : List Table → Measured → Gap
gap ts m = rows_around (rows ts m) m.level

unfoldable pub level_term_of : List Table → Measured → Errors → ℕ
level_term_of ts m e = level_term e.level (gap ts m) (v0 ts m)

unfoldable pub terms_of : List Table → Measured → Errors → List ℕ
terms_of ts m e = terms e (level_term_of ts m e) (expansion m.density.0) m.temperature

-- The refusals.

-- the most of an error in 0.0001 %, of a temperature error in 0.1 °C, of the level error in 0.1 mm, and of the level term
abbrev pub most_share : ℕ
most_share = 10_000

abbrev pub most_temperature_error : ℕ
most_temperature_error = 20

abbrev pub most_level_error : ℕ
most_level_error = 100

abbrev pub most_level_term : ℕ
most_level_term = 10_000

-- 24: a given error is out of its range
abbrev pub errors_bad : Errors → Bool
errors_bad e =
    ltb most_share e.capacity
    || ltb most_share e.density
    || ltb most_share e.processing
    || ltb most_temperature_error e.density_temperature
    || ltb most_temperature_error e.oil_temperature
    || ltb most_level_error e.level

-- 25: V0 is 0 or the level term exceeds 10,000
abbrev pub level_term_bad : List Table → Measured → Errors → Bool
level_term_bad ts m e = eqb (v0 ts m) 0 || ltb most_level_term (level_term_of ts m e)

abbrev pub error_tests : Errors → List Test
error_tests e = refuse_if 24 (errors_bad e) ∷ []

abbrev pub term_tests : List Table → Measured → Errors → List Test
term_tests ts m e = refuse_if 25 (level_term_bad ts m e) ∷ []

-- those of the car alone come first
unfoldable pub permitted_tests : List Table → Intake → Errors → List Test
permitted_tests ts c e = alone_tests ts c ++ (error_tests e ++ term_tests ts (measured_of c) e)

-- The answer: the six figures, the limit, and 1 where it is within, 0 where not.

abbrev pub eight_figures : List Table → Intake → ℕ → List ℕ
eight_figures ts c n = figures_of ts c ++ (n ∷ one_if (within n (mass gross ts (measured_of c))) ∷ [])

-- a is the answer, with this limit where there is no refusal
pub record PermittedAnswer (ts : List Table) (c : Intake) (e : Errors) (a : Answer) : Type 0 where
  pub limit : ℕ
  pub smallest : first (permitted_tests ts c e) ≡ accepts → IsLimit (sum_of_squares (terms_of ts (measured_of c) e)) limit
  pub answered : a ≡ answer (first (permitted_tests ts c e)) (eight_figures ts c limit)

-- and there is no other
pub record OnlyAnswer (ts : List Table) (c : Intake) (e : Errors) (a : Answer) : Type 0 where
  pub right : PermittedAnswer ts c e a
  pub only : (b : Answer) → PermittedAnswer ts c e b → b ≡ a

-- what the code's answer says
abbrev pub permitted_told : Result Permitted Refusal → Answer
permitted_told =
    told
    (λ p. p.figures.number
    ∷ p.figures.level
    ∷ p.figures.v0
    ∷ p.figures.v15
    ∷ p.figures.gross
    ∷ p.figures.net
    ∷ p.limit
    ∷ one_if p.within
    ∷ [])
