-- How many cars are accepted and their total masses: of all cars, and of those of each grade.
use Rattle.std.specs.Prelude.{ℕ, ◌+◌, ◌-◌, Bool, true, false, cond, ◌&&◌, List, [], ◌∷◌, eqb, length, get_or, replicate}
use Rattle.base.specs.Limits.{grade_count}
use Rattle.base.specs.Total.{total, selected}
use Rattle.car.specs.Measured.{Mass, gross, net}
use Rattle.summing.specs.declared.Totals.{Totals}
use Rattle.summing.specs.declared.Sums.{Sums}

-- an accepted car in the sums: its grade, and the gross and net shown for it, in kg
pub record Shown : Type 0 where
  pub grade : ℕ
  pub gross : ℕ
  pub net : ℕ

abbrev pub shown_mass : Mass → Shown → ℕ
shown_mass gross s = s.gross
shown_mass net s = s.net

-- The sums over a list of cars.

abbrev pub of_grade : ℕ → List Shown → List Shown
of_grade g ss = selected (λ s. eqb s.grade g) ss

unfoldable pub totals_of : List Shown → Totals
totals_of ss = record { accepted = length ss; gross = total (shown_mass gross) ss; net = total (shown_mass net) ss }

unfoldable pub sums_of : List Shown → Sums
sums_of ss = record {
  all = totals_of ss;
  grades = totals_of (of_grade 1 ss) ∷ totals_of (of_grade 2 ss) ∷ totals_of (of_grade 3 ss) ∷ totals_of (of_grade 4 ss) ∷ [];
}

-- The sums that a train keeps.

-- the greatest total, in kg
abbrev pub most_in_train : ℕ
most_in_train = 12_000_000

-- totals by their numbers
abbrev pub totals_from : ℕ → ℕ → ℕ → Totals
totals_from n g k = record { accepted = n; gross = g; net = k }

abbrev pub no_totals : Totals
no_totals = totals_from 0 0 0

abbrev pub no_sums : Sums
no_sums = record { all = no_totals; grades = replicate grade_count no_totals }

-- a total, in kg
abbrev pub total_in : Mass → Totals → ℕ
total_in gross t = t.gross
total_in net t = t.net

-- the totals of a grade, which stand from grade 1 on
abbrev pub grade_totals : ℕ → Sums → Totals
grade_totals g s = get_or (no_totals ∷ s.grades) g no_totals

-- totals taken together
abbrev pub together : List Totals → Totals
together ts = record {
  accepted = total (λ t. t.accepted) ts;
  gross = total (total_in gross) ts;
  net = total (total_in net) ts;
}

abbrev pub same_totals : Totals → Totals → Bool
same_totals a b = eqb a.accepted b.accepted && eqb a.gross b.gross && eqb a.net b.net

abbrev pub same_each : List Totals → List Totals → Bool
same_each [] [] = true
same_each [] (u ∷ us) = false
same_each (t ∷ ts) [] = false
same_each (t ∷ ts) (u ∷ us) = same_totals t u && same_each ts us

-- of all cars, and of each grade
abbrev pub same_sums : Sums → Sums → Bool
same_sums a b = same_totals a.all b.all && same_each a.grades b.grades

-- with one car more, and with one less
abbrev pub with_car : Shown → Totals → Totals
with_car s t = record { accepted = t.accepted + 1; gross = t.gross + s.gross; net = t.net + s.net }

abbrev pub without_car : Shown → Totals → Totals
without_car s t = record { accepted = t.accepted - 1; gross = t.gross - s.gross; net = t.net - s.net }

-- of totals by grade, the first of them of the grade g, those of a car's grade are changed
abbrev pub grade_changed : (Totals → Totals) → ℕ → ℕ → List Totals → List Totals
grade_changed change grade g [] = []
grade_changed change grade g (t ∷ ts) = cond (eqb grade g) (change t) t ∷ grade_changed change grade (g + 1) ts

-- the sums, changed for a car in those of all cars and of its grade
abbrev pub sums_changed : (Totals → Totals) → ℕ → Sums → Sums
sums_changed change grade s = record { all = change s.all; grades = grade_changed change grade 1 s.grades }

abbrev pub sums_with : Sums → Shown → Sums
sums_with sums s = sums_changed (with_car s) s.grade sums

abbrev pub sums_without : Sums → Shown → Sums
sums_without sums s = sums_changed (without_car s) s.grade sums
