-- What functions of sums ask for and answer; it is no part of what sums mean.
use Rattle.std.specs.Prelude.{ℕ, ◌*◌, ◌≤◌, ◌≡◌, Result, Ok, Err, get_or}
use Rattle.base.specs.Limits.{most_cars, grade_count}
use Rattle.base.specs.declared.refusal.Refusal.{Refusal}
use Rattle.car.specs.declared.Figures.{Figures}
use Rattle.summing.specs.declared.Totals.{Totals}
use Rattle.summing.specs.declared.Sums.{Sums}
use Rattle.summing.specs.Sums.{Shown, most_in_train, no_totals, together}

-- totals to which a car may be added
pub record Low (t : Totals) : Type 0 where
  pub few : t.accepted ≤ most_cars
  pub gross_low : t.gross ≤ most_in_train
  pub net_low : t.net ≤ most_in_train

-- sums within the limits of a train, those of all cars being those of the grades
pub record Sound (s : Sums) : Type 0 where
  pub low : Low s.all
  pub split : s.all ≡ together s.grades

abbrev pub shown_as : ℕ → ℕ → ℕ → Shown
shown_as grade gross net = record { grade = grade; gross = gross; net = net }

-- totals, and sums, of at most n cars whose masses fit 32 bits: no sum of so few overflows
pub record Small (n : ℕ) (t : Totals) : Type 0 where
  pub few : t.accepted ≤ n
  pub gross_low : t.gross ≤ 4_294_967_295 * n
  pub net_low : t.net ≤ 4_294_967_295 * n

pub record Room (n : ℕ) (s : Sums) : Type 0 where
  pub all : Small n s.all
  pub grade : (k : ℕ) → Small n (get_or s.grades k no_totals)

-- a car is accepted only with a grade that there is
abbrev pub Graded : ℕ → Result Figures Refusal → Type 0
Graded grade (Ok f) = (1 ≤ grade) × (grade ≤ grade_count)
Graded grade (Err r) = Unit {0}
