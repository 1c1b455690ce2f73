-- What is handed back, said over exact fractions, and of 29 place by place: without tests, without the stick level times m, and without R.
use Rattle.std.specs.Prelude.{ℕ, ◌+◌, ◌*◌, ◌≤◌, ◌<◌, ◌≡◌, Bool, true, false, List, Result, Ok, Err, ◌⊎◌, get_or}
use Rattle.base.specs.Fraction.{Frac, whole, ◌-ᶠ◌, ◌*ᶠ◌, ◌/ᶠ◌, ◌≤ᶠ◌}
use Rattle.base.specs.declared.refusal.Refusal.{Refusal}
use Rattle.base.specs.Refusal.{refusal_number}
use Rattle.base.specs.Limits.{highest_level, tenths}
use Rattle.dip.specs.Tape.{listed}
use Rattle.comparison.specs.declared.Comparison.{Comparison}
use Rattle.comparison.specs.Answers.{fewest_readings, most_readings, given, sum_of, check_told}

-- Exact, in mm: the stick level, the mean of m readings by their sum, and by how much the stick lies above the mean and below it, of which one is 0.

abbrev pub stick_level : ℕ → Frac
stick_level stick = whole stick /ᶠ tenths

abbrev pub tape_mean : ℕ → ℕ → Frac
tape_mean sum m = whole sum /ᶠ m

abbrev pub above_mean : ℕ → ℕ → ℕ → Frac
above_mean stick sum m = stick_level stick -ᶠ tape_mean sum m

abbrev pub below_mean : ℕ → ℕ → ℕ → Frac
below_mean stick sum m = tape_mean sum m -ᶠ stick_level stick

-- n is the nearest whole number to x; of two as near it is the larger
pub record NearestTo (x : Frac) (n : ℕ) : Type 0 where
  pub high : 2 * (n * x.den) ≤ 2 * x.num + x.den
  pub low : 2 * x.num < 2 * (n * x.den) + x.den

-- the size shown is that of the side on which the stick lies, in 0.01 mm; the other side is 0
pub record SideRight (side other : Frac) (size : ℕ) : Type 0 where
  pub nearest : NearestTo (whole 100 *ᶠ side) size
  pub nought : other ≤ᶠ whole 0

-- a negative difference says how far the stick lies below the mean, and is not 0; any other how far above
abbrev pub SignedRight : ℕ → ℕ → ℕ → Bool → ℕ → Type 0
SignedRight stick sum m true size = SideRight (below_mean stick sum m) (above_mean stick sum m) size × (0 < size)
SignedRight stick sum m false size = SideRight (above_mean stick sum m) (below_mean stick sum m) size

-- at most 2 mm either way
pub record AtMostTwo (stick sum m : ℕ) : Type 0 where
  pub above : above_mean stick sum m ≤ᶠ whole 2
  pub below : below_mean stick sum m ≤ᶠ whole 2

-- it passes there and nowhere else, which is the same as a shown size of at most 200
pub record PassRight (stick sum m size : ℕ) (passes : Bool) : Type 0 where
  pub there : AtMostTwo stick sum m → passes ≡ true
  pub nowhere_else : passes ≡ true → AtMostTwo stick sum m
  pub shown : passes ≡ true → size ≤ 200
  pub shown_back : size ≤ 200 → passes ≡ true

-- n is from low to high
pub record Between (low high n : ℕ) : Type 0 where
  pub least : low ≤ n
  pub most : n ≤ high

-- the number of readings is in the range of 28
abbrev pub CountInRange : ℕ → Type 0
CountInRange count = Between fewest_readings most_readings count

-- every given reading and the stick level are in the range of 29
pub record LevelsInRange (stick count : ℕ) (places : List ℕ) : Type 0 where
  pub readings : (i : ℕ) → i < count → Between 1 highest_level (get_or places i 0)
  pub level : Between tenths (tenths * highest_level) stick

-- a comparison is handed back
pub record ComparisonRight (stick count : ℕ) (places : List ℕ) (x : Comparison) : Type 0 where
  pub counted : CountInRange count
  pub levels : LevelsInRange stick count places
  pub difference : SignedRight stick (sum_of (given count places)) count x.difference.negative x.difference.size
  pub passes : PassRight stick (sum_of (given count places)) count x.difference.size x.passes
  pub allowance : x.allowance ≡ listed stick

abbrev pub ToldRight : ℕ → ℕ → List ℕ → Result Comparison Refusal → Type 0
ToldRight stick count places (Ok x) = ComparisonRight stick count places x
ToldRight stick count places (Err r) =
    ((refusal_number r ≡ 28) × (CountInRange count → ⊥)) ⊎ ((refusal_number r ≡ 29) × CountInRange count × (LevelsInRange stick count places → ⊥))

-- a is right so, and whatever else is says the same
pub record ToldOnly (stick count : ℕ) (places : List ℕ) (a : Result Comparison Refusal) : Type 0 where
  pub right : ToldRight stick count places a
  pub only : (b : Result Comparison Refusal) → ToldRight stick count places b → check_told b ≡ check_told a
