-- The stick level less the mean of the tape, over the sum of the readings: the figure with its sign, and whether it passes.
use Rattle.std.specs.Prelude.{ℕ, ◌*◌, Bool, ltb, leb}
use Rattle.base.specs.Rounding.{rounded}
use Rattle.base.specs.Numbers.{difference}
use Rattle.base.specs.Limits.{tenths, in_tenths}
use Rattle.comparison.specs.declared.Difference.{Difference}

-- The stick level is in tenths of a mm, the m readings and their sum in mm. Stick level and mean are compared after each was taken m times, so that
-- nothing is divided: then 10 × m parts make a mm.

abbrev pub parts : ℕ → ℕ
parts m = tenths * m

-- a less b, both in parts of which d make a mm: in 0.01 mm by its sign and its size, a half of the size going up and so away from zero
unfoldable pub signed : ℕ → ℕ → ℕ → Difference
signed a b d = record { negative = ltb a b; size = rounded (100 * difference a b) d }

-- a and b, in such parts, are at most 2 mm apart
unfoldable pub close : ℕ → ℕ → ℕ → Bool
close a b d = leb (difference a b) (2 * d)

-- the stick level less the mean of m readings
abbrev pub difference_of : ℕ → ℕ → ℕ → Difference
difference_of stick sum m = signed (stick * m) (in_tenths sum) (parts m)

-- the unrounded difference is at most 2 mm either way
abbrev pub passes_for : ℕ → ℕ → ℕ → Bool
passes_for stick sum m = close (stick * m) (in_tenths sum) (parts m)
