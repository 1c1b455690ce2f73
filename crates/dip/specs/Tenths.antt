-- The mean level of request (g), said without R: of two readings five times their sum, exactly; of three, within a third of a tenth of ten times their
-- mean, and so the one tenth that is nearest. Readings are in mm, the mean level is in tenths of a mm.
use Rattle.std.specs.Prelude.{ℕ, ◌+◌, ◌*◌, ◌≤◌, ◌≡◌, true, false, List, [], ◌∷◌, get_or}
use Rattle.base.specs.Answer.{Answer, figures}
use Rattle.dip.specs.Level.{sorted, closest_of, sum_of_three, apart}

-- three times a level beside ten times the sum of three readings
pub record Thirds (level sum : ℕ) : Type 0 where
  pub most : 3 * level ≤ 10 * sum + 1
  pub least : 10 * sum ≤ 3 * level + 1

-- an answer to the readings x that is a level
pub record TenthsRight (x : List ℕ) (a : Answer) : Type 0 where
  pub two : (level : ℕ) → a ≡ figures (level ∷ []) → apart (get_or x 0 0) (get_or x 1 0) ≡ false → level ≡ 5 * (get_or x 0 0 + get_or x 1 0)
  pub three : (level : ℕ) → a ≡ figures (level ∷ []) → apart (get_or x 0 0) (get_or x 1 0) ≡ true → Thirds level (sum_of_three (closest_of (sorted x)))
