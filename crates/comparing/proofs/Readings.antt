-- Given readings as a loop passes them: one more, and how large their sum can be.
use Prim.Native.Nat.{ℕ, ◌+◌, ◌*◌, ◌≤◌, ◌<◌}
use mathlib.Core.Path.{◌≡◌, refl, ap, ◌∙◌}
use mathlib.Core.Bool.{false}
use mathlib.Core.List.{List, [], ◌∷◌}
use native.Mathlib.Numerals.{add-one}
use native.Mathlib.Omega.{arith}
use lib.ListN.{length, get_or}
use lib.Seq.{take-suc, length-take-le}
use Rattle.base.specs.Limits.{highest_level}
use Rattle.base.specs.Numbers.{outside}
use Rattle.base.specs.Total.{total}
use Rattle.base.proofs.Choice.{neither}
use Rattle.base.proofs.Numbers.{any_more, inside_back}
use Rattle.base.proofs.Total.{total-append}
use Rattle.comparison.specs.Answers.{given, sum_of, reading_bad}
use Rattle.comparison.proofs.Ranges.{readings_in}

sum_most : (l : List ℕ) → reading_bad l ≡ false → sum_of l ≤ highest_level * length l
unfolding total
sum_most [] e = omega arith
sum_most (x ∷ l) e = omega (arith, (readings_in (x ∷ l) e 0 (omega arith)).most, sum_most l (neither (outside 1 highest_level x) (reading_bad l) e).1)

-- The first n of a list.
module _ (l : List ℕ) (n : ℕ) where
  pub given_most : n ≤ length l → reading_bad (given n l) ≡ false → sum_of (given n l) ≤ highest_level * n
  given_most room e = omega (arith, sum_most (given n l) e, length-take-le n l room)

  -- one more
  pub more_good : n < length l → reading_bad (given n l) ≡ false → 1 ≤ get_or l n 0 → get_or l n 0 ≤ highest_level → reading_bad (given (n + 1) l) ≡ false
  more_good h e low high = any_more (outside 1 highest_level) l n h ∙ rw (e, inside_back 1 highest_level (get_or l n 0) low high) refl

  pub more_sum : {sum : ℕ} → n < length l → sum ≡ sum_of (given n l) → sum + get_or l n 0 ≡ sum_of (given (n + 1) l)
  unfolding total
  more_sum h same =
      let e : sum_of (given (n + 1) l) ≡ sum_of (given n l) + (get_or l n 0 + 0) =
      ap (λ (k : ℕ). sum_of (given k l)) (add-one n) ∙ ap sum_of (take-suc l n 0 h) ∙ total-append (λ (mm : ℕ). mm) (given n l) (get_or l n 0 ∷ []) in
      omega (arith, e, same)
