-- The exact difference of stick and mean, as fractions, is the one by parts: its numerators, its denominator, and what is nearest to it.
use Prim.Native.Nat.{ℕ, ◌+◌, ◌-◌, ◌*◌, ◌≤◌, ◌<◌}
use mathlib.Core.Path.{◌≡◌, sym}
use mathlib.Core.Logic.{inl, inr}
use native.Mathlib.Nat.{mul-le-mul_right, suc-pred-eq_of_pos}
use native.Mathlib.Omega.{arith}
use Rattle.base.specs.Rounding.{rounded}
use Rattle.base.specs.Fraction.{Frac, whole, ◌-ᶠ◌, ◌*ᶠ◌, ◌/ᶠ◌}
use Rattle.base.specs.Limits.{in_tenths}
use Rattle.base.proofs.Choice.{below}
use Rattle.base.proofs.Rounding.{round_high, round_low}
use Rattle.comparison.specs.Difference.{parts}
use Rattle.comparison.specs.Told.{above_mean, below_mean, NearestTo}

-- There is one nearest only.

nearest_most : {x : Frac} {n k : ℕ} → NearestTo x n → NearestTo x k → n ≤ k
nearest_most {x} {n} {k} p q =
    elim (below k n) [
      | inl h ↦ absurd (omega (arith, p.high, q.low, mul-le-mul_right {m = k + 1} {n = n} x.den (omega arith)))
      | inr h ↦ h
    ]

pub nearest_only : {x : Frac} {n k : ℕ} → NearestTo x n → NearestTo x k → n ≡ k
nearest_only p q = omega (arith, nearest_most p q, nearest_most q p)

-- The two sides, of m readings.

module _ (stick sum m : ℕ) (p : 0 < m) where
  pub above_num : (above_mean stick sum m).num ≡ stick * m - in_tenths sum
  unfolding whole ◌-ᶠ◌ ◌/ᶠ◌
  above_num = rw (suc-pred-eq_of_pos p) (omega arith)

  pub above_den : (above_mean stick sum m).den ≡ parts m
  unfolding whole ◌-ᶠ◌ ◌/ᶠ◌
  above_den = rw (suc-pred-eq_of_pos p) (omega arith)

  pub below_num : (below_mean stick sum m).num ≡ in_tenths sum - stick * m
  unfolding whole ◌-ᶠ◌ ◌/ᶠ◌
  below_num = rw (suc-pred-eq_of_pos p) (omega arith)

  pub below_den : (below_mean stick sum m).den ≡ parts m
  unfolding whole ◌-ᶠ◌ ◌/ᶠ◌
  below_den = rw (suc-pred-eq_of_pos p) (omega arith)

-- R of 100 times a side is nearest to it
pub nearest_side : (side : Frac) {n d : ℕ} → side.num ≡ n → side.den ≡ d → NearestTo (whole 100 *ᶠ side) (rounded (100 * n) d)
unfolding whole ◌*ᶠ◌
nearest_side side e f =
    rw (sym e, sym f) record {
      high = omega (arith, round_high (100 * side.num) side.den);
      low = omega (arith, round_low (100 * side.num) side.pos);
    }
