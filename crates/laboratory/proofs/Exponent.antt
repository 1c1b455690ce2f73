-- Step 5 of document 01 between bounds: how X rises with B.
use Prim.Native.Nat.{ℕ, ◌+◌, ◌*◌, ◌≤◌}
use native.Mathlib.Nat.{mul-le-mul, mul-le-mul_left, mul-le-mul_right}
use native.Mathlib.Omega.{arith}
use Rattle.base.proofs.Rounding.{round_high, round_low, round_mono}
use Rattle.heating.specs.Inner.{most_above15, most_expansion}
use Rattle.heating.specs.Steps.{exponent}

-- by d at least and by twice d at most for each unit
pub exponent_rises : (b k d : ℕ) → exponent b d + k * d ≤ exponent (b + k) d
unfolding exponent
exponent_rises b k d =
    let y : b * d ≤ (b + k) * d = mul-le-mul_right d (omega arith) in
    omega (arith, round_mono 100_000_000_000 (omega arith) (mul-le-mul_left 8 (mul-le-mul y y)))

pub exponent_rises_most : (b k d : ℕ) → b + k ≤ most_expansion → d ≤ most_above15 → exponent (b + k) d ≤ exponent b d + 2 * (k * d) + 1
unfolding exponent
exponent_rises_most b k d hb hd =
    let y = b * d in
    let z = (b + k) * d in
    omega (
      arith,
      round_high (8 * (z * z)) 100_000_000_000,
      round_low (8 * (y * y)) {d = 100_000_000_000} (omega arith),
      mul-le-mul_right (k * d) (mul-le-mul hb hd),
    )

-- it is at most 1.05 × Y + 1
pub exponent_small : (b d : ℕ) → b ≤ most_expansion → d ≤ most_above15 → 100 * exponent b d ≤ 105 * (b * d) + 100
unfolding exponent
exponent_small b d hb hd =
    let y = b * d in
    omega (arith, round_high (8 * (y * y)) 100_000_000_000, mul-le-mul_right y (mul-le-mul hb hd))
