-- From one field to the next r × B falls, by 180,000 at least and 250,000 at most.
use Prim.Native.Nat.{ℕ, ◌+◌, ◌*◌, ◌≤◌, ◌<◌}
use native.Mathlib.Nat.{mul-le-mul, mul-le-mul_left, mul-pos, le_of_mul-le-mul_left}
use native.Mathlib.Omega.{arith}
use Rattle.base.proofs.Rounding.{round_high, round_low}
use Rattle.heating.specs.Limits.{lowest_density, highest_density}
use Rattle.heating.specs.Steps.{expansion}

-- B × r² lies within half of r² of the numerator of step 4
module _ (r : ℕ) (light : lowest_density ≤ r) where
  expansion_high : 2 * (expansion r * (r * r)) ≤ 2 * (18_696_960_000_000 + 4_861_800_000 * r) + r * r
  unfolding expansion
  expansion_high = round_high (18_696_960_000_000 + 4_861_800_000 * r) (r * r)

  expansion_low : 2 * (18_696_960_000_000 + 4_861_800_000 * r) < 2 * (expansion r * (r * r)) + r * r
  unfolding expansion
  expansion_low = round_low (18_696_960_000_000 + 4_861_800_000 * r) (mul-pos {m = r} {n = r} (omega arith) (omega arith))

module _ (r : ℕ) (light : lowest_density ≤ r) (dense : r < highest_density) where
  -- both sides are compared times r × (r + 1)
  times : {m n : ℕ} → r * (r + 1) * m ≤ r * (r + 1) * n → m ≤ n
  times h = le_of_mul-le-mul_left h (mul-pos {m = r} {n = r + 1} (omega arith) (omega arith))

  next : lowest_density ≤ r + 1
  next = omega arith

  both : 2 * r + 1 ≤ 19_799
  both = omega arith

  pub expansion_falls : (r + 1) * expansion (r + 1) + 180_000 ≤ r * expansion r
  expansion_falls =
      let most : r ≤ 9_899 = omega arith in
      times
      (omega (
        arith,
        mul-le-mul most dense,
        mul-le-mul_left (r * (r + 1)) both,
        mul-le-mul_left r (expansion_high (r + 1) next),
        mul-le-mul_left (r + 1) (expansion_low r light),
      ))

  pub expansion_falls_most : r * expansion r ≤ (r + 1) * expansion (r + 1) + 250_000
  expansion_falls_most =
      times
      (omega (
        arith,
        mul-le-mul light next,
        mul-le-mul_left (r * (r + 1)) both,
        mul-le-mul_left (r + 1) (expansion_high r light),
        mul-le-mul_left r (expansion_low (r + 1) next),
      ))
