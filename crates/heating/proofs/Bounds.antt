-- How large B, X, E and a density are at most: the bounds of the budget.
use Prim.Native.Nat.{ℕ, zero, suc, ◌+◌, ◌*◌, ◌≤◌}
use native.Mathlib.Nat.{mul-le-mul, mul-le-mul_left}
use native.Mathlib.Omega.{arith}
use Rattle.base.specs.Rounding.{rounded}
use Rattle.base.proofs.Near.{near_self, near_weaken}
use Rattle.base.proofs.Rounding.{round_high, round_le}
use Rattle.heating.specs.Exact.{seven}
use Rattle.heating.specs.Limits.{lowest_density, DensityInRange}
use Rattle.heating.specs.Inner.{most_above15, most_expansion, most_exponent, most_factor}
use Rattle.heating.specs.Steps
use Rattle.heating.proofs.Budget.{expansion_error, expansion_near, exponent_near, factor_near}

pub expansion_most : {r : ℕ} → lowest_density ≤ r → Steps.expansion r ≤ most_expansion
expansion_most {r} h = (expansion_near r h).most

pub exponent_most : {b d : ℕ} → b ≤ most_expansion → d ≤ most_above15 → Steps.exponent b d ≤ most_exponent
exponent_most {b} {d} h k = (exponent_near d k (near_weaken most_expansion expansion_error h (omega arith) (near_self b))).most

-- step 6: a term is at most a thirty-second of the one before it, but for the rounding; n is its number times 10¹⁰
quotient_small : (v n u x : ℕ) → 2 * Steps.unity ≤ n → x ≤ most_exponent → 2 * (v * n) ≤ 2 * (u * x) + n → 32 * v ≤ u + 32
quotient_small zero n u x hn hx h = omega arith
quotient_small (suc v) n u x hn hx h = omega (arith, mul-le-mul_left v hn, mul-le-mul_left u hx)

pub next_term_small : (u : ℕ) {x n : ℕ} → 2 * Steps.unity ≤ n → x ≤ most_exponent → 32 * rounded (u * x) n ≤ u + 32
next_term_small u {x} {n} hn hx = quotient_small (rounded (u * x) n) n u x hn hx (round_high (u * x) n)

pub factor_most : {r d : ℕ} → lowest_density ≤ r → d ≤ most_above15 → Steps.factor r d ≤ most_factor
factor_most {r} {d} h k = (factor_near seven r d h k).most

pub density_most : {r d : ℕ} → DensityInRange r → d ≤ most_above15 → Steps.density_at r d ≤ 9_919
unfolding Steps.density_at
density_most {r} {d} h k = round_le 9_919 (omega arith) (omega (arith, mul-le-mul h.dense (factor_most {d = d} h.light k)))
