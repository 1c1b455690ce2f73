-- How large the terms, G, the sum of squares and the limit are at most, where neither 24 nor 25 applies.
use Prim.Native.Nat.{ℕ, ◌+◌, ◌*◌, ◌≤◌, ◌<◌}
use mathlib.Core.Path.{◌≡◌}
use mathlib.Core.Bool.{false}
use native.Mathlib.Nat.{mul-le-mul, mul-le-mul_left}
use native.Mathlib.Omega.{arith}
use borrow.Author.Tests.{ltb-false}
use Rattle.base.proofs.Choice.{neither}
use Rattle.base.proofs.Rounding.{round_high, round_most}
use Rattle.heating.specs.Limits.{highest_temperature}
use Rattle.heating.specs.Inner.{most_expansion}
use Rattle.accuracy.specs.declared.Errors.{Errors}
use Rattle.accuracy.specs.Terms.{temperature_term, density_factor, times_factor}
use Rattle.accuracy.specs.Permitted.{most_share, most_temperature_error, most_level_term, errors_bad}
use Rattle.accuracy.specs.Inner.{ErrorsInRange, most_temperature_term, most_density_factor, most_sum}

pub errors_in_range : (e : Errors) → errors_bad e ≡ false → ErrorsInRange e
errors_in_range e h =
    let a = neither _ _ h in
    let b = neither _ _ a.0 in
    let c = neither _ _ b.0 in
    let d = neither _ _ c.0 in
    let f = neither _ _ d.0 in
    record {
      capacity = ltb-false _ _ f.0;
      density = ltb-false _ _ f.1;
      processing = ltb-false _ _ d.1;
      density_temperature = ltb-false _ _ c.1;
      oil_temperature = ltb-false _ _ b.1;
      level = ltb-false _ _ a.1;
    }

pub temperature_term_most : {b e : ℕ} → b ≤ most_expansion → e ≤ most_temperature_error → temperature_term b e ≤ most_temperature_term
unfolding temperature_term
temperature_term_most {b} {e} h k = omega (arith, round_high (b * e) 10_000, mul-le-mul h k)

pub density_factor_most : {b t : ℕ} → b ≤ most_expansion → t ≤ highest_temperature → density_factor b t ≤ most_density_factor
unfolding density_factor
density_factor_most {b} {t} h k = round_most _ most_density_factor (omega arith) (omega (arith, mul-le-mul_left b k))

-- a term of at most k, times G
times_factor_most : {x g : ℕ} (k n : ℕ) → 2 * (k * most_density_factor) < (2 * n + 1) * 1_000_000 → x ≤ k → g ≤ most_density_factor → times_factor x g ≤ n
unfolding times_factor
times_factor_most k n p h i = round_most _ n (omega arith) (omega (arith, mul-le-mul h i))

pub density_term_most : {x g : ℕ} → x ≤ most_share → g ≤ most_density_factor → times_factor x g ≤ 11_130
density_term_most h i = times_factor_most most_share 11_130 (omega arith) h i

pub density_temperature_term_most : {x g : ℕ} → x ≤ most_temperature_term → g ≤ most_density_factor → times_factor x g ≤ 1_716
density_temperature_term_most h i = times_factor_most most_temperature_term 1_716 (omega arith) h i

-- the sum of the six squares
pub sum_most : {a l d k o p : ℕ} → a ≤ most_share → l ≤ most_level_term → d ≤ 11_130 → k ≤ 1_716 → o ≤ most_temperature_term → p ≤ most_share
    → a * a + l * l + d * d + k * k + o * o + p * p ≤ most_sum
sum_most ha hl hd hk ho hp =
    omega (arith, mul-le-mul ha ha, mul-le-mul hl hl, mul-le-mul hd hd, mul-le-mul hk hk, mul-le-mul ho ho, mul-le-mul hp hp)
