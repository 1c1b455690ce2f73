-- From one field to the next the density at a laboratory's temperature rises by 1 or 2: r × B falls fast enough that r × (1 − E) falls
-- too, so that r × E rises by 1 at least; and by 2 at most.
use Prim.Native.Nat.{ℕ, ◌+◌, ◌-◌, ◌*◌, ◌≤◌, ◌<◌}
use mathlib.Core.Path.{◌≡◌, subst}
use native.Mathlib.Nat.{mul-le-mul, mul-le-mul_left, mul-le-mul_right, le_of_mul-le-mul_left}
use native.Mathlib.Omega.{arith}
use Rattle.base.proofs.Rounding.{round_high, round_low}
use Rattle.heating.specs.Limits.{lowest_density, highest_density}
use Rattle.heating.specs.Inner.{most_above15, most_expansion, most_exponent}
use Rattle.heating.specs.Steps.{expansion, exponent, unity, series, factor, density_at}
use Rattle.heating.proofs.Bounds.{expansion_most, exponent_most}
use Rattle.laboratory.proofs.Expansion.{expansion_falls, expansion_falls_most}
use Rattle.laboratory.proofs.Exponent.{exponent_rises, exponent_rises_most, exponent_small}
use Rattle.laboratory.proofs.Series.{series_falls, series_falls_most, series_near_one, series_most}

-- by how much r × E rises from r to the next field
record Step (r e f : ℕ) : Type 0 where
  least : r * e + unity ≤ (r + 1) * f
  most : (r + 1) * f ≤ r * e + 2 * unity

-- r × E, from a field r with B = c + k to the next one with B = c, whose X is x + q and x
step_of_x : (r c k d q : ℕ) → (r + 1) * c + 180_000 ≤ r * (c + k) → k * d ≤ q → d * (c + k + 180_000) ≤ (r + 1) * q
step_of_x r c k d q h g = omega (arith, mul-le-mul_left d h, mul-le-mul_left (r + 1) g)

step_of_product : (r b d x q : ℕ) → r < highest_density → b ≤ most_expansion → 50 ≤ d → x + q ≤ most_exponent
    → 100 * (x + q) ≤ 105 * (b * d) + 100 → d * (b + 180_000) ≤ (r + 1) * q
    → r * series (x + q) + unity ≤ (r + 1) * series x
step_of_product r b d x q dense hb hd hx small rise =
    omega (arith, small, rise, mul-le-mul_right d hb, mul-le-mul_left (r + 1) (series_falls x q hx), series_near_one (x + q) hx)

-- and the other way
step_of_x_most : (r c k d q : ℕ) → r < highest_density → c ≤ most_expansion → d ≤ most_above15 → r * (c + k) ≤ (r + 1) * c + 250_000 → q ≤ 2 * (k * d) + 1
    → r * q ≤ 1_600_000_000
step_of_x_most r c k d q dense hc hd h g =
    let rk : r * k ≤ most_expansion + 250_000 = omega (arith, h) in
    omega (arith, mul-le-mul_left r g, mul-le-mul rk hd)

step_of_product_most : (r x q : ℕ) → r < highest_density → x + q ≤ most_exponent → r * q ≤ 1_600_000_000
    → (r + 1) * series x ≤ r * series (x + q) + 2 * unity
step_of_product_most r x q dense hx rise =
    omega (arith, rise, mul-le-mul_left r (series_falls_most x q hx), series_most x (omega arith))

step_of_b : (r c k d : ℕ) → r < highest_density → c + k ≤ most_expansion → 50 ≤ d → d ≤ most_above15
    → (r + 1) * c + 180_000 ≤ r * (c + k) → r * (c + k) ≤ (r + 1) * c + 250_000
    → Step r (series (exponent (c + k) d)) (series (exponent c d))
step_of_b r c k d dense hb warm hot falls falls-most =
    let x = exponent c d in
    let y = exponent (c + k) d in
    let rise = exponent_rises c k d in
    let rise-most = exponent_rises_most c k d hb hot in
    let e : x + (y - x) ≡ y = omega (arith, rise) in
    let most : x + (y - x) ≤ most_exponent = rw e (exponent_most {b = c + k} hb hot) in
    let least : k * d ≤ y - x = omega (arith, rise) in
    let greatest : y - x ≤ 2 * (k * d) + 1 = omega (arith, rise-most) in
    subst (λ (z : ℕ). Step r (series z) (series x)) e
    record {
      least = step_of_product r (c + k) d x (y - x) dense hb warm most (rw e (exponent_small (c + k) d hb hot)) (step_of_x r c k d (y - x) falls least);
      most = step_of_product_most r x (y - x) dense most (step_of_x_most r c k d (y - x) dense (omega arith) hot falls-most greatest);
    }

product_rises : (r d : ℕ) → lowest_density ≤ r → r < highest_density → 50 ≤ d → d ≤ most_above15 → Step r (factor r d) (factor (r + 1) d)
unfolding factor
product_rises r d light dense warm hot =
    let c = expansion (r + 1) in
    let k = expansion r - c in
    let falls = expansion_falls r light dense in
    let less : c ≤ expansion r = le_of_mul-le-mul_left {k = r} (omega (arith, falls)) (omega arith) in
    let e : c + k ≡ expansion r = omega (arith, less) in
    subst (λ (b : ℕ). Step r (series (exponent b d)) (series (exponent c d))) e
    (step_of_b r c k d dense (rw e (expansion_most light)) warm hot (rw e falls) (rw e (expansion_falls_most r light dense)))

-- from a field to the next the density there rises by 1 or 2
pub record Rises (a b : ℕ) : Type 0 where
  pub least : a < b
  pub most : b ≤ a + 2

pub density_rises : (r d : ℕ) → lowest_density ≤ r → r < highest_density → 50 ≤ d → d ≤ most_above15 → Rises (density_at r d) (density_at (r + 1) d)
unfolding density_at
density_rises r d light dense warm hot =
    let step = product_rises r d light dense warm hot in
    let n = r * factor r d in
    let m = (r + 1) * factor (r + 1) d in
    record {
      least = omega (arith, step.least, round_high n unity, round_low m {d = unity} (omega arith));
      most = omega (arith, step.most, round_high m unity, round_low n {d = unity} (omega arith));
    }
