-- How far B, X, the series and E lie from the exact ones, in hundredths of each one's unit, by how far what goes into it lies.
use mathlib.Core.Path.{◌≡◌}
use Prim.Native.Nat.{ℕ, zero, suc, ◌+◌, ◌*◌, ◌-◌, ◌/◌, ◌≤◌}
use native.Mathlib.Nat.{mul-le-mul_right, mul-pos}
use native.Mathlib.Omega.{arith}
use Rattle.base.specs.Fraction.{Frac}
use Rattle.base.proofs.Near.{Near, near_whole, near_self, near_weaken, near_left_out, near_add, near_sub, near_mul, near_round, near_quotient}
use Rattle.heating.specs.Exact.{Power, seven, eight}
use Rattle.heating.specs.Limits.{lowest_density}
use Rattle.heating.specs.Uncut.{AddsUp}
use Rattle.heating.specs.Inner.{most_above15, most_expansion, most_exponent, most_factor}
use Rattle.heating.specs.Steps
use Rattle.heating.specs.Exact

-- the distances of B, X and E
abbrev pub expansion_error : ℕ
expansion_error = 50

abbrev pub exponent_error : ℕ
exponent_error = 41_020

abbrev pub factor_error : ℕ
factor_error = 44_034

-- B
pub expansion_near : (r : ℕ) → lowest_density ≤ r → Near 100 most_expansion expansion_error (Steps.expansion r) (Exact.expansion r)
unfolding Steps.expansion Exact.expansion
expansion_near r h =
    near_round (r * r) most_expansion expansion_error (mul-pos {m = r} {n = r} (omega arith) (omega arith))
    (omega (arith, mul-le-mul_right r h)) (omega arith) (near_self (18_696_960_000_000 + 4_861_800_000 * r))

-- X
pub exponent_near : {b : ℕ} {β : Frac} (d : ℕ) → d ≤ most_above15 → Near 100 most_expansion expansion_error b β
    → Near 100 most_exponent exponent_error (Steps.exponent b d) (Exact.exponent β d)
unfolding Steps.exponent Exact.exponent
exponent_near d h v =
    let y = near_mul v (near_whole most_above15 h) in
    near_add y (near_quotient 100_000_000_000 (omega arith) (near_mul (near_self 8) (near_mul y y)))

-- a bound of the term after the k-th, and its distance
abbrev most : ℕ → ℕ
most zero = most_exponent
most (suc k) = most k * most_exponent / (suc (suc k) * Steps.unity) + 1

abbrev error : ℕ → ℕ
error zero = exponent_error
error (suc k) = (most k * exponent_error + most_exponent * error k) / (suc (suc k) * Steps.unity) + 51

-- u1 to u6 and the sum of the series
module _ {x : ℕ} {ξ : Frac} (v : Near 100 most_exponent exponent_error x ξ) where
  term_near : (k : ℕ) → Near 100 (most k) (error k) (Steps.term (suc k) x) (Exact.term (suc k) ξ)
  unfolding Steps.term Exact.term
  term_near zero = v
  term_near (suc k) = near_quotient (suc (suc k) * Steps.unity) (omega arith) (near_mul (term_near k) v)

  -- no difference of step 6 is cut off
  pub series_adds_up : AddsUp x
  unfolding Steps.series Steps.term
  series_adds_up = omega (arith, v.most, (term_near 2).most, (term_near 4).most)

  -- so the added terms can be gathered, and those taken off
  gathered : Steps.series x ≡ Steps.unity + Steps.term 2 x + Steps.term 4 x + Steps.term 6 x - (x + Steps.term 3 x + Steps.term 5 x)
  unfolding Steps.term
  gathered = omega (arith, series_adds_up)

  even_near : Near 100 10_018_308_165 2_636 (Steps.unity + Steps.term 2 x + Steps.term 4 x + Steps.term 6 x) (Exact.terms 6 ξ)
  unfolding Exact.term Exact.terms
  even_near = near_add (near_add (near_add (near_self Steps.unity) (term_near 1)) (term_near 3)) (term_near 5)

  pub odd_near : Near 100 605_391_154 41_298 (x + Steps.term 3 x + Steps.term 5 x) (Exact.terms 7 ξ)
  unfolding Exact.term Exact.terms
  odd_near = near_left_out (near_add (near_add v (term_near 2)) (term_near 4)) (term_near 6)

  series_near : (p : Power) → Near 100 most_factor factor_error (Steps.series x) (Exact.series p ξ)
  unfolding Exact.series Exact.terms
  series_near seven = rw gathered (near_weaken _ _ (omega arith) (omega arith) (near_sub even_near odd_near))
  series_near eight = rw gathered (near_sub (near_left_out even_near (term_near 7)) odd_near)

-- E(d)
pub factor_near : (p : Power) (r d : ℕ) → lowest_density ≤ r → d ≤ most_above15 → Near 100 most_factor factor_error (Steps.factor r d) (Exact.factor p r d)
unfolding Steps.factor Exact.factor
factor_near p r d hr hd = series_near (exponent_near d hd (expansion_near r hr)) p
