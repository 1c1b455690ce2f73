-- In range nothing of step 6 is cut off at 0, neither in the rounded series nor in the exact one.
use Prim.Native.Nat.{ℕ, ◌≤◌}
use native.Mathlib.Omega.{arith}
use Rattle.base.specs.Fraction.{Frac, ◌≤ᶠ◌}
use Rattle.base.proofs.Fraction.{≤ᶠ-trans, ≤ᶠ-whole, ≤ᶠ-more, sub_whole}
use Rattle.base.proofs.Near.{Near}
use Rattle.heating.specs.Limits.{lowest_density}
use Rattle.heating.specs.Inner.{most_above15, most_exponent}
use Rattle.heating.specs.Uncut.{AddsUpˣ, FactorUncut}
use Rattle.heating.specs.Exact
use Rattle.heating.proofs.Budget.{exponent_error, expansion_near, exponent_near, odd_near, series_adds_up}

-- the odd terms of the exact series are below 1, which is the first of the even ones
exact_adds_up : {x : ℕ} {ξ : Frac} → Near 100 most_exponent exponent_error x ξ → AddsUpˣ ξ
unfolding Exact.term Exact.terms Exact.series
exact_adds_up {ξ = ξ} v =
    let one : Exact.terms 7 ξ ≤ᶠ Exact.term 0 ξ = ≤ᶠ-trans (odd_near v).bound (≤ᶠ-whole (omega arith)) in
    let six : Exact.terms 7 ξ ≤ᶠ Exact.terms 6 ξ = ≤ᶠ-trans (≤ᶠ-trans (≤ᶠ-trans one (≤ᶠ-more _ _)) (≤ᶠ-more _ _)) (≤ᶠ-more _ _) in
    let eight : Exact.terms 7 ξ ≤ᶠ Exact.terms 8 ξ = ≤ᶠ-trans six (≤ᶠ-more _ _) in
    record {
      seven_low = (sub_whole six).0;
      seven_high = (sub_whole six).1;
      eight_low = (sub_whole eight).0;
      eight_high = (sub_whole eight).1;
    }

pub factor_uncut : {r d : ℕ} → lowest_density ≤ r → d ≤ most_above15 → FactorUncut r d
factor_uncut {r} {d} hr hd =
    let v = exponent_near d hd (expansion_near r hr) in
    record { rounded = series_adds_up v; exact = exact_adds_up v }
