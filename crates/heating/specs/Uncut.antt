-- That nothing is cut off in the series of step 6: a difference of numbers or of fractions stops at 0, and one that was cut off does not add up again.
use Rattle.std.specs.Prelude.{ℕ, ◌+◌, ◌≡◌}
use Rattle.base.specs.Fraction.{Frac, ◌+ᶠ◌, ◌≤ᶠ◌}
use Rattle.heating.specs.Exact.{seven, eight}
use Rattle.heating.specs.Steps
use Rattle.heating.specs.Exact

-- the rounded series for the exponent x, with the terms that are taken off, makes up those that are added
abbrev pub AddsUp : ℕ → Type 0
AddsUp x =
    Steps.series x + (Steps.term 1 x + Steps.term 3 x + Steps.term 5 x) ≡ Steps.unity + Steps.term 2 x + Steps.term 4 x + Steps.term 6 x

-- likewise the exact series to power 7 and to power 8
pub record AddsUpˣ (x : Frac) : Type 0 where
  pub seven_low : Exact.terms 6 x ≤ᶠ Exact.series seven x +ᶠ Exact.terms 7 x
  pub seven_high : Exact.series seven x +ᶠ Exact.terms 7 x ≤ᶠ Exact.terms 6 x
  pub eight_low : Exact.terms 8 x ≤ᶠ Exact.series eight x +ᶠ Exact.terms 7 x
  pub eight_high : Exact.series eight x +ᶠ Exact.terms 7 x ≤ᶠ Exact.terms 8 x

-- E(d) for the density r at 15 °C, rounded and exact
pub record FactorUncut (r d : ℕ) : Type 0 where
  pub rounded : AddsUp (Steps.exponent (Steps.expansion r) d)
  pub exact : AddsUpˣ (Exact.exponent (Exact.expansion r) d)
