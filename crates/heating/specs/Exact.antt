-- The exact value of document 01, steps 4 to 6: nothing is rounded, in fractions, under the names of the rounded steps and in their units.
-- Nothing is taken from the rounded steps.
use Rattle.std.specs.Prelude.{ℕ, suc, zero, ◌+◌, ◌*◌}
use Rattle.base.specs.Fraction.{Frac, whole, ◌+ᶠ◌, ◌-ᶠ◌, ◌*ᶠ◌, ◌/ᶠ◌}

-- step 4: B
unfoldable pub expansion : ℕ → Frac
expansion r = whole (18_696_960_000_000 + 4_861_800_000 * r) /ᶠ (r * r)

-- step 5: Y, then X
abbrev pub linear_term : Frac → ℕ → Frac
linear_term b d = b *ᶠ whole d

unfoldable pub exponent : Frac → ℕ → Frac
exponent b d = linear_term b d +ᶠ whole 8 *ᶠ (linear_term b d *ᶠ linear_term b d) /ᶠ 100_000_000_000

-- 1 in the unit 10⁻¹⁰
abbrev pub unity : ℕ
unity = 10_000_000_000

-- step 6: the term of power k of the series of the exponential
unfoldable pub term : ℕ → Frac → Frac
term zero x = whole unity
term (suc zero) x = x
term (suc (suc k)) x = term (suc k) x *ᶠ x /ᶠ (suc (suc k) * unity)

-- the terms of powers n, n − 2, n − 4 and so on, added up
unfoldable pub terms : ℕ → Frac → Frac
terms zero x = term zero x
terms (suc zero) x = term 1 x
terms (suc (suc n)) x = terms n x +ᶠ term (suc (suc n)) x

-- the last power of the series
pub data Power : Type 0 where
  seven eight : Power

-- the sum of the series of the exponential of −x to that power: even powers are added, odd ones are taken off
unfoldable pub series : Power → Frac → Frac
series seven x = terms 6 x -ᶠ terms 7 x
series eight x = terms 8 x -ᶠ terms 7 x

-- step 6: E(d) for the density r at 15 °C
unfoldable pub factor : Power → ℕ → ℕ → Frac
factor p r d = series p (exponent (expansion r) d)
