-- Steps 4, 5, 6 and 9 of document 01: how oil and its density change with temperature, each quotient rounded by R.
-- Temperatures are in 0.1 °C, densities in 0.1 kg/m³.
use Rattle.std.specs.Prelude.{ℕ, suc, zero, ◌+◌, ◌*◌, ◌-◌}
use Rattle.base.specs.Rounding.{rounded}

-- step 4: B for the density r at 15 °C, in 10⁻⁹ per °C
unfoldable pub expansion : ℕ → ℕ
expansion r = rounded (18_696_960_000_000 + 4_861_800_000 * r) (r * r)

-- step 5: Y = B × d for the coefficient b and d tenths of a degree above 15 °C, in 10⁻¹⁰
abbrev pub linear_term : ℕ → ℕ → ℕ
linear_term b d = b * d

-- step 5: X, in 10⁻¹⁰
unfoldable pub exponent : ℕ → ℕ → ℕ
exponent b d = linear_term b d + rounded (8 * (linear_term b d * linear_term b d)) 100_000_000_000

-- 1 in the unit of X, of u1 to u6 and of E, which is 10⁻¹⁰
abbrev pub unity : ℕ
unity = 10_000_000_000

-- step 6: u of number k for the exponent x; number 0 is 1
unfoldable pub term : ℕ → ℕ → ℕ
term zero x = unity
term (suc zero) x = x
term (suc (suc k)) x = rounded (term (suc k) x * x) (suc (suc k) * unity)

-- step 6: the sum of the series for the exponent x
unfoldable pub series : ℕ → ℕ
series x = unity - term 1 x + term 2 x - term 3 x + term 4 x - term 5 x + term 6 x

-- step 6: E(d) for the density r at 15 °C
unfoldable pub factor : ℕ → ℕ → ℕ
factor r d = series (exponent (expansion r) d)

-- step 9, for any temperature: the density d tenths of a degree above 15 °C, for the density r at 15 °C
unfoldable pub density_at : ℕ → ℕ → ℕ
density_at r d = rounded (r * factor r d) unity

-- step 9: the density at 20 °C
abbrev pub density20 : ℕ → ℕ
density20 r = density_at r 50
