-- The exact value of document 01, steps 3, 7 and 8: nothing is rounded, in fractions, under the names of the rounded steps and in their units.
-- Nothing is taken from the rounded steps.
use Rattle.std.specs.Prelude.{ℕ, ◌+◌, ◌*◌, ◌-◌}
use Rattle.base.specs.Fraction.{Frac, whole, ◌*ᶠ◌, ◌/ᶠ◌}
use Rattle.heating.specs.Exact.{Power, unity, factor}

-- step 3: Vt of the exact volume v at 20 °C, with c for the stick
unfoldable pub hot_volume : Frac → ℕ → ℕ → Frac
hot_volume v c t = v *ᶠ whole (20_000_000 + c * (t - 200)) /ᶠ 20_000_000

-- step 7: V15 of the exact Vt
unfoldable pub cold_volume : Power → Frac → ℕ → ℕ → Frac
cold_volume p v r t = v *ᶠ factor p r (t - 150) /ᶠ unity

-- step 8: gross of the exact V15, and net of the exact gross
unfoldable pub gross : Frac → ℕ → Frac
gross v r = v *ᶠ whole r /ᶠ 1_000_000

unfoldable pub net : Frac → ℕ → ℕ → Frac
net m w i = m *ᶠ whole (10_000 - w - i) /ᶠ 10_000

-- Steps 3 to 8 in a row, from the exact volume at 20 °C, with c for the stick.

unfoldable pub volume15_of : Power → Frac → ℕ → ℕ → ℕ → Frac
volume15_of p v c t r = cold_volume p (hot_volume v c t) r t

unfoldable pub gross_of : Power → Frac → ℕ → ℕ → ℕ → Frac
gross_of p v c t r = gross (volume15_of p v c t r) r

unfoldable pub net_of : Power → Frac → ℕ → ℕ → ℕ → ℕ → ℕ → Frac
net_of p v c t r w i = net (gross_of p v c t r) w i
