-- The distance of the masses shown from the exact ones: 0.55 kg for gross and 1.1 kg for net, for both powers of the series.
use Rattle.std.specs.Prelude.{ℕ, ◌*◌, ◌≤◌}
use Rattle.base.specs.Limits.{greatest_capacity}
use Rattle.base.specs.Fraction.{Frac, whole, ◌≤ᶠ◌, Within}
use Rattle.heating.specs.Exact.{Power}
use Rattle.kilograms.specs.Exact

-- in hundredths of a kilogram
abbrev pub gross_distance : ℕ
gross_distance = 55

abbrev pub net_distance : ℕ
net_distance = 110

-- the greatest volume, in 0.01 dm³
abbrev pub greatest_volume : ℕ
greatest_volume = 100 * greatest_capacity

-- v may be shown for the exact volume x, both in 0.01 dm³: neither is above the greatest, and they are at most one unit apart,
-- half a unit for each of the two capacities of which V0 is the difference
pub record Shows (v : ℕ) (x : Frac) : Type 0 where
  pub most : v ≤ greatest_volume
  pub bound : x ≤ᶠ whole greatest_volume
  pub within : Within 100 100 v x

-- the gross mass m lies within its distance of the exact one, whatever exact volume v was shown for
abbrev pub GrossWithin : ℕ → ℕ → ℕ → ℕ → ℕ → Type 0
GrossWithin m v c t r = (x : Frac) → Shows v x → (p : Power) → Within 100 gross_distance m (Exact.gross_of p x c t r)

-- likewise the net mass n
abbrev pub NetWithin : ℕ → ℕ → ℕ → ℕ → ℕ → ℕ → ℕ → Type 0
NetWithin n v c t r w i = (x : Frac) → Shows v x → (p : Power) → Within 100 net_distance n (Exact.net_of p x c t r w i)
