-- What it means that refusal 19 does not apply.
use Prim.Native.Nat.{ℕ}
use mathlib.Core.Path.{◌≡◌}
use mathlib.Core.Bool.{false}
use Rattle.base.proofs.Numbers.{inside}
use Rattle.heating.specs.Limits.{lowest_density, highest_density, density_bad, DensityInRange}

pub density_in_range : (r : ℕ) → density_bad r ≡ false → DensityInRange r
density_in_range r e = let h = inside lowest_density highest_density r e in record { light = h.0; dense = h.1 }
