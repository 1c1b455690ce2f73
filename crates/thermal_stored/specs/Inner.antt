-- What inner functions ask for; it is no part of what the stored coefficients mean.
use Rattle.std.specs.Prelude.{ℕ, ◌≡◌}
use Rattle.heating.specs.Limits.{DensityInRange}
use Rattle.heating.specs.Steps.{expansion}

-- b is what is looked up for the density r: its B, where 19 does not turn r away
abbrev pub LookedUp : ℕ → ℕ → Type 0
LookedUp r b = DensityInRange r → b ≡ expansion r
