-- The exact gross and net of what is measured of a car, in kg: steps 2 to 8 with nothing rounded, from the mean level in tenths of a mm and the
-- reported fields.
use Rattle.std.specs.Prelude.{ℕ, ◌+◌, ◌≡◌, List}
use Rattle.base.specs.Limits.{in_tenths}
use Rattle.base.specs.Fraction.{Frac, ◌+ᶠ◌, ◌≤ᶠ◌}
use Rattle.table.specs.Table.{Table, rows_of}
use Rattle.gauging.specs.Capacity.{capacity_at}
use Rattle.gauging.specs.Capacity as capacity
use Rattle.gauging.specs.Exact.{v0ˣ, capacity_atˣ}
use Rattle.heating.specs.Exact.{Power}
use Rattle.kilograms.specs.Steps.{stick_coefficient}
use Rattle.kilograms.specs.Exact.{gross_of, net_of}
use Rattle.kilograms.specs.Uncut.{NothingCut}
use Rattle.kilograms.specs.Distance.{gross_distance, net_distance}
use Rattle.car.specs.declared.Measured.{Measured}
use Rattle.car.specs.Measured.{Mass, gross, net}

-- the exact volume between the water level and the mean level, in 0.01 dm³
unfoldable pub volumeˣ : List Table → Measured → Frac
volumeˣ ts m = v0ˣ (rows_of m.kind ts) m.level m.water_level

-- with the series of the exponential to power p
unfoldable pub massˣ : Mass → Power → List Table → Measured → Frac
massˣ gross p ts m = gross_of p (volumeˣ ts m) (stick_coefficient m.stick) m.temperature m.density.0
massˣ net p ts m = net_of p (volumeˣ ts m) (stick_coefficient m.stick) m.temperature m.density.0 m.water m.impurities

-- how far a mass that is shown may lie from the exact one, in 0.01 kg
abbrev pub distance : Mass → ℕ
distance gross = gross_distance
distance net = net_distance

-- Nothing is cut off at 0 where a difference is taken: V0 is the whole difference of its capacities, rounded and exact, and so are steps 3 to 8.
pub record Uncut (ts : List Table) (m : Measured) : Type 0 where
  pub volume : capacity.v0 (rows_of m.kind ts) m.level m.water_level + capacity_at (rows_of m.kind ts) (in_tenths m.water_level)
      ≡ capacity_at (rows_of m.kind ts) m.level
  pub exact : (capacity_atˣ (rows_of m.kind ts) m.level ≤ᶠ volumeˣ ts m +ᶠ capacity_atˣ (rows_of m.kind ts) (in_tenths m.water_level))
      × (volumeˣ ts m +ᶠ capacity_atˣ (rows_of m.kind ts) (in_tenths m.water_level) ≤ᶠ capacity_atˣ (rows_of m.kind ts) m.level)
  pub steps : NothingCut m.temperature m.density.0 m.water m.impurities
