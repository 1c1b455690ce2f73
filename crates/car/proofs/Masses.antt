-- An accepted car's gross and net: within their distances of the exact ones, at most 199,203 kg, and never falling as the level rises.
use Prim.Native.Nat.{◌≤◌}
use mathlib.Core.List.{List}
use native.Mathlib.Nat.{le_trans}
use Rattle.base.specs.Fraction.{Within}
use Rattle.table.specs.Table.{Table}
use Rattle.heating.specs.Exact.{Power}
use Rattle.kilograms.specs.Inner.{most_in_car}
use Rattle.kilograms.proofs.Distance.{gross_within_lem, net_within_lem, gross_below, net_below}
use Rattle.car.specs.declared.Measured.{Measured}
use Rattle.car.specs.Measured.{Mass, gross, net, mass, v0}
use Rattle.car.specs.Exact.{volumeˣ, massˣ, distance}
use Rattle.car.specs.Inner.{Passed}
use Rattle.car.proofs.Accepted.{shows, in_range}

module _ (ts : List Table) (m : Measured) (h : Passed ts m) where
  -- no accepted car weighs more
  gross_most : mass gross ts m ≤ most_in_car
  unfolding mass
  gross_most = gross_below (v0 ts m) m.stick m.temperature m.density.0 m.water m.impurities (in_range ts m h)

  pub mass_most : (k : Mass) → mass k ts m ≤ most_in_car
  unfolding mass
  mass_most gross = gross_most
  mass_most net = le_trans (net_below (v0 ts m) m.stick m.temperature m.density.0 m.water m.impurities (in_range ts m h)) gross_most

  -- for both powers
  pub mass_near : (k : Mass) (p : Power) → Within 100 (distance k) (mass k ts m) (massˣ k p ts m)
  unfolding mass massˣ
  mass_near gross p = gross_within_lem (v0 ts m) m.stick m.temperature m.density.0 m.water m.impurities (in_range ts m h) (volumeˣ ts m) (shows ts m h) p
  mass_near net p = net_within_lem (v0 ts m) m.stick m.temperature m.density.0 m.water m.impurities (in_range ts m h) (volumeˣ ts m) (shows ts m h) p
