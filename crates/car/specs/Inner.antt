-- What inner functions ask for; it is no part of what a car means.
use Rattle.std.specs.Prelude.{◌≡◌, List, [], Option, None, Some}
use Rattle.base.specs.Answer.{Test, accepts, first}
use Rattle.dip.specs.Level.{readings_tests}
use Rattle.table.specs.Table.{Table, tables_verdict}
use Rattle.car.specs.declared.Measured.{Measured}
use Rattle.car.specs.declared.Readings.{Readings}
use Rattle.car.specs.declared.HandedIn.{HandedIn}
use Rattle.car.specs.Measured.{early_tests, late_tests}
use Rattle.car.specs.Car.{Intake, intake_number, before_tests, dip_tests, measured_of}

-- 14, 15 and 23 of readings, where there are any
abbrev pub given_tests : Option Readings → List Test
given_tests None = []
given_tests (Some r) = readings_tests r.count r.places

-- a car to which nothing applies that stands before all other tests, by its number, its readings and what is measured of it
pub record Stands (x : HandedIn) (h : Intake) : Type 0 where
  pub none : first (before_tests h) ≡ accepts
  pub number : x.number ≡ intake_number h
  pub readings : given_tests x.readings ≡ dip_tests h
  pub measured : x.measured ≡ measured_of h

-- no refusal of the tables applies, nor 12, 13 or 16 to 21
pub record Passed (ts : List Table) (m : Measured) : Type 0 where
  pub tables : tables_verdict ts ≡ accepts
  pub early : first (early_tests ts m) ≡ accepts
  pub late : first (late_tests ts m) ≡ accepts
