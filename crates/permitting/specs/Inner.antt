-- What inner functions ask for; it is no part of what the permitted error means.
use Rattle.std.specs.Prelude.{◌≡◌, List, Ok}
use Rattle.base.specs.Answer.{accepts, first, figures}
use Rattle.table.specs.Table.{Table}
use Rattle.car.specs.declared.Figures.{Figures}
use Rattle.car.specs.declared.Measured.{Measured}
use Rattle.car.specs.Measured.{v0, gross, mass}
use Rattle.car.specs.Car.{Intake, measured_of, figures_of, alone_tests, car_told}

-- of the six figures of a car of which m is measured, V0 and gross
pub record SixShown (ts : List Table) (m : Measured) (six : Figures) : Type 0 where
  pub v0 : six.v0 ≡ v0 ts m
  pub gross : six.gross ≡ mass gross ts m

-- a car alone of which m is measured is accepted, and shows these six figures
pub record AcceptedAs (ts : List Table) (h : Intake) (m : Measured) (six : Figures) : Type 0 where
  pub accepted : first (alone_tests ts h) ≡ accepts
  pub is : m ≡ measured_of h
  pub shows : car_told (Ok six) ≡ figures (figures_of ts h)
