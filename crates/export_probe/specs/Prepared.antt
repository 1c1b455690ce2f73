-- A probe's car before its tables are looked at: the refusal of its set, or what its set comes to.
use Rattle.std.specs.Prelude.{◌≡◌, Result, Ok, Err}
use Rattle.base.specs.Answer.{refuses, first}
use Rattle.base.specs.Refusal.{refusal_number}
use Rattle.base.specs.declared.refusal.Refusal.{Refusal}
use Rattle.probe_spec.specs.Tenths.{set_tests}
use Rattle.car.specs.declared.ProbeCar.{ProbeCar}
use Rattle.car.specs.declared.HandedIn.{HandedIn}
use Rattle.car.specs.Car.{probed}
use Rattle.car.specs.Inner.{Stands}

abbrev pub PreparedAs : Result HandedIn Refusal → ProbeCar → Type 0
PreparedAs (Ok p) c = Stands p (probed c)
PreparedAs (Err e) c = first (set_tests c.set) ≡ refuses (refusal_number e)
