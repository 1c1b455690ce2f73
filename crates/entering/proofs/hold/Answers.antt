-- `entering::hold` meets its contract: the rows with one car more are the train with its answer.
use native.Mathlib.Omega.{arith}
use Rattle.consist.specs.Inner.{Sixty}
use Rattle.consist.specs.Lent.{train_in}
use Rattle.consist.proofs.Lent.{lent_sums}
use Rattle.entering.proofs.Stored.{stored}
use Rattle.entering.proofs.hold.Goals as goal

pub returns-clause-held : goal.returns-clause-held
returns-clause-held c g =
    let a = c.args in
    let cars = a.cars.now in
    let made = lent_sums cars.held cars.numbers cars.grades cars.grosses cars.nets in
    let sixty : Sixty (train_in cars) = record { numbers = omega arith; grades = omega arith; grosses = omega arith; nets = omega arith } in
    stored (train_in cars) a.number a.grade a.answer sixty c.requires made g c.load_of-load.ensures
