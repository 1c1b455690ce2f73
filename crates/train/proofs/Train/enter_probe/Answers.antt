-- `Train::enter_probe` meets its contract: 31 and 32 of the set, or the car entered by its tenths.
use mathlib.Core.Path.{◌≡◌}
use mathlib.Core.List.{List}
use Rattle.base.specs.Answer.{Answer, refusal}
use Rattle.base.specs.Refusal.{refusal_number}
use Rattle.probe_spec.proofs.Answers.{set_refused, set_shown}
use Rattle.table.specs.Table.{Table}
use Rattle.table.specs.Layout.{tables_in}
use Rattle.car.specs.declared.ProbeCar.{ProbeCar}
use Rattle.car.specs.Car.{probed_measured, probed, car_told}
use Rattle.consist.specs.Train.{Train, enter_answer, enter_train}
use Rattle.consist.specs.Book as book
use Rattle.consist.specs.Demand3.{Close, InOrder, Continues}
use Rattle.consist.specs.ProbeExamples.{ProbesExample, ProbeOrder}
use Rattle.consist.proofs.AgainstProbes.{probes_example, probe_order}
use Rattle.consist.proofs.Entering.{before_away}
use Rattle.train.specs.Told.{train_told}
use Rattle.train.proofs.Entered.{entered_close, entered_in_order, entered_continues}
use Rattle.train.proofs.Train.enter_probe.Goals as goal

-- an answer and a train that are the definition's have all that is promised of them
whole : (ts : List Table) (t : Train) (c : ProbeCar) (a : Answer) (next : Train) → (a ≡ enter_answer ts t (probed c)) × (next ≡ enter_train ts t (probed c))
    → (a ≡ enter_answer ts t (probed c)) × (next ≡ enter_train ts t (probed c)) × Close ts (probed_measured c) a × InOrder ts (probed_measured c) a × Continues t (book.car ts (probed c)) a next × ProbeOrder × ProbesExample
whole ts t c a next (p, q) =
    let h = probed c in
    (p, q, entered_close ts t h p q, entered_in_order ts t h p q, entered_continues ts t h p q, probe_order, probes_example)

pub returns-in-Err : goal.returns-in-Err
returns-in-Err c =
    let a = c.args in
    let ts = tables_in a.tables.now in
    let t = train_told a.self in
    whole ts t a.car (refusal (refusal_number c.in-Err.refusal)) t (before_away ts t (probed a.car) (set_refused a.car.set c.in-Err.ensures))

pub returns-in-Ok : goal.returns-in-Ok
returns-in-Ok c =
    let a = c.args in
    let h = probed a.car in
    let e = c.enter_handed_in-answer in
    let s = c.probed.ensures (set_shown a.car.set c.in-Ok.ensures) in
    whole (tables_in a.tables.now) (train_told a.self) a.car (car_told e.result) (train_told e.new.train) (e.ensures.answered h s, e.ensures.entered h s)
