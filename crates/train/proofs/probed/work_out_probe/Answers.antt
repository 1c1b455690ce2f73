-- `train::work_out_probe` meets its contract: 31 and 32 of the set, or the answer by its tenths.
use mathlib.Core.Path.{◌≡◌}
use mathlib.Core.List.{List}
use Rattle.std.proofs.lemmas.Result.{err_from_is_err_and}
use Rattle.base.specs.Answer.{Answer, refusal}
use Rattle.base.specs.Refusal.{refusal_number}
use Rattle.probe_spec.proofs.Answers.{set_refused, set_shown}
use Rattle.table.specs.Table.{Table}
use Rattle.table.specs.Layout.{tables_in}
use Rattle.car.specs.declared.ProbeCar.{ProbeCar}
use Rattle.car.specs.Car.{probed_measured, probed, alone_answer, car_told}
use Rattle.car.specs.ProbedCard.{ProbedRight}
use Rattle.car.proofs.Answers.{alone_before}
use Rattle.car.proofs.ProbedCard.{probed_right}
use Rattle.consist.specs.Demand3.{Close, InOrder, alone}
use Rattle.consist.specs.ProbeExamples.{ProbeBeside}
use Rattle.consist.proofs.AgainstProbes.{probe_beside}
use Rattle.consist.proofs.Taken.{close}
use Rattle.consist.proofs.Order.{in_order}
use Rattle.train.proofs.probed.work_out_probe.Goals as goal

-- the other clauses from the first
whole : (ts : List Table) (c : ProbeCar) (a : Answer) → a ≡ alone_answer ts (probed c)
    → (a ≡ alone_answer ts (probed c)) × Close ts (probed_measured c) a × InOrder ts (probed_measured c) a × ProbedRight × ProbeBeside
whole ts c a e =
    let h = probed c in
    (e, rw e (close ts (probed_measured c) (alone_answer ts h) (alone h)), rw e (in_order ts (probed_measured c) (alone_answer ts h) (alone h)), probed_right, probe_beside)

pub returns-in_err-t : goal.returns-in_err-t
returns-in_err-t c =
    let ts = tables_in c.args.tables.now in
    let p = err_from_is_err_and c.from_residual.result c.from_residual.ensures.1 in
    rw (p.1, p.2)
    (whole ts c.args.car (refusal (refusal_number c.in_err-t.field-0.0)) (alone_before ts (probed c.args.car) (set_refused c.args.car.set c.in_err-t.ensures)))

pub returns : goal.returns
returns c =
    whole (tables_in c.args.tables.now) c.args.car (car_told c.work_handed_in.result)
    (c.work_handed_in.ensures (probed c.args.car) (c.probed.ensures (set_shown c.args.car.set c.in_ok-t.ensures)))
