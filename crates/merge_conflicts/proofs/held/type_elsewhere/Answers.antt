-- `merge_conflicts::type_elsewhere` meets its contract: the cars not yet passed tell of all.
use mathlib.Core.Path.{sym, ◌∙◌}
use Rattle.merge_conflicts.proofs.Passing.{passing_miss}
use Rattle.merge_conflicts.proofs.held.type_elsewhere.Goals as goal

pub loop-p-preserved : goal.loop-p-preserved
loop-p-preserved c =
    let a = c.args in
    passing_miss a.first.now a.second.now a.fields.now a.places.now c.loop-p.p-index c.loop-p-test.true c.loop-p.invariant (sym c.if-only_there.false ∙ c.only_there.ensures)
