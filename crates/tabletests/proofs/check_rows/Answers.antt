-- `tabletests::check_rows` meets its contract: the tests of all rows come out as those of the rows not yet passed, behind the last one passed.
use Prim.Native.Nat.{◌+◌}
use mathlib.Core.Path.{sym, ap, ◌∙◌}
use Rattle.base.specs.Answer.{first}
use Rattle.table.specs.Table.{row_of, later_tests}
use Rattle.table.proofs.Arrays.{one_left, rows_first}
use Rattle.tabletests.proofs.check_rows.Goals as goal

pub loop-i-preserved : goal.loop-i-preserved
loop-i-preserved c =
    let a = c.args in
    let i = c.loop-i.i in
    c.loop-i.invariant
    ∙ ap (λ r. first (later_tests (row_of c.loop-i.level c.loop-i.capacity) r)) (rows_first a.tables.now.levels.now a.tables.now.capacities.now i (one_left (a.at + a.n) i c.loop-i-test.true))
    ∙ rw (sym c.later_row_bad.ensures ∙ c.if-later_row_bad.false)
