-- `tabletests::check_rows` meets its contract: the tests of all rows come out as those of the rows not yet passed, behind the last one passed.
use Prim.Native.Nat.{◌-◌}
use mathlib.Core.Path.{◌≡◌}
use Rattle.base.specs.Answer.{first}
use Rattle.table.specs.Table.{row_of, later_tests, rows_tests}
use Rattle.table.specs.Layout.{rows_from}
use Rattle.tabletests.proofs.check_rows.Given as goal

abbrev pub invariant-loop-i : goal.invariant-loop-i
invariant-loop-i l =
    first (rows_tests (rows_from l.tables.levels.now l.tables.capacities.now l.at l.n)) ≡ first (later_tests (row_of l.level l.capacity) (rows_from l.tables.levels.now l.tables.capacities.now l.i (l.i-end - l.i)))
