-- `rowtests::row_bad` meets its contract: the row before is the last of the rows.
use mathlib.Core.Path.{sym, ◌∙◌}
use native.Mathlib.Omega.{arith}
use Rattle.table.specs.Table.{row_of}
use Rattle.table.proofs.Arrays.{row_later}
use Rattle.rowtests.proofs.row_bad.Goals as goal

pub returns : goal.returns
returns c =
    let a = c.args in
    let h = c.if-rows-eq0.false in
    c.later_row_bad.ensures ∙ sym (row_later a.levels.now a.capacities.now a.at a.rows _ (row_of a.level a.capacity) (omega (arith, h)) (omega (arith, h)))
