-- `capacity::rows_around` meets its contract. Over the tables: the answer on all is the answer on those not yet passed. Over the rows:
-- what is found after the table's first row is found after the row `low`, which does not reach the level.
use Prim.Native.Nat.{◌+◌, ◌-◌, ◌≤◌, ◌<◌}
use mathlib.Core.Path.{◌≡◌}
use lib.ListN.{get_or}
use Rattle.std.specs.Prelude.{Err}
use Rattle.base.specs.Answer.{first, accepts}
use Rattle.base.specs.Limits.{in_tenths}
use Rattle.base.specs.declared.refusal.Refusal.TheVariants.{UnknownType}
use Rattle.table.specs.Table.{later_tests}
use Rattle.table.specs.Layout.{places, rows_from, tables_from}
use Rattle.table.proofs.Arrays.{row_at}
use Rattle.gauging.specs.Inner.{around_answer}
use Rattle.gauging.proofs.Search.{found_after}
use Rattle.capacity.proofs.rows_around.Given as goal

abbrev pub invariant-loop-low : goal.invariant-loop-low
invariant-loop-low l =
    (l.last < places)
    × (in_tenths (get_or l.tables.levels.now l.low 0) ≤ l.level)
    × (l.start < l.low → in_tenths (get_or l.tables.levels.now l.low 0) < l.level)
    × (first (later_tests (row_at l.tables.levels.now l.tables.capacities.now l.low) (rows_from l.tables.levels.now l.tables.capacities.now (l.low + 1) (l.last - l.low))) ≡ accepts)
    × (found_after (row_at l.tables.levels.now l.tables.capacities.now l.start) (rows_from l.tables.levels.now l.tables.capacities.now (l.start + 1) (l.last - l.start)) l.level
    ≡ found_after (row_at l.tables.levels.now l.tables.capacities.now l.low) (rows_from l.tables.levels.now l.tables.capacities.now (l.low + 1) (l.last - l.low)) l.level)

abbrev pub invariant-tables : goal.invariant-tables
invariant-tables l =
    (l.found ≡ Err UnknownType)
    × (around_answer (tables_from l.tables.types l.tables.rows l.tables.levels.now l.tables.capacities.now 0 l.tables.count) l.kind l.level
    ≡ around_answer (tables_from l.tables.types l.tables.rows l.tables.levels.now l.tables.capacities.now l.k (l.tables.count - l.k)) l.kind l.level)
