-- `merge_write::tables::table_start` meets its contract: each turn passes a table.
use Prim.Native.Nat.{◌*◌, ◌≤◌}
use mathlib.Core.Path.{◌≡◌}
use Rattle.merge_write.specs.Inner.{start_of}
use Rattle.merge_write.proofs.tables.table_start.Given as goal

-- no table has more than 8,020 bytes
abbrev pub invariant-loop-j : goal.invariant-loop-j
invariant-loop-j l = (l.start ≡ start_of l.rows l.j) × (l.start ≤ 8_020 * l.j)
