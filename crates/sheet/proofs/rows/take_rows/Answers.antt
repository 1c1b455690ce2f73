-- `sheet::rows::take_rows` meets its contract: from the start to the place reached the reading only went on.
use Prim.Native.Nat.{◌-◌}
use native.Mathlib.Omega.{arith}
use Rattle.sheet.proofs.Taken.{taken_more}
use Rattle.sheet.proofs.rows.take_rows.Goals as goal

pub loop-left-preserved : goal.loop-left-preserved
loop-left-preserved c =
    let a = c.args in
    let o = c.loop-left in
    let row = c.in-Some in
    let q = c.next_row.ensures row.next_level row.next_capacity row.is in (
      omega arith,
      o.invariant.1,
      rw o.invariant.0
          (taken_more a.s.now a.reader a.levels.now a.capacities.now (a.reader.directory.count - 1) o.levels o.capacities o.rows o.level o.capacity o.at o.line o.owed
          c.store_row.new.levels c.store_row.new.capacities row.next_level row.next_capacity o.invariant.2 (omega arith) q.0 q.1 c.store_row.ensures),
    )
