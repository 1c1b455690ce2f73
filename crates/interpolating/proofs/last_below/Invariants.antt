-- `interpolating::last_below` meets its contract: the row found is the first, or does not reach the level.
use Prim.Native.Nat.{◌+◌, ◌-◌, ◌*◌, ◌≤◌}
use Rattle.table.specs.Layout.{places}
use Rattle.gauging.specs.Inner.{RowBelow}
use Rattle.interpolating.proofs.last_below.Given as goal

abbrev pub invariant-loop-i : goal.invariant-loop-i
invariant-loop-i l = (l.i ≤ places + l.step) × (l.low ≤ l.i) × RowBelow l.levels l.low l.last l.reach l.found

abbrev pub decreases-loop-i : goal.decreases-loop-i
decreases-loop-i l = 3 * places - l.i
