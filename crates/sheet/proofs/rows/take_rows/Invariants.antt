-- `sheet::rows::take_rows` meets its contract: from the start to the place reached the reading only went on.
use Prim.Native.Nat.{◌*◌}
use mathlib.Core.Path.{◌≡◌}
use Rattle.base.specs.Limits.{most_rows}
use Rattle.sheet.proofs.Taken.{Taken}
use Rattle.sheet.proofs.rows.take_rows.Given as goal

abbrev pub invariant-loop-left : goal.invariant-loop-left
invariant-loop-left l = (l.left ≡ l.owed) × (l.first ≡ most_rows * l.k) × Taken l.s l.reader l.initial.levels l.initial.capacities l.k l.levels l.capacities l.rows l.level l.capacity l.at l.line l.owed
