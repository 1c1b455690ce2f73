-- `trainslice::write_sums` meets its contract: behind the totals of all cars each turn writes a grade's.
use Prim.Native.Nat.{◌≤◌}
use mathlib.Core.Path.{◌≡◌}
use lib.ListN.{length, take}
use Rattle.base.specs.Buffer.{put}
use Rattle.trainslice.specs.Layout.{totals_places, sums_places, grades_numbers}
use Rattle.trainslice.proofs.write_sums.Given as goal

abbrev pub invariant-loop-i : goal.invariant-loop-i
invariant-loop-i l =
    (sums_places ≤ length l.initial.to) × (l.to ≡ put l.initial.to totals_places (grades_numbers (take l.i l.fn.sums.grades)))
