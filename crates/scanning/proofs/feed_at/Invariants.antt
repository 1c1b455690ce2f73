-- `scanning::feed_at` meets its contract: the first line feed from the start is the first from the place reached.
use Prim.Native.Nat.{◌≤◌}
use mathlib.Core.Path.{◌≡◌}
use lib.ListN.{length}
use Rattle.reading.specs.Reading.{feed_at}
use Rattle.scanning.proofs.feed_at.Given as goal

abbrev pub invariant-loop-i : goal.invariant-loop-i
invariant-loop-i l = (feed_at l.s l.at ≡ feed_at l.s l.i) × (length l.s ≤ l.at → l.i ≡ l.at)
