-- `merge_lines::copy::copy_bytes` meets its contract: each turn copies a byte.
use mathlib.Core.Path.{◌≡◌}
use lib.ListN.{length, take, drop}
use Rattle.base.specs.Buffer.{put}
use Rattle.merge_lines.proofs.copy.copy_bytes.Given as goal

abbrev pub invariant-loop-i : goal.invariant-loop-i
invariant-loop-i l = (length l.out ≡ length l.initial.out) × (l.out ≡ put l.initial.out l.at (take l.i (drop l.from l.text)))
