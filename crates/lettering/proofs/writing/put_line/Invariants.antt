-- `lettering::writing::put_line` meets its contract: the buffer holds the letter and the fields passed.
use Prim.Native.Nat.{◌+◌}
use mathlib.Core.Path.{◌≡◌}
use lib.ListN.{take}
use Rattle.base.specs.Buffer.{put}
use Rattle.line.specs.Writing.{fields_of}
use Rattle.lettering.proofs.writing.put_line.Given as goal

abbrev pub invariant-loop-j : goal.invariant-loop-j
invariant-loop-j l = l.out ≡ put l.initial.out (l.at + 1) (fields_of (take l.j l.line.numbers))
