-- `field::put_field` meets its contract: what is still to be written, laid over the buffer, is the whole field laid over the lent one.
use mathlib.Core.Path.{◌≡◌}
use Rattle.base.specs.Buffer.{put}
use Rattle.field.specs.Field.{justified}
use Rattle.field.proofs.put_field.Given as goal

abbrev pub invariant-loop-i : goal.invariant-loop-i
invariant-loop-i l = put l.out l.at (justified l.i l.rest) ≡ put l.initial.out l.at (justified 8 l.initial.rest)
