-- `field::read_field` meets its contract: the loop has seen what the definition sees in the columns passed.
use Prim.Native.Nat.{◌≤◌}
use mathlib.Core.Path.{◌≡◌}
use Rattle.field.specs.Field.{columns, seen_to}
use Rattle.field.proofs.read_field.Given as goal

abbrev pub invariant-loop-b : goal.invariant-loop-b
invariant-loop-b l = (l.b-index ≤ columns) × (l.seen ≡ seen_to l.s l.at l.b-index)
