-- `merge_held::held_cars` meets its contract: each turn keeps a car, turns it away, or takes one out.
use Prim.Native.Nat.{◌≤◌}
use Rattle.merge_held.specs.Inner.{most_lines}
use Rattle.merge_held.proofs.Keeping.{Keeping}
use Rattle.merge_held.proofs.held_cars.Given as goal

abbrev pub invariant-loop-i : goal.invariant-loop-i
invariant-loop-i l = (l.sheet.lines ≤ most_lines) × Keeping l.sheet.fields.now l.sheet.lines l.numbers l.places l.count l.i
