-- `merge_held::held_cars` meets its contract: each turn keeps a car, turns it away, or takes one out.
use borrow.Author.Rules.{rules}
use Rattle.merge_lines.proofs.Known.{its_lines}
use Rattle.merge_held.proofs.Keeping.{keeping_car, keeping_strike}
use Rattle.merge_held.proofs.held_cars.Goals as goal
use Rattle.merge_held.proofs.held_cars.Goals.{then-is_car, else-is_car}

pub loop-i-init : goal.loop-i-init
loop-i-init c = (its_lines c.args.sheet.now, search rules)

pub loop-i-preserved : goal.loop-i-preserved
loop-i-preserved c =
    let s = c.args.sheet.now in
    let l = c.loop-i in
    let few = l.invariant.0 in
    let k = l.invariant.1 in
    let h = c.loop-i-test.true in
    elim c.if-is_car.branch [
      | then-is_car w ↦ let e = w.enter-count.ensures in
          rw (w.numbers-is, w.places-is, w.count-is) (few, keeping_car s.fields.now s.lines few l.numbers l.places l.count l.i k h e.2 w.if-is_car.true e.0 e.1)
      | else-is_car w ↦ let e = w.strike-count.ensures in
          rw (w.numbers-is, w.places-is, w.count-is) (few, keeping_strike s.fields.now s.lines few l.numbers l.places l.count l.i k h e.2 w.if-is_car.false e.0 e.1)
    ]
