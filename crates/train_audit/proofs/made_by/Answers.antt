-- `train_audit::made_by` meets its contract: the sums so far are those of the cars that were passed.
use Prim.Native.Nat.{◌+◌, ◌≤◌}
use mathlib.Core.Path.{refl, ap, ◌∙◌}
use native.Mathlib.Omega.{arith}
use lib.ListN.{get_or, set, length-set}
use Rattle.summing.specs.declared.Totals.{Totals}
use Rattle.summing.specs.Sums.{with_car}
use Rattle.summing.specs.Inner.{shown_as}
use Rattle.summing.proofs.Adding.{sums_none, room_none, room_next, small_next}
use Rattle.train_audit.proofs.Making.{sums_from, none_more, all_more, grade_more, small-set}
use Rattle.train_audit.proofs.Made.{passed}
use Rattle.train_audit.proofs.made_by.Goals as goal
use Rattle.train_audit.proofs.made_by.Goals.{then-grade-ne0+then-place-lt-GRADES, then-grade-ne0+else-place-lt-GRADES, else-grade-ne0}

pub loop-i-init : goal.loop-i-init
loop-i-init c = record { few = omega arith; room = room_none; four = refl; is = λ t o. sums_none }

pub loop-i-preserved : goal.loop-i-preserved
loop-i-preserved c =
    let g = c.args.cars.now.grades in
    let x = c.args.cars.now.grosses in
    let y = c.args.cars.now.nets in
    let i = c.loop-i.i in
    let all = c.loop-i.all in
    let gs = c.loop-i.of_grades in
    let m = c.loop-i.invariant in
    let h : i + 1 ≤ c.args.cars.now.held = omega (arith, c.loop-i-test.true) in
    let grade = get_or g i 0 in
    let gross = get_or x i 0 in
    let net = get_or y i 0 in
    elim c.if-grade-ne0.branch [
      | then-grade-ne0+then-place-lt-GRADES w ↦
          let k = w.place_of-place.result in
          rw (w.all-is, w.of_grades-is)
          (passed c.args.cars.now.held g x y all gs i m h w.with_car-all.result (set gs k w.with_car.result)
          (record { all = w.with_car-all.ensures.1 i m.room.all; grade = small-set gs k w.with_car.result (w.with_car.ensures.1 i (m.room.grade k)) m.room.grade })
          (length-set gs k w.with_car.result ∙ m.four)
          (λ number.
          ap (λ (z : Totals). sums_from z (set gs k w.with_car.result)) w.with_car-all.ensures.0
          ∙ ap (λ (z : Totals). sums_from (with_car (shown_as grade gross net) all) (set gs k z)) w.with_car.ensures.0
          ∙ grade_more all gs number grade gross net w.if-grade-ne0.true k w.place_of-place.ensures (omega (arith, w.if-place-lt-GRADES.true, m.four))))
      | then-grade-ne0+else-place-lt-GRADES w ↦
          rw (w.all-is, w.of_grades-is)
          (passed c.args.cars.now.held g x y all gs i m h w.with_car-all.result gs (record { all = w.with_car-all.ensures.1 i m.room.all; grade = λ k. small_next (m.room.grade k) }) m.four
          (λ number. ap (λ (z : Totals). sums_from z gs) w.with_car-all.ensures.0 ∙ all_more all gs number grade gross net w.if-grade-ne0.true (omega (arith, w.place_of-place.ensures, w.if-place-lt-GRADES.false, m.four))))
      | else-grade-ne0 w ↦
          rw (w.all-is, w.of_grades-is) (passed c.args.cars.now.held g x y all gs i m h all gs (room_next m.room) m.four (λ number. none_more all gs number grade gross net w.if-grade-ne0.false))
    ]
