-- `printing::write_totals` meets its contract: S, and each turn writes a grade's line.
use native.Mathlib.Omega.{arith}
use Rattle.answers.specs.Listing.{grade_lines, totals_lines}
use Rattle.printing.proofs.Laid.{Laid}
use Rattle.printing.proofs.Totals.{first_room, first_laid, none_closed, of_grade_lem, grade_room, grade_turn, closed}
use Rattle.printing.proofs.write_totals.Goals as goal
use Rattle.printing.proofs.write_totals.Goals.{After-append_line-place}

-- S is written before the loop
first : (a : After-append_line-place) → let z = a.args in
    Laid z.out.now z.at (totals_lines z.sums) a.append_line-place.new.out a.append_line-place.result (grade_lines 1 z.sums.grades)
first a =
    first_laid a.args.sums a.args.at a.args.out.now a.requires a.totals_line.result a.append_line-place.new.out a.append_line-place.result a.totals_line.ensures a.append_line-place.ensures.1
    a.append_line-place.ensures.0 a.append_line-place.auto.out

pub append_line-place-requires : goal.append_line-place-requires
append_line-place-requires c =
    rw c.totals_line.ensures (first_room c.args.sums c.args.at c.args.out.now c.requires)

pub loop-i-init : goal.loop-i-init
loop-i-init c =
    none_closed c.args.out.now c.args.at c.args.sums c.append_line-place.new.out c.append_line-place.result c.requires (first (goal.at.loop-i-init c).After-append_line-place)

pub grade_line-requires : goal.grade_line-requires
grade_line-requires c =
    of_grade_lem c.args.out.now c.args.at c.args.sums c.requires c.append_line-place.new.out c.append_line-place.result c.loop-i.out c.loop-i.place c.loop-i.i c.loop-i.invariant (omega (arith, c.loop-i-test.true))

pub append_line-place-requires-in-loop-i : goal.append_line-place-requires-in-loop-i
append_line-place-requires-in-loop-i c =
    rw c.grade_line.ensures (grade_room c.args.out.now c.args.at c.args.sums c.requires c.append_line-place.new.out c.append_line-place.result c.loop-i.out c.loop-i.place c.loop-i.i c.loop-i.invariant (omega (arith, c.loop-i-test.true)))

pub loop-i-preserved : goal.loop-i-preserved
loop-i-preserved c =
    grade_turn c.args.out.now c.args.at c.args.sums c.requires c.append_line-place.new.out c.append_line-place.result c.loop-i.out c.loop-i.place c.loop-i.i c.loop-i.invariant (omega (arith, c.loop-i-test.true)) c.grade_line.result c.append_line-place-in-loop-i.new.out
    c.append_line-place-in-loop-i.result c.grade_line.ensures c.append_line-place-in-loop-i.ensures.1 c.append_line-place-in-loop-i.ensures.0 c.append_line-place-in-loop-i.auto.out

pub returns : goal.returns
returns c =
    closed c.args.out.now c.args.at c.args.sums c.requires c.append_line-place.new.out c.append_line-place.result c.loop-i.out c.loop-i.place c.loop-i.i c.loop-i.invariant (omega (arith, c.loop-i-test.false)) (first (goal.at.returns c).After-append_line-place)
