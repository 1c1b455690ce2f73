-- `merge_write::write_cars` meets its contract: each turn writes a car's line.
use Rattle.merge_write.proofs.CarTurns.{c_place, c_room, c_laid, cars_done}
use native.Mathlib.Omega.{arith}
use Rattle.merge_write.proofs.cars.write_cars.Goals as goal

pub line_by-requires : goal.line_by-requires
line_by-requires c =
    let a = c.args in
    let l = c.loop-entry in
    (omega arith, c_place a.first.now a.second.now a.order.now a.out.now a.at l.out l.place l.entry-index l.invariant c.loop-entry-test.true)

pub append_line-place-requires : goal.append_line-place-requires
append_line-place-requires c =
    let a = c.args in
    let l = c.loop-entry in
    rw c.line_by.ensures (c_room a.first.now a.second.now a.order.now a.out.now a.at l.out l.place l.entry-index l.invariant c.loop-entry-test.true)

pub loop-entry-preserved : goal.loop-entry-preserved
loop-entry-preserved c =
    let a = c.args in
    let l = c.loop-entry in
    let p = c.append_line-place in
    c_laid a.first.now a.second.now a.order.now a.out.now a.at l.out l.place l.entry-index l.invariant c.loop-entry-test.true c.line_by.result p.new.out p.result c.line_by.ensures p.ensures.1 p.ensures.0 p.auto.out

pub returns : goal.returns
returns c =
    let a = c.args in
    let l = c.loop-entry in
    cars_done a.first.now a.second.now a.order.now a.out.now a.at l.out l.place l.entry-index l.invariant c.loop-entry-test.false
