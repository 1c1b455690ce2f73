-- `listing::write_listing` meets its contract: each turn writes a line, and the totals come last.
use Prim.Native.Nat.{◌≤◌}
use mathlib.Core.Path.{◌≡◌, refl, ap, ◌∙◌}
use native.Mathlib.Omega.{arith}
use lib.ListN.{length}
use Rattle.table.specs.Layout.{tables_in}
use Rattle.holding.specs.Layout.{history_of}
use Rattle.summing.specs.Sums.{no_sums}
use Rattle.consist.specs.Train.{Train}
use Rattle.consist.specs.Lent.{tallied, lent_train, train_in}
use Rattle.consist.proofs.Book.{reached_train}
use Rattle.consist.proofs.Lent.{lent_empty}
use Rattle.listing.proofs.Run.{sheet_text, sheet_fits, begun, room_for, turn, totals_ready}
use Rattle.listing.proofs.write_listing.Goals as goal
use Rattle.listing.proofs.write_listing.Goals.{After-made_by-sums, Start}

-- the whole listing has room
fits : (s : Start) → length (sheet_text (tables_in s.args.tables.now) (history_of s.args.fields.now s.args.lines)) ≤ length s.args.out.now
fits s = omega (arith, sheet_fits (tables_in s.args.tables.now) s.requires.good.accepted s.args.fields.now s.args.lines s.requires.few_cars s.requires.few_strikes s.requires.each, s.requires.space)

-- the sums that the held cars make are the train's
made : (m : After-made_by-sums) → m.made_by-sums.result ≡ (train_in m.loop-i.cars).sums
made m = m.made_by-sums.ensures (tallied no_sums m.loop-i.cars) refl refl refl

pub loop-i-init : goal.loop-i-init
loop-i-init c =
    let e = ap (λ (t : Train). lent_train t.held t.numbers t.grades t.grosses t.nets) c.empty.ensures.0 ∙ lent_empty in
    rw e (begun (tables_in c.args.tables.now) c.args.fields.now c.args.lines c.args.out.now c.requires.each)

pub list_line-line-requires : goal.list_line-line-requires
list_line-line-requires c =
    (omega (arith, c.requires.few, c.loop-i-test.true), reached_train c.loop-i.invariant.train, c.requires.good)

pub append_line-at-requires : goal.append_line-at-requires
append_line-at-requires c =
    rw c.list_line-line.ensures.line (room_for (tables_in c.args.tables.now) c.requires.good.accepted c.args.fields.now c.args.lines c.args.out.now (fits (goal.at.append_line-at-requires c).Start) c.loop-i.out (train_in c.loop-i.cars) c.loop-i.at c.loop-i.i c.loop-i.invariant c.loop-i-test.true)

pub loop-i-preserved : goal.loop-i-preserved
loop-i-preserved c =
    turn (tables_in c.args.tables.now) c.requires.good.accepted c.args.fields.now c.args.lines c.args.out.now (fits (goal.at.loop-i-preserved c).Start) c.loop-i.out (train_in c.loop-i.cars) c.loop-i.at c.loop-i.i c.loop-i.invariant c.loop-i-test.true c.list_line-line.result
    (train_in c.list_line-line.new.cars) c.append_line-at.new.out c.append_line-at.result c.list_line-line.ensures.line
    c.list_line-line.ensures.train c.append_line-at.ensures.1 c.append_line-at.ensures.0 c.append_line-at.auto.out

pub made_by-sums-requires : goal.made_by-sums-requires
made_by-sums-requires c =
    (reached_train c.loop-i.invariant.train).place

pub write_totals-requires : goal.write_totals-requires
write_totals-requires c =
    rw (made (goal.at.write_totals-requires c).After-made_by-sums) (totals_ready (tables_in c.args.tables.now) c.requires.good.accepted c.args.fields.now c.args.lines c.args.out.now (fits (goal.at.write_totals-requires c).Start) c.loop-i.out (train_in c.loop-i.cars) c.loop-i.at c.loop-i.i c.loop-i.invariant c.loop-i-test.false)
