-- `listing::list_line` meets its contract: a C line's car is entered as a dipped one.
use Prim.Native.Nat.{ℕ, ◌-◌}
use mathlib.Core.Path.{◌≡◌, sym, ap, ◌∙◌}
use mathlib.Core.List.{List}
use native.Mathlib.Omega.{arith}
use lib.ListN.{length, get_or, take, drop, length-drop}
use lib.Seq.{take_all}
use borrow.Author.Tests.{eq-eqb}
use Rattle.table.specs.Table.{Table}
use Rattle.table.specs.Layout.{tables_in}
use Rattle.car.specs.declared.Car.{Car}
use Rattle.car.specs.Car.{car_of, dipped}
use Rattle.consist.specs.Book.{Item}
use Rattle.consist.specs.Book as book
use Rattle.consist.specs.Demand3.{answer_to, train_with}
use Rattle.consist.specs.Lent.{train_in}
use Rattle.holding.specs.Layout.{line_in, line_numbers}
use Rattle.answers.specs.Listing.{item_of, item_line}
use Rattle.listing.specs.Inner.{item_at}
use Rattle.listing.proofs.list_line.Goals as goal

-- a line with the mark of a C line is its car's
car_item : (ts : List Table) (fields : List ℕ) (i : ℕ) {line : List ℕ} {c : Car} → line ≡ line_numbers fields i → get_or line 0 0 ≡ 0 → c ≡ car_of (take (length line - 1) (drop 1 line))
    → item_at ts fields i ≡ book.car ts (dipped c)
car_item ts fields i {line} {c} e z f =
    let own = f ∙ ap car_of (take_all (length line - 1) (drop 1 line) (omega (arith, length-drop 1 line))) in
    ap (λ (l : List ℕ). item_of ts (line_in l)) (sym e) ∙ rw (eq-eqb (get_or line 0 0) 0 z) (ap (λ (x : Car). book.car ts (dipped x)) (sym own))

pub returns-then-line-eq-CAR_MARK-clause-line : goal.returns-then-line-eq-CAR_MARK-clause-line
returns-then-line-eq-CAR_MARK-clause-line c =
    let ts = tables_in c.args.tables.now in
    let t = train_in c.args.cars.now in
    let h = dipped c.car_of.result in
    let s = c.dipped-car.ensures.stands in
    let e = c.enter_on-answer.ensures.answered h s in
    let it = car_item ts c.args.fields.now c.args.i c.line_at-line.ensures c.if-line-eq-CAR_MARK.true c.car_of.ensures in
    rw (e, s.number) at c.answer_line.ensures ∙ sym (ap (λ (x : Item). item_line x (answer_to t x)) it)

pub returns-then-line-eq-CAR_MARK-clause-train : goal.returns-then-line-eq-CAR_MARK-clause-train
returns-then-line-eq-CAR_MARK-clause-train c =
    let ts = tables_in c.args.tables.now in
    let h = dipped c.car_of.result in
    let it = car_item ts c.args.fields.now c.args.i c.line_at-line.ensures c.if-line-eq-CAR_MARK.true c.car_of.ensures in
    c.enter_on-answer.ensures.entered h c.dipped-car.ensures.stands ∙ sym (ap (train_with (train_in c.args.cars.now)) it)
