-- `merge::read::merge_read` meets its contract: 33 or 34, 35, or the sheet written.
use Prim.Native.Nat.{ℕ, ◌+◌, ◌≤◌}
use mathlib.Core.Path.{◌≡◌, refl, ap, sym, ◌∙◌}
use mathlib.Core.List.{List, []}
use lib.ListN.{length, take}
use Rattle.std.proofs.lemmas.Result.{err_from_is_err_and}
use Rattle.base.specs.Answer.{accepts}
use Rattle.base.specs.Buffer.{put}
use Rattle.base.specs.Limits.{most_cars, most_tables}
use Rattle.base.specs.Refusal.{verdict_told}
use Rattle.merge_order.specs.Inner.{half_span, key_of}
use Rattle.merge_lines.specs.declared.read.ReadSheet.{ReadSheet}
use Rattle.merge_lines.proofs.Known.{its_count}
use Rattle.merge_spec.specs.Inner.{Merged, inserted_all, reply_to, written_for}
use Rattle.merge.specs.Inner.{car_entries, table_entries}
use Rattle.merge.proofs.Whole.{Tested, Ordered, clashing, too_many, whole, text_is, ready}
use Rattle.merge.proofs.read.merge_read.Goals as goal
use Rattle.merge.proofs.read.merge_read.Goals.{After-check_conflict}

-- the cars that the sheets hold, with what 33 and 34 say
abbrev tested : (w : After-check_conflict) → Tested w.args.first.now w.args.second.now
tested w = record {
  a = w.held_cars-a.result;
  b = w.held_cars-b.result;
  i = w.held_cars-a.ensures;
  j = w.held_cars-b.ensures;
  verdict = verdict_told w.check_conflict.result;
  told = w.check_conflict.ensures;
}

-- tables and cars in order, by what `order_tables` and `order_cars` ensure
abbrev ordered : {x y : ReadSheet} (t : Tested x y) → t.verdict ≡ accepts → (torder corder : List ℕ) (tables cars : ℕ)
    → (take tables torder ≡ inserted_all key_of (table_entries 0 x.tables) (inserted_all key_of (table_entries most_tables y.tables) [])) × (tables ≤ x.tables.count + y.tables.count) × (length torder ≡ most_tables + most_tables) × (length x.tables.types ≡ most_tables) × (length y.tables.types ≡ most_tables)
    → (take cars corder ≡ inserted_all key_of (car_entries 0 t.a) (inserted_all key_of (car_entries half_span t.b) [])) × (cars ≤ t.a.count + t.b.count) × (length corder ≡ most_cars + most_cars)
    → Ordered x y t
ordered t none torder corder tables cars p q = record {
  none = none;
  size = p.3;
  size' = p.4;
  torder = torder;
  corder = corder;
  tables = tables;
  cars = cars;
  tsize = p.2;
  csize = q.2;
  te = p.0;
  tf = p.1;
  ce = q.0;
  cf = q.1;
}

pub returns-in_err-check_conflict : goal.returns-in_err-check_conflict
returns-in_err-check_conflict c =
    let t = tested (goal.at.returns-in_err-check_conflict c).After-check_conflict in
    let p = err_from_is_err_and c.from_residual.result c.from_residual.ensures.1 in
    let k = clashing c.args.first.now c.args.second.now t (ap verdict_told c.in_err-check_conflict.was) in
    (rw (p.1, p.2) (sym (ap reply_to k)), sym (ap (λ (m : Merged). written_for m c.args.out.now) k))

pub order_tables-tables-requires : goal.order_tables-tables-requires
order_tables-tables-requires c = (refl, its_count c.args.first.now, its_count c.args.second.now)

pub returns-then-too_many : goal.returns-then-too_many
returns-then-too_many c =
    let t = tested (goal.at.returns-then-too_many c).After-check_conflict in
    let o = ordered t (ap verdict_told c.in_ok-check_conflict.was) c.order_tables-tables.new.order c.order_cars-cars.new.order c.order_tables-tables.result c.order_cars-cars.result c.order_tables-tables.ensures c.order_cars-cars.ensures in
    let k = too_many c.args.first.now c.args.second.now t o (sym c.too_many.ensures ∙ c.if-too_many.true) in
    (sym (ap reply_to k), sym (ap (λ (m : Merged). written_for m c.args.out.now) k))

pub write_sheet-requires : goal.write_sheet-requires
write_sheet-requires c =
    let t = tested (goal.at.write_sheet-requires c).After-check_conflict in
    let o = ordered t (ap verdict_told c.in_ok-check_conflict.was) c.order_tables-tables.new.order c.order_cars-cars.new.order c.order_tables-tables.result c.order_cars-cars.result c.order_tables-tables.ensures c.order_cars-cars.ensures in
    ready c.args.first.now c.args.second.now t o (sym c.too_many.ensures ∙ c.if-too_many.false) (length c.args.out.now) c.requires

pub returns : goal.returns
returns c =
    let t = tested (goal.at.returns c).After-check_conflict in
    let o = ordered t (ap verdict_told c.in_ok-check_conflict.was) c.order_tables-tables.new.order c.order_cars-cars.new.order c.order_tables-tables.result c.order_cars-cars.result c.order_tables-tables.ensures c.order_cars-cars.ensures in
    let few = sym c.too_many.ensures ∙ c.if-too_many.false in
    let k = whole c.args.first.now c.args.second.now t o few in
    let e = text_is c.args.first.now c.args.second.now t o few in (
      ap (λ (n : ℕ). record { length = n; number = 0; line = 0 }) (c.write_sheet.ensures.0 ∙ ap length e) ∙ sym (ap reply_to k),
      c.write_sheet.ensures.1 ∙ ap (put c.args.out.now 0) e ∙ sym (ap (λ (m : Merged). written_for m c.args.out.now) k),
    )
