-- `listing::answer_sheet` meets its contract: 1 with nothing written, the Z line, or the listing; and what is listed is reconciled with the book.
use native.Mathlib.Omega.{arith}
use borrow.Author.Rules.{rules}
use Rattle.answers.proofs.Reconciled.{too_short, answered}
use Rattle.listing.proofs.Read.{few, refused_read, whole_read, whole_proper}
use Rattle.listing.proofs.answer_sheet.Goals as goal

pub returns-then-out-lt-LEAST_BUFFER : goal.returns-then-out-lt-LEAST_BUFFER
returns-then-out-lt-LEAST_BUFFER c =
    too_short c.args.text.now c.args.out.now c.if-out-lt-LEAST_BUFFER.true

pub overflow_add-head : goal.overflow_add-head
overflow_add-head c = search (rules, few c.read_sheet-head.ensures.2 c.in_default.is)

pub write_listing-length-requires : goal.write_listing-length-requires
write_listing-length-requires c = record {
  good = c.read_sheet-head.ensures.2.good c.in_default.is;
  few = few c.read_sheet-head.ensures.2 c.in_default.is;
  few_cars = c.read_sheet-head.ensures.2.few_cars c.in_default.is;
  few_strikes = c.read_sheet-head.ensures.2.few_strikes c.in_default.is;
  each = (whole_proper c.args.text.now c.read_sheet-head.result c.read_sheet-head.new.levels c.read_sheet-head.new.capacities c.read_sheet-head.new.fields c.read_sheet-head.ensures.0 c.in_default.is).each;
  space = omega (arith, c.if-out-lt-LEAST_BUFFER.false);
}

pub returns-in-Err : goal.returns-in-Err
returns-in-Err c =
    answered c.args.text.now c.args.out.now _ _ _ c.if-out-lt-LEAST_BUFFER.false
    (refused_read c.args.text.now c.read_sheet-head.result c.read_sheet-head.new.levels c.read_sheet-head.new.capacities c.read_sheet-head.new.fields c.read_sheet-head.ensures.0 c.in-Err.is) (rw c.number.ensures at c.write_refused-length.ensures.0) (rw c.number.ensures at c.write_refused-length.ensures.1)

pub returns : goal.returns
returns c =
    answered c.args.text.now c.args.out.now _ _ _ c.if-out-lt-LEAST_BUFFER.false
    (whole_read c.args.text.now c.read_sheet-head.result c.read_sheet-head.new.levels c.read_sheet-head.new.capacities c.read_sheet-head.new.fields c.read_sheet-head.ensures.0 c.in_default.is) c.write_listing-length.ensures.0 c.write_listing-length.ensures.1
