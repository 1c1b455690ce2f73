-- `quick::long_field` meets its contract.
use borrow.Author.Tests.{eq-eqb}
use Rattle.quick.proofs.Columns.{short_read, long_read}
use Rattle.quick.proofs.long_field.Goals as goal

pub returns-in-Some : goal.returns-in-Some
returns-in-Some c =
    short_read _ _ c.first_four-f.result c.last_four-l.result c.first_four-f.ensures c.last_four-l.ensures c.if-s-at-eq32.true
    (eq-eqb _ _ c.if-f-eq32.true) (eq-eqb _ _ c.if-f-eq32-2.true) _ (eq-eqb _ _ c.if-f-eq32-3.true) (eq-eqb _ _ c.if-f-eq32-4.true) (c.short_number.ensures _ c.in-Some.is)

pub returns-in-Some-four_digits : goal.returns-in-Some-four_digits
returns-in-Some-four_digits c =
    long_read _ _ c.first_four-f.result c.last_four-l.result c.first_four-f.ensures c.last_four-l.ensures c.if-s-at-eq32.true
    (eq-eqb _ _ c.if-f-eq32.true) (eq-eqb _ _ c.if-f-eq32-2.true) _ _ (c.high_number.ensures _ c.in-Some-high_number.is) (c.four_digits.ensures _ c.in-Some-four_digits.is)
