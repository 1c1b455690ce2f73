-- `quick::short_field` meets its contract.
use Rattle.quick.proofs.Columns.{short_read}
use borrow.Author.Tests.{eq-eqb}
use Rattle.quick.proofs.short_field.Goals as goal

pub returns-in-Some : goal.returns-in-Some
returns-in-Some c =
    short_read _ _ c.first_four-f.result c.last_four.result c.first_four-f.ensures c.last_four.ensures c.if-s-at-eq32.true
    (eq-eqb _ _ c.if-f-eq32.true) (eq-eqb _ _ c.if-f-eq32-2.true) _ (eq-eqb _ _ c.if-f-eq32-3.true) (eq-eqb _ _ c.if-f-eq32-4.true) (c.short_number.ensures _ c.in-Some.is)
