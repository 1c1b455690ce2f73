-- `scanning::numbers_at` meets its contract: the fields passed are numbers, and the list holds them.
use borrow.Author.Rules.{rules}
use mathlib.Core.Path.{◌∙◌}
use native.Mathlib.Omega.{arith}
use Rattle.reading.specs.Reading.{good, values}
use Rattle.reading.proofs.Fields.{good_more, values_more, numbers_bad}
use Rattle.scanning.proofs.numbers_at.Goals as goal

pub loop-j-init : goal.loop-j-init
unfolding good values
loop-j-init c = search rules

pub returns-in_err-list : goal.returns-in_err-list
returns-in_err-list c = let a = c.args in c.from_residual.ensures ∙ numbers_bad a.s.now a.at c.loop-j.j a.k c.read_field.result c.loop-j-test.true c.read_field.ensures c.in_err-list.was

pub loop-j-preserved : goal.loop-j-preserved
loop-j-preserved c =
    let a = c.args in
    let i = c.loop-j.invariant in (
      good_more a.s.now a.at c.loop-j.j _ c.read_field.result i.0 c.read_field.ensures c.in_ok-list.was,
      values_more a.s.now a.at c.loop-j.j _ c.read_field.result c.loop-j.list (omega arith) i.1 c.read_field.ensures c.in_ok-list.was,
    )
