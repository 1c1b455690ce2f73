-- `working::check_early` meets its contract: 12, or what 13 says.
use mathlib.Core.Path.{sym, ◌∙◌}
use borrow.Author.Tests.{not-true, not-false}
use Rattle.table.specs.Table.{unknown}
use Rattle.table.specs.Layout.{tables_in}
use Rattle.table.proofs.Arrays.{types_known}
use Rattle.working.proofs.check_early.Goals as goal

pub returns-then-knows_type : goal.returns-then-knows_type
returns-then-knows_type c =
    let a = c.args in
    rw (not-true (unknown a.m.kind (tables_in a.tables.now)) (sym (c.knows_type.ensures ∙ types_known c.requires a.m.kind) ∙ c.if-knows_type.true))
    c.check_code.ensures

pub returns : goal.returns
returns c =
    let a = c.args in
    rw (not-false (unknown a.m.kind (tables_in a.tables.now)) (sym (c.knows_type.ensures ∙ types_known c.requires a.m.kind) ∙ c.if-knows_type.false))
