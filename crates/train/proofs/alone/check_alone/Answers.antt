-- `train::check_alone` meets its contract: the refusal of the tables, then that of the number.
use mathlib.Core.Path.{sym, ◌∙◌}
use Rattle.std.proofs.lemmas.Result.{err_from_is_err_and}
use Rattle.base.proofs.Answer.{refuses-append, accepted-append}
use Rattle.table.specs.Table.{tables_tests}
use Rattle.table.specs.Layout.{tables_in}
use Rattle.car.specs.Car.{number_tests}
use Rattle.train.proofs.alone.check_alone.Goals as goal

pub returns-in_err-check_tables : goal.returns-in_err-check_tables
returns-in_err-check_tables c =
    let a = c.args in
    let p = err_from_is_err_and c.from_residual.result c.from_residual.ensures.1 in
    rw (p.1, p.2) (sym (refuses-append (number_tests a.number) (tables_tests (tables_in a.tables.now)) (sym c.in_err-check_tables.ensures)))

pub returns : goal.returns
returns c =
    let a = c.args in
    c.check_number.ensures ∙ sym (accepted-append (number_tests a.number) (tables_tests (tables_in a.tables.now)) (sym c.in_ok-check_tables.ensures))
