-- `capacity::checked_volume` meets its contract: the refusal of the tables, or the answer on tables that are not refused.
use mathlib.Core.Path.{sym}
use Rattle.std.proofs.lemmas.Result.{err_from_is_err_and}
use Rattle.table.specs.Layout.{tables_in}
use Rattle.gauging.proofs.Answers.{tables_refused, tables_accepted}
use Rattle.capacity.proofs.checked_volume.Goals as goal

pub returns-in_err-check_tables : goal.returns-in_err-check_tables
returns-in_err-check_tables c =
    let a = c.args in
    let p = err_from_is_err_and c.from_residual.result c.from_residual.ensures.1 in
    rw (p.1, p.2) (tables_refused (tables_in a.tables.now) a.kind a.mean a.water (sym c.in_err-check_tables.ensures))

pub returns : goal.returns
returns c =
    let a = c.args in
    tables_accepted (tables_in a.tables.now) a.kind a.mean a.water (sym c.in_ok-check_tables.ensures) c.volume_on.ensures
