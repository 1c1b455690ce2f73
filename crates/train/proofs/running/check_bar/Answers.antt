-- `train::check_bar` meets its contract: the refusal of the tables, then 9.
use mathlib.Core.Path.{◌≡◌, refl, sym, ◌∙◌}
use mathlib.Core.List.{List, [], ◌∷◌}
use Rattle.std.proofs.lemmas.Result.{err_from_is_err_and}
use Rattle.base.specs.Answer.{Test, refuse_if, accepts, first}
use Rattle.base.proofs.Answer.{refuses-append, accepted-append}
use Rattle.table.specs.Table.{Table, tables_tests, tables_verdict}
use Rattle.table.specs.Layout.{tables_in}
use Rattle.consist.specs.Train.{Train, unsound}
use Rattle.consist.specs.Inner.{bar_tests}
use Rattle.consist.specs.Lent.{tallied}
use Rattle.train.proofs.running.check_bar.Goals as goal

abbrev nine : Train → List Test
nine t = refuse_if 9 (unsound t) ∷ []

-- past 7 and 8 it is 9 alone
by-nine : (ts : List Table) (t : Train) → accepts ≡ tables_verdict ts → first (bar_tests ts t) ≡ first (nine t)
by-nine ts t e = accepted-append (nine t) (tables_tests ts) (sym e)

pub returns-in_err-check_tables : goal.returns-in_err-check_tables
returns-in_err-check_tables c =
    let a = c.args in
    let t = tallied a.sums a.cars.now in
    let p = err_from_is_err_and c.from_residual.result c.from_residual.ensures.1 in
    rw (p.1, p.2) (sym (refuses-append (nine t) (tables_tests (tables_in a.tables.now)) (sym c.in_err-check_tables.ensures)))

pub returns-then-is_unsound : goal.returns-then-is_unsound
returns-then-is_unsound c =
    let a = c.args in
    let t = tallied a.sums a.cars.now in
    sym (by-nine (tables_in a.tables.now) t c.in_ok-check_tables.ensures ∙ rw (sym c.is_unsound.ensures ∙ c.if-is_unsound.true) refl)

pub returns : goal.returns
returns c =
    let a = c.args in
    let t = tallied a.sums a.cars.now in
    sym (by-nine (tables_in a.tables.now) t c.in_ok-check_tables.ensures ∙ rw (sym c.is_unsound.ensures ∙ c.if-is_unsound.false) refl)
