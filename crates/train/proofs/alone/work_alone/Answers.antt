-- `train::work_alone` meets its contract: 7, 8 and 10, or the answer on tables that are not refused.
use Prim.Native.Nat.{ℕ}
use mathlib.Core.Path.{◌≡◌, sym, ap, ◌∙◌}
use mathlib.Core.List.{List, ◌++◌}
use Rattle.std.proofs.lemmas.Result.{err_from_is_err_and}
use Rattle.base.specs.Answer.{Verdict, first}
use Rattle.table.specs.Table.{Table, tables_tests}
use Rattle.table.specs.Layout.{tables_in}
use Rattle.car.specs.Car.{number_tests}
use Rattle.car.proofs.Answers.{alone_tables, alone_away, alone_own}
use Rattle.train.proofs.alone.work_alone.Goals as goal

-- the number tested is that of what is handed in
of_number : {v : Verdict} {n m : ℕ} (ts : List Table) → v ≡ first (tables_tests ts ++ number_tests n) → n ≡ m → first (tables_tests ts ++ number_tests m) ≡ v
of_number ts e f = sym (e ∙ ap (λ k. first (tables_tests ts ++ number_tests k)) f)

pub returns-in_err-check_alone : goal.returns-in_err-check_alone
returns-in_err-check_alone c h s =
    let ts = tables_in c.args.tables.now in
    let p = err_from_is_err_and c.from_residual.result c.from_residual.ensures.1 in
    rw (p.1, p.2) (alone_away ts h s.none (of_number ts c.in_err-check_alone.ensures s.number))

pub work_on-requires : goal.work_on-requires
work_on-requires c =
    (record { accepted = alone_tables (tables_in c.args.tables.now) c.args.car.number (sym c.in_ok-check_alone.ensures) }, c.requires)

pub returns : goal.returns
returns c h s =
    let ts = tables_in c.args.tables.now in
    c.work_on.ensures h s ∙ alone_own ts h s.none (of_number ts c.in_ok-check_alone.ensures s.number)
