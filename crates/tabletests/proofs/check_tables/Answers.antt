-- `tabletests::check_tables` meets its contract: the tests of all tables come out as those of the tables not yet passed, behind the types before them.
use Prim.Native.Nat.{ℕ, ◌+◌, ◌-◌, ◌*◌}
use mathlib.Core.Bool.{Bool, true}
use mathlib.Core.List.{List, [], ◌∷◌, ◌++◌}
use mathlib.Core.Path.{◌≡◌, sym, ap, ◌∙◌}
use native.Mathlib.Numerals.{add-one}
use native.Mathlib.Omega.{arith}
use lib.ListN.{length, take, get_or}
use Rattle.std.proofs.lemmas.Grind.{common_steps}
use lib.Seq.{take-suc}
use Rattle.std.proofs.lemmas.Result.{err_from_is_err_and}
use Rattle.base.specs.Answer.{first, refuses}
use Rattle.base.specs.Limits.{most_rows}
use Rattle.base.proofs.Answer.{refuses-append}
use Rattle.table.specs.Table.{Table, table_line_bad, rows_tests, tables_tests_after, tables_verdict}
use Rattle.table.specs.Layout.{table_at, tables_from, tables_in}
use Rattle.table.proofs.Table.{table_passed}
use Rattle.table.proofs.Arrays.{tables_step, length_rows}
use Rattle.tabletests.proofs.check_tables.Goals as goal
use Rattle.tabletests.proofs.check_tables.Goals.{In-loop-k}

-- in a turn: all tables, the types before the next one, the next one and those after it
module _ (c : In-loop-k) where
  abbrev used : List ℕ
  used = take c.loop-k.k c.args.tables.now.types

  abbrev next : Table
  next = table_at c.args.tables.now.types c.args.tables.now.rows c.args.tables.now.levels.now c.args.tables.now.capacities.now c.loop-k.k

  abbrev more : List Table
  more =
      let a = c.args in
      let k = c.loop-k.k in
      tables_from a.tables.now.types a.tables.now.rows a.tables.now.levels.now a.tables.now.capacities.now (k + 1) (a.tables.now.count - (k + 1))

  abbrev line_bad : Bool
  line_bad = table_line_bad used next.kind (length next.rows)

  step : tables_verdict (tables_in c.args.tables.now) ≡ first (tables_tests_after used (next ∷ more))
  step =
      let a = c.args in
      c.loop-k.invariant.1
      ∙ ap (λ ts. first (tables_tests_after used ts)) (tables_step a.tables.now.types a.tables.now.rows a.tables.now.levels.now a.tables.now.capacities.now c.loop-k.k a.tables.now.count c.loop-k-test.true)

  seven : line_bad ≡ true → refuses 7 ≡ tables_verdict (tables_in c.args.tables.now)
  seven e = sym (step ∙ rw e)

-- the test of the T line
line : (t : In-loop-k) {bad : Bool} → bad ≡ table_line_bad (used t) (next t).kind (get_or t.args.tables.now.rows t.loop-k.k 0) → line_bad t ≡ bad
line t e =
    let a = t.args in
    let k = t.loop-k.k in
    ap (table_line_bad (used t) (next t).kind) (length_rows a.tables.now.levels.now a.tables.now.capacities.now (most_rows * k) (get_or a.tables.now.rows k 0)) ∙ sym e

pub returns-then-table_line_bad : goal.returns-then-table_line_bad
returns-then-table_line_bad c = let t = (goal.at.returns-then-table_line_bad c).In-loop-k in seven t (line t c.table_line_bad.ensures ∙ c.if-table_line_bad.true)

pub returns-in_err-check_rows : goal.returns-in_err-check_rows
returns-in_err-check_rows c =
    let t = (goal.at.returns-in_err-check_rows c).In-loop-k in
    let p = err_from_is_err_and c.from_residual.result c.from_residual.ensures.1 in
    rw (p.1, p.2) (sym (step t ∙ rw (line t c.table_line_bad.ensures ∙ c.if-table_line_bad.false) (refuses-append (tables_tests_after (used t ++ ((next t).kind ∷ [])) (more t)) (rows_tests (next t).rows) (sym c.in_err-check_rows.ensures))))

pub loop-k-preserved : goal.loop-k-preserved
loop-k-preserved c =
    let t = (goal.at.loop-k-preserved c).In-loop-k in
    let k = c.loop-k.k in
    let types = c.args.tables.now.types in (
      omega arith,
      step t
          ∙ table_passed (used t) (next t) (more t) (line t c.table_line_bad.ensures ∙ c.if-table_line_bad.false) (sym c.in_ok-check_rows.ensures)
          ∙ ap (λ u. first (tables_tests_after u (more t))) (sym (ap (λ i. take i types) (add-one k) ∙ take-suc types k 0 (grind (arith, common_steps)))),
    )
