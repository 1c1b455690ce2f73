-- `stepping::row_line` meets its contract: 8 by the rows before it, else one more row.
use Prim.Native.Nat.{◌-◌}
use mathlib.Core.Path.{◌≡◌, refl, ap, sym, ◌∙◌}
use mathlib.Core.List.{List}
use native.Mathlib.Omega.{arith}
use lib.ListN.{length}
use Rattle.base.specs.Limits.{most_tables}
use Rattle.table.specs.Table.{Row, row_of, row_bad}
use Rattle.grammar.specs.Grammar.{last_rows}
use Rattle.holding.specs.Inner.{state_in}
use Rattle.holding.proofs.Arrays.{rows_held, row_more}
use Rattle.grammar.proofs.Rules.{row_refused, row_taken}
use borrow.Author.Rules.{rules}
use Rattle.stepping.proofs.row_line.Goals as goal
use Rattle.stepping.proofs.row_line.Goals.{After-row_bad}

-- the test's result is the definition's
test : (c : After-row_bad) →
    let a = c.args in
    row_bad (last_rows (state_in a.reader a.levels.now a.capacities.now a.levels.now).tables) (row_of a.level a.capacity) ≡ c.row_bad.result
test c =
    let a = c.args in
    let h = a.reader.directory in
    ap (λ (x : List Row). row_bad x (row_of a.level a.capacity)) (rows_held h.types h.rows a.levels.now a.capacities.now (h.count - 1) h.count (omega arith))
    ∙ sym c.row_bad.ensures

pub returns-then-row_bad : goal.returns-then-row_bad
returns-then-row_bad c = λ f.
    let a = c.args in
    c.refused_here.ensures a.levels.now a.capacities.now f
    ∙ row_refused (state_in a.reader a.levels.now a.capacities.now f) (row_of a.level a.capacity) (test (goal.at.returns-then-row_bad c).After-row_bad ∙ c.if-row_bad.true)

pub returns : goal.returns
returns c = λ f.
    let a = c.args in
    let h = a.reader.directory in
    let len : length h.rows ≡ most_tables = search rules in
    row_taken (state_in a.reader a.levels.now a.capacities.now f) (row_of a.level a.capacity) _ (test (goal.at.returns c).After-row_bad ∙ c.if-row_bad.false)
    (row_more h.types h.rows a.levels.now a.capacities.now _ _ h.count (h.count - 1) _ a.level a.capacity (omega arith) refl (omega arith)
    (λ j i. c.requires.2.each j (omega arith)) c.store_row.ensures)
