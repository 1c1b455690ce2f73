-- `stepping::table_line` meets its contract: 7 by the types so far, else one more table.
use Prim.Native.Nat.{◌<◌, ℕ}
use mathlib.Core.Path.{◌≡◌, ap, sym, ◌∙◌}
use mathlib.Core.List.{List}
use native.Mathlib.Omega.{arith}
use lib.ListN.{length, take}
use lib.Seq.{length-take-le}
use Rattle.base.specs.Limits.{most_tables}
use Rattle.table.specs.Table.{table_line_bad}
use Rattle.table.proofs.Table.{table_line_good}
use Rattle.grammar.specs.Grammar.{kinds}
use Rattle.holding.specs.Inner.{state_in}
use Rattle.holding.proofs.Arrays.{kinds_first, table_more}
use Rattle.grammar.proofs.Rules.{table_refused, table_taken}
use borrow.Author.Rules.{rules}
use Rattle.stepping.proofs.table_line.Goals as goal
use Rattle.stepping.proofs.table_line.Goals.{After-table_line_bad, Else-table_line_bad}

-- the test's result is the definition's
test : (c : After-table_line_bad) →
    let a = c.args in
    (l d : List ℕ) → table_line_bad (kinds (state_in a.reader l d l).tables) a.kind a.rows ≡ c.table_line_bad.result
test c l d =
    let a = c.args in
    let h = a.reader.directory in
    let w : length h.types ≡ most_tables = search rules in
    ap (λ (u : List ℕ). table_line_bad u a.kind a.rows) (kinds_first h.types h.rows l d h.count (omega arith)) ∙ sym c.table_line_bad.ensures

-- a table that is let pass is not the fifth
room : (c : Else-table_line_bad) → c.args.reader.directory.count < most_tables
room c =
    let a = c.args in
    let h = a.reader.directory in
    let w : length h.types ≡ most_tables = search rules in
    omega (arith, (table_line_good (take h.count h.types) a.kind a.rows (sym c.table_line_bad.ensures ∙ c.if-table_line_bad.false)).few, length-take-le h.count h.types (omega arith))

pub returns-then-table_line_bad : goal.returns-then-table_line_bad
returns-then-table_line_bad c = λ l d f.
    let a = c.args in
    c.refused_here.ensures l d f ∙ table_refused (state_in a.reader l d f) a.kind a.rows (test (goal.at.returns-then-table_line_bad c).After-table_line_bad l d ∙ c.if-table_line_bad.true)

pub returns : goal.returns
returns c = λ l d f.
    let a = c.args in
    let h = a.reader.directory in
    let w : length h.types ≡ most_tables = search rules in
    let v : length h.rows ≡ most_tables = search rules in
    let r = room (goal.at.returns c).Else-table_line_bad in
    table_taken (state_in a.reader l d f) a.kind a.rows _ (test (goal.at.returns c).After-table_line_bad l d ∙ c.if-table_line_bad.false) (table_more h.types h.rows l d h.count a.kind (omega arith) (omega arith))
