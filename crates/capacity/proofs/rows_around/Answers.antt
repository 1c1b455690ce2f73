-- `capacity::rows_around` meets its contract. Over the tables: the answer on all is the answer on those not yet passed. Over the rows:
-- what is found after the table's first row is found after the row `low`, which does not reach the level.
use Prim.Native.Nat.{ℕ, suc, ◌+◌, ◌-◌, ◌*◌, ◌≤◌, ◌<◌}
use mathlib.Core.Bool.{false}
use mathlib.Core.List.{List, ◌∷◌}
use mathlib.Core.Path.{◌≡◌, sym, ap, ◌∙◌, subst}
use mathlib.Core.Logic.{⊎_elim}
use native.Mathlib.Nat.{le_antisymm}
use native.Mathlib.Omega.{arith}
use lib.ListN.{get_or}
use Rattle.base.specs.Answer.{first, accepts, Answer, figures}
use Rattle.base.specs.Limits.{most_rows, in_tenths}
use Rattle.base.proofs.Choice.{below, never}
use Rattle.table.specs.Table.{Row, Table, later_row_bad, later_tests, rows_tests}
use Rattle.table.specs.Layout.{rows_from, table_at, tables_from}
use Rattle.table.proofs.Table.{passing}
use Rattle.table.proofs.Arrays.{one_left, none_left, row_at, rows_first, rows_none, tables_step, GoodTable, good_table}
use Rattle.table.proofs.Rising.{First, first_row, rising_from_lem}
use Rattle.gauging.specs.Capacity.{Gap}
use Rattle.gauging.specs.Inner.{Reaches, gap_at, gap_of, Between, gap_numbers, around_answer}
use Rattle.gauging.proofs.Search.{found_after, none_reaches, row_passed, row_reaches, table_chosen, table_skipped, rows_skipped}
use Rattle.capacity.proofs.rows_around.Goals as goal
use Rattle.capacity.proofs.rows_around.Goals.{In-tables, In-loop-low, Start, Then-types-k}

-- The function's arguments: row i, n rows from i on, table k, n tables from k on, the last row of table k, and the answers.

module _ (s : Start) where
  abbrev row : ℕ → Row
  row = row_at s.args.tables.now.levels.now s.args.tables.now.capacities.now

  abbrev rows : ℕ → ℕ → List Row
  rows = rows_from s.args.tables.now.levels.now s.args.tables.now.capacities.now

  abbrev table : ℕ → Table
  table = table_at s.args.tables.now.types s.args.tables.now.rows s.args.tables.now.levels.now s.args.tables.now.capacities.now

  abbrev tables : ℕ → ℕ → List Table
  tables = tables_from s.args.tables.now.types s.args.tables.now.rows s.args.tables.now.levels.now s.args.tables.now.capacities.now

  abbrev last_of : ℕ → ℕ
  last_of k = most_rows * k + get_or s.args.tables.now.rows k 0 - 1

  abbrev answer_on : List Table → Answer
  answer_on ts = around_answer ts s.args.kind s.args.level

  abbrev found_in : ℕ → List Row → Answer
  found_in low rs = found_after (row low) rs s.args.level

-- In a turn over the tables: the next one and those after it.

module _ (c : In-tables) where
  abbrev start : Start
  start = c.before.before.before.before.before.before

  abbrev number : ℕ
  number = c.tables.k

  abbrev more : List Table
  more = tables start (number + 1) (start.args.tables.now.count - (number + 1))

  reaches : Reaches start.args.level c.least_mm-reach.result
  reaches = c.least_mm-reach.ensures

  left : answer_on start (tables start 0 start.args.tables.now.count) ≡ answer_on start (table start number ∷ more)
  left =
      let a = start.args in
      c.tables.invariant.1
      ∙ ap (answer_on start) (tables_step a.tables.now.types a.tables.now.rows a.tables.now.levels.now a.tables.now.capacities.now number a.tables.now.count c.tables-test.true)

  known : GoodTable start.args.tables.now.rows start.args.tables.now.levels.now start.args.tables.now.capacities.now number
  known = good_table start.requires number c.tables-test.true

-- At the table that has the type: its first row and those after it.

module _ (c : Then-types-k) where
  abbrev at : ℕ
  at = most_rows * number c.before

  abbrev others : List Row
  others = let s = start c.before in rows s (at + 1) (last_of s (number c.before) - at)

  in_rows : (table (start c.before) (number c.before)).rows ≡ row (start c.before) at ∷ others
  in_rows =
      let s = start c.before in
      let k = number c.before in
      let h : get_or s.args.tables.now.rows k 0 ≡ suc (last_of s k - at) = omega (arith, known c.before) in
      rows_first s.args.tables.now.levels.now s.args.tables.now.capacities.now at h

  chosen : let s = start c.before in answer_on s (tables s 0 s.args.tables.now.count) ≡ found_in s at others
  chosen =
      let s = start c.before in
      left c.before ∙ table_chosen (table s (number c.before)) (more c.before) s.args.kind s.args.level (row s at) others c.if-types-k.true in_rows

  good-first : First (row (start c.before) at) others
  good-first = first_row (row (start c.before) at) others (sym (ap (λ r. first (rows_tests r)) in_rows) ∙ (known c.before).good)

-- In a turn over the rows: the row `low`, the next one and those after it.

module _ (c : In-loop-low) where
  abbrev turn : In-tables
  turn = c.before.before.before.before

  abbrev begun : Start
  begun = start turn

  abbrev low : ℕ
  low = c.loop-low.low

  abbrev last : ℕ
  last = last_of begun (number turn)

  abbrev beyond : List Row
  beyond = rows begun (low + 1 + 1) (last - (low + 1))

  after : rows begun (low + 1) (last - low) ≡ row begun (low + 1) ∷ beyond
  after = rows_first begun.args.tables.now.levels.now begun.args.tables.now.capacities.now (low + 1) (one_left last low c.loop-low-test.true)

  found : found_in begun (at c.before.before.before) (others c.before.before.before) ≡ found_in begun low (row begun (low + 1) ∷ beyond)
  found = c.loop-low.invariant.4 ∙ ap (found_in begun low) after

  good : (later_row_bad (row begun low) (row begun (low + 1)) ≡ false) × (first (later_tests (row begun (low + 1)) beyond) ≡ accepts)
  good = passing 8 _ _ (sym (ap (λ r. first (later_tests (row begun low) r)) after) ∙ c.loop-low.invariant.3)

  abbrev gap : Gap
  gap = gap_at begun.args.tables.now.levels.now begun.args.tables.now.capacities.now low

  between : begun.args.level ≤ in_tenths gap.high.level → Between gap begun.args.level
  between h = record { follows = good.0; passed = c.loop-low.invariant.1; reached = h }

  answers : begun.args.level ≤ in_tenths gap.high.level → figures (gap_numbers gap) ≡ answer_on begun (tables begun 0 begun.args.tables.now.count)
  answers h =
      sym (chosen c.before.before.before ∙ found ∙ row_reaches (row begun low) begun.args.level (row begun (low + 1)) beyond h (rising_from_lem (row begun (low + 1)) beyond good.1))

pub bounds-types-k : goal.bounds-types-k
bounds-types-k c = omega (arith, good_table c.requires c.tables.k c.tables-test.true)

pub bounds-rows-k : goal.bounds-rows-k
bounds-rows-k c = omega (arith, good_table c.requires c.tables.k c.tables-test.true)

pub skip_rows-low-requires : goal.skip_rows-low-requires
skip_rows-low-requires c = let g = good_table c.requires c.tables.k c.tables-test.true in (omega arith, omega arith)

pub loop-low-init : goal.loop-low-init
loop-low-init c =
    let t = goal.at.loop-low-init c in
    let f = good-first t.Then-types-k in
    let low = c.skip_rows-low.result in
    let e = c.skip_rows-low.ensures in
    let a = c.args in
    let first_at : ℕ = at t.Then-types-k in
    let passed : (first_at < low → in_tenths (get_or a.tables.now.levels.now low 0) < a.level) = λ h. omega (arith, e.below h, reaches t.In-tables) in
    let s = rows_skipped a.tables.now.levels.now a.tables.now.capacities.now (last_of t.Start c.tables.k) a.level (low - first_at) first_at low (omega (arith, e.from)) e.to passed f.rest in (
      omega (arith, known t.In-tables),
      ⊎_elim (λ (h : first_at < low). omega (arith, passed h)) (λ (h : low ≤ first_at). omega (arith, f.level-zero, ap (λ (i : ℕ). get_or a.tables.now.levels.now i 0) (le_antisymm h e.from))) (below first_at low),
      passed,
      s.good,
      s.same,
    )

pub loop-low-preserved : goal.loop-low-preserved
loop-low-preserved c =
    let t = goal.at.loop-low-preserved c in
    let l = t.In-loop-low in
    let next : Row = row t.Start (low l + 1) in
    let passed : in_tenths next.level < c.args.level = omega (arith, c.if-reach-from.false, c.from.ensures, reaches t.In-tables) in (
      c.loop-low.invariant.0,
      omega arith,
      λ h. passed,
      (good l).1,
      found l ∙ row_passed (row t.Start (low l)) c.args.level next (beyond l) passed,
    )

pub tables-preserved : goal.tables-preserved
tables-preserved c =
    let t = (goal.at.tables-preserved c).In-tables in
    (c.tables.invariant.0, left t ∙ table_skipped (table (start t) (number t)) (more t) c.args.kind c.args.level c.if-types-k.false)

pub returns-then-reach-from : goal.returns-then-reach-from
returns-then-reach-from c =
    let t = goal.at.returns-then-reach-from c in
    let l = t.In-loop-low in
    let h : c.args.level ≤ in_tenths (gap l).high.level = omega (arith, c.if-reach-from.true, c.from.ensures, reaches t.In-tables) in
    let e : gap_of c.neighbours.result ≡ gap l = c.neighbours.ensures in
    record {
      told = ap (λ (g : Gap). figures (gap_numbers g)) e ∙ answers l h;
      between = λ n k. let same : c.neighbours.result ≡ n = cc in
          subst (λ (g : Gap). Between g c.args.level) (sym e ∙ ap gap_of same) (between l h);
    }

pub returns-after-loop-low : goal.returns-after-loop-low
returns-after-loop-low c =
    let t = goal.at.returns-after-loop-low c in
    let s = t.Start in
    let at = c.loop-low.low in
    record {
      told = sym
          (chosen t.Then-types-k
          ∙ c.loop-low.invariant.4
          ∙ ap (found_in s at) (rows_none s.args.tables.now.levels.now s.args.tables.now.capacities.now (at + 1) (none_left (last_of s c.tables.k) at c.loop-low-test.false))
          ∙ none_reaches (row s at) s.args.level (c.loop-low.invariant.2 (omega (arith, known t.In-tables))));
      between = λ n k. never (cc);
    }
