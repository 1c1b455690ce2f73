-- The tests of tables: their numbers, what a table that is passed has, and one more row.
use Prim.Native.Nat.{ℕ, ◌≤◌, ◌<◌}
use mathlib.Core.Path.{◌≡◌, refl}
use mathlib.Core.Bool.{Bool, true, false, cond, true≢false}
use mathlib.Core.List.{List, [], ◌∷◌, ◌++◌}
use lib.ListN.{length}
use lib.Dec.{eqb}
use borrow.Author.Tests.{leb-false}
use Rattle.base.specs.Answer.{Verdict, accepts, refuses, first}
use Rattle.base.specs.Limits.{most_tables, most_rows}
use Rattle.base.proofs.Choice.{never, neither}
use Rattle.base.proofs.Numbers.{inside}
use Rattle.base.proofs.Answer.{numbered, numbered-append, accepted-append, accepted_parts}
use Rattle.table.specs.Table.{Row, row_of, Table, table_line_bad, first_row_bad, later_row_bad, row_bad, later_tests, rows_tests, tables_tests_after, tables_tests, tables_verdict, unknown, rows_of}

-- a figure beside the laws, line by line: a bad row of the first table comes before a bad type of the second
row_before_type :
    tables_verdict (record { kind = 1; rows = row_of 0 0 ∷ row_of 0 1 ∷ [] } ∷ record { kind = 0; rows = row_of 0 0 ∷ row_of 1 1 ∷ [] } ∷ []) ≡ refuses 8
row_before_type = refl

-- Each test has the number of a refusal.

later_numbered : (before : Row) (rows : List Row) → numbered (later_tests before rows) ≡ true
later_numbered before [] = refl
later_numbered before (row ∷ rows) = later_numbered row rows

pub rows_numbered : (rows : List Row) → numbered (rows_tests rows) ≡ true
rows_numbered [] = refl
rows_numbered (row ∷ rows) = later_numbered row rows

numbered_after : (used : List ℕ) (ts : List Table) → numbered (tables_tests_after used ts) ≡ true
numbered_after used [] = refl
numbered_after used (t ∷ ts) =
    numbered-append (rows_tests t.rows) (tables_tests_after (used ++ (t.kind ∷ [])) ts) (rows_numbered t.rows) (numbered_after (used ++ (t.kind ∷ [])) ts)

pub tables_numbered : (ts : List Table) → numbered (tables_tests ts) ≡ true
tables_numbered ts = numbered_after [] ts

-- Tests that are passed.

-- a test, and the verdict of those that follow it
pub passing : (n : ℕ) (b : Bool) (v : Verdict) → cond b (refuses n) v ≡ accepts → (b ≡ false) × (v ≡ accepts)
passing n true v e = never (cc)
passing n false v e = (refl, e)

-- a T line that 7 does not refuse
pub record TableLine (used : List ℕ) (kind rows : ℕ) : Type 0 where
  pub named : 1 ≤ kind
  pub few : length used < most_tables
  pub two : 2 ≤ rows
  pub most : rows ≤ most_rows

pub table_line_good : (used : List ℕ) (kind rows : ℕ) → table_line_bad used kind rows ≡ false → TableLine used kind rows
table_line_good used kind rows e =
    let a = neither _ _ e in
    let b = neither _ _ a.0 in
    let r = inside 2 most_rows rows b.1 in
    record { named = (inside 1 9_999 kind (neither _ _ b.0).0).0; few = leb-false most_tables (length used) a.1; two = r.0; most = r.1 }

-- an accepted table and those that follow it
module _ (used : List ℕ) (t : Table) (ts : List Table) where
  pub record Next : Type 0 where
    pub line : TableLine used t.kind (length t.rows)
    pub good : first (rows_tests t.rows) ≡ accepts
    pub rest : first (tables_tests_after (used ++ (t.kind ∷ [])) ts) ≡ accepts

  pub next_table : first (tables_tests_after used (t ∷ ts)) ≡ accepts → Next
  next_table e =
      let p = passing 7 _ _ e in
      let q = accepted_parts (tables_tests_after (used ++ (t.kind ∷ [])) ts) (rows_tests t.rows) p.1 in
      record { line = table_line_good used _ _ p.0; good = q.0; rest = q.1 }

  pub table_passed : table_line_bad used t.kind (length t.rows) ≡ false → first (rows_tests t.rows) ≡ accepts
      → first (tables_tests_after used (t ∷ ts)) ≡ first (tables_tests_after (used ++ (t.kind ∷ [])) ts)
  table_passed e h = rw e (accepted-append (tables_tests_after (used ++ (t.kind ∷ [])) ts) (rows_tests t.rows) h)

-- one more row behind rows that are passed
later_more : (before : Row) (rows : List Row) (row : Row) → first (later_tests before rows) ≡ accepts → row_bad (before ∷ rows) row ≡ false
    → first (later_tests before (rows ++ (row ∷ []))) ≡ accepts
later_more before [] row e h = rw h
later_more before (next ∷ rows) row e h = let p = passing 8 (later_row_bad before next) _ e in rw p.0 (later_more next rows row p.1 h)

pub rows_more : (rows : List Row) (row : Row) → first (rows_tests rows) ≡ accepts → row_bad rows row ≡ false
    → first (rows_tests (rows ++ (row ∷ []))) ≡ accepts
rows_more [] row e h = rw h
rows_more (before ∷ rows) row e h = let p = passing 8 (first_row_bad before) _ e in rw p.0 (later_more before rows row p.1 h)

-- The rows of the table that has a type.

pub record GoodRows (rows : List Row) : Type 0 where
  pub good : first (rows_tests rows) ≡ accepts
  pub two : 2 ≤ length rows

good_after : (kind : ℕ) (used : List ℕ) (ts : List Table) → first (tables_tests_after used ts) ≡ accepts → unknown kind ts ≡ false → GoodRows (rows_of kind ts)
good_after kind used [] e u = absurd (true≢false u)
good_after kind used (t ∷ ts) e u =
    let n = next_table used t ts e in
    either (eqb t.kind kind) (unknown kind ts) t.rows (rows_of kind ts) u (record { good = n.good; two = n.line.two })
    (λ v. good_after kind (used ++ (t.kind ∷ [])) ts n.rest v)
  where
    either : (b u : Bool) (x y : List Row) → cond b false u ≡ false → GoodRows x → (u ≡ false → GoodRows y) → GoodRows (cond b x y)
    either true u x y e g h = g
    either false u x y e g h = h e

pub good_rows : (kind : ℕ) (ts : List Table) → tables_verdict ts ≡ accepts → unknown kind ts ≡ false → GoodRows (rows_of kind ts)
good_rows kind ts = good_after kind [] ts
