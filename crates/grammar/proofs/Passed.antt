-- Tables that are as they must be, of which the last still lacks rows: one more table, one more row, and the verdict on them.
use Prim.Native.Nat.{ℕ, ◌+◌, ◌-◌, ◌≤◌, ◌<◌}
use mathlib.Core.Path.{◌≡◌, refl, ap, ◌∙◌}
use mathlib.Core.Bool.{false}
use mathlib.Core.List.{List, [], ◌∷◌, ◌++◌, append-nil}
use native.Mathlib.Nat.{add-zero, zero-add}
use native.Mathlib.Omega.{arith}
use lib.ListN.{length, length-append}
use lib.Seq.{append_snoc}
use Rattle.base.specs.Answer.{accepts, first}
use Rattle.base.specs.Limits.{most_tables}
use Rattle.table.specs.Table.{Row, Table, table_line_bad, row_bad, tables_tests_after}
use Rattle.table.proofs.Table.{passing, next_table, table_passed, rows_more}
use Rattle.grammar.specs.Grammar.{Passed, kinds, last_rows}
use Rattle.grammar.specs.Sheet.{with_row}

-- The verdict.

pub passed_verdict : (used : List ℕ) (ts : List Table) → Passed used ts 0 → first (tables_tests_after used ts) ≡ accepts
passed_verdict used [] p = refl
passed_verdict used (t ∷ []) p = table_passed used t [] (rw add-zero at p.0) p.1
passed_verdict used (t ∷ u ∷ ts) p = table_passed used t (u ∷ ts) p.0 p.1 ∙ passed_verdict (used ++ (t.kind ∷ [])) (u ∷ ts) p.2

-- and back
pub verdict_passed : (used : List ℕ) (ts : List Table) → first (tables_tests_after used ts) ≡ accepts → Passed used ts 0
verdict_passed used [] e = refl
verdict_passed used (t ∷ []) e = let n = next_table used t [] e in (rw add-zero (passing 7 _ _ e).0, n.good)
verdict_passed used (t ∷ u ∷ ts) e =
    let n = next_table used t (u ∷ ts) e in ((passing 7 _ _ e).0, n.good, verdict_passed (used ++ (t.kind ∷ [])) (u ∷ ts) n.rest)

-- tables that are accepted are at most four
pub few_accepted : (used : List ℕ) (ts : List Table) → first (tables_tests_after used ts) ≡ accepts → length used ≤ most_tables → length used + length ts ≤ most_tables
few_accepted used [] e h = omega arith
few_accepted used (t ∷ ts) e h =
    let n = next_table used t ts e in
    let l : length (used ++ (t.kind ∷ [])) ≡ length used + 1 = length-append used (t.kind ∷ []) in
    omega (arith, few_accepted (used ++ (t.kind ∷ [])) ts n.rest (omega (arith, n.line.few)))

-- One more table.

pub passed_table : (used : List ℕ) (ts : List Table) (kind rows : ℕ) → Passed used ts 0 → table_line_bad (used ++ kinds ts) kind rows ≡ false
    → Passed used (ts ++ (record { kind = kind; rows = [] } ∷ [])) rows
passed_table used [] kind rows p e = (rw zero-add (rw append-nil at e), refl)
passed_table used (t ∷ []) kind rows p e = (rw add-zero at p.0, p.1, (rw zero-add e, refl))
passed_table used (t ∷ u ∷ ts) kind rows p e =
    (p.0, p.1, passed_table (used ++ (t.kind ∷ [])) (u ∷ ts) kind rows p.2 (rw append_snoc e))

-- One more row.

pub passed_row : (used : List ℕ) (ts : List Table) (owed : ℕ) (row : Row) → 0 < owed → Passed used ts owed → row_bad (last_rows ts) row ≡ false
    → Passed used (with_row ts row) (owed - 1)
passed_row used [] owed row h p e = omega arith
passed_row used (t ∷ []) owed row h p e =
    let n : length (t.rows ++ (row ∷ [])) + (owed - 1) ≡ length t.rows + owed = rw length-append (omega arith) in
    (ap (table_line_bad used t.kind) n ∙ p.0, rows_more t.rows row p.1 e)
passed_row used (t ∷ u ∷ []) owed row h p e = (p.0, p.1, passed_row (used ++ (t.kind ∷ [])) (u ∷ []) owed row h p.2 e)
passed_row used (t ∷ u ∷ v ∷ ts) owed row h p e = (p.0, p.1, passed_row (used ++ (t.kind ∷ [])) (u ∷ v ∷ ts) owed row h p.2 e)
