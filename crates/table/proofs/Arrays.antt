-- Rows and tables as a loop takes them out of the arrays, one by one, and what good tables have there.
use Prim.Native.Nat.{ℕ, zero, suc, ◌+◌, ◌-◌, ◌*◌, ◌≤◌, ◌<◌}
use mathlib.Core.Path.{◌≡◌, refl, sym, ap, ◌∙◌, subst}
use mathlib.Core.Bool.{Bool, true, false, cond, not, ◌||◌}
use mathlib.Core.List.{List, [], ◌∷◌, ◌++◌}
use mathlib.Core.Logic.{⊎_elim}
use native.Mathlib.Nat.{add-zero}
use native.Mathlib.Numerals.{add-one}
use native.Mathlib.Omega.{arith}
use lib.ListN.{length, get_or, take, drop, length-append, get_or-eq_default}
use lib.Seq.{drop-cons}
use lib.Dec.{eqb}
use Rattle.base.specs.Answer.{accepts, first}
use Rattle.base.specs.Limits.{most_tables, most_rows}
use Rattle.base.specs.Numbers.{member}
use Rattle.base.proofs.Choice.{below, same}
use Rattle.table.specs.declared.Directory.{Directory}
use Rattle.table.specs.Table.{Row, row_of, later_row_bad, row_bad, rows_tests, tables_tests_after, tables_verdict, unknown}
use Rattle.table.specs.Layout.{rows_from, table_at, tables_from, tables_of, types_of}
use Rattle.table.specs.Inner.{Good}
use Rattle.table.proofs.Table.{next_table}

pub one_left : (e i : ℕ) → i < e → e - i ≡ suc (e - (i + 1))
one_left e i h = omega arith

pub none_left : (e i : ℕ) → e ≤ i → e - i ≡ 0
none_left e i h = omega arith

row_bad_last : (rows : List Row) (before row : Row) → row_bad (rows ++ (before ∷ [])) row ≡ later_row_bad before row
row_bad_last [] before row = refl
row_bad_last (a ∷ []) before row = refl
row_bad_last (a ∷ b ∷ rows) before row = row_bad_last (b ∷ rows) before row

module _ (levels capacities : List ℕ) where
  abbrev pub row_at : ℕ → Row
  row_at i = row_of (get_or levels i 0) (get_or capacities i 0)

  -- rows with the first taken off, and no rows
  pub rows_first : (at : ℕ) {n m : ℕ} → n ≡ suc m → rows_from levels capacities at n ≡ row_at at ∷ rows_from levels capacities (at + 1) m
  rows_first at h = ap (rows_from levels capacities at) h

  pub rows_none : (at : ℕ) {n : ℕ} → n ≡ 0 → rows_from levels capacities at n ≡ []
  rows_none at h = ap (rows_from levels capacities at) h

  pub length_rows : (at n : ℕ) → length (rows_from levels capacities at n) ≡ n
  length_rows at zero = refl
  length_rows at (suc n) = ap suc (length_rows (at + 1) n)

  -- rows with the last taken off
  pub rows_last : (at n : ℕ) → rows_from levels capacities at (suc n) ≡ rows_from levels capacities at n ++ (row_at (at + n) ∷ [])
  rows_last at zero = rw (add-zero at)
  rows_last at (suc n) =
      let e : at + 1 + n ≡ at + suc n = omega arith in
      ap (λ (x : List Row). row_at at ∷ x) (rows_last (at + 1) n ∙ ap (λ (i : ℕ). rows_from levels capacities (at + 1) n ++ (row_at i ∷ [])) e)

  -- a row behind n rows, of which row i is the last
  pub row_later : (at n i : ℕ) (row : Row) → at + n ≡ suc i → 0 < n → row_bad (rows_from levels capacities at n) row ≡ later_row_bad (row_at i) row
  row_later at zero i row e h = absurd (omega arith)
  row_later at (suc n) i row e h =
      let p : at + n ≡ i = omega arith in
      ap (λ (x : List Row). row_bad x row) (rows_last at n)
      ∙ row_bad_last (rows_from levels capacities at n) (row_at (at + n)) row
      ∙ ap (λ (j : ℕ). later_row_bad (row_at j) row) p

module _ (types rows levels capacities : List ℕ) where
  pub tables_step : (k n : ℕ) → k < n →
      tables_from types rows levels capacities k (n - k)
      ≡ table_at types rows levels capacities k ∷ tables_from types rows levels capacities (k + 1) (n - (k + 1))
  tables_step k n h = ap (tables_from types rows levels capacities k) (one_left n k h)

  pub tables_none : (k n : ℕ) → n ≤ k → tables_from types rows levels capacities k (n - k) ≡ []
  tables_none k n h = ap (tables_from types rows levels capacities k) (none_left n k h)

-- tables in which `check_tables` finds nothing
pub good_tables : {d : Directory} {levels capacities : List ℕ} → accepts ≡ tables_verdict (tables_of d levels capacities) → Good d levels capacities
good_tables e = record { accepted = sym e }

-- What good tables have, each at its place in the directory.

pub record GoodTable (rows levels capacities : List ℕ) (k : ℕ) : Type 0 where
  pub few : k < most_tables
  pub two : 2 ≤ get_or rows k 0
  pub most : get_or rows k 0 ≤ most_rows
  pub good : first (rows_tests (rows_from levels capacities (most_rows * k) (get_or rows k 0))) ≡ accepts

module _ (types rows levels capacities : List ℕ) where
  good_each : (n k : ℕ) (used : List ℕ) → length used ≡ k → first (tables_tests_after used (tables_from types rows levels capacities k n)) ≡ accepts
      → (j : ℕ) → k ≤ j → j < k + n → GoodTable rows levels capacities j
  good_each zero k used l e j p q = absurd (omega arith)
  good_each (suc n) k used l e j p q =
      let t = next_table used (table_at types rows levels capacities k) (tables_from types rows levels capacities (k + 1) n) e in
      let r = length_rows levels capacities (most_rows * k) (get_or rows k 0) in
      ⊎_elim
      (λ (h : j ≡ k). subst (GoodTable rows levels capacities) (sym h)
      (record { few = omega (arith, t.line); two = omega (arith, t.line); most = omega (arith, t.line); good = t.good }))
      (λ (h : j ≡ k → ⊥). good_each n (k + 1) (used ++ (get_or types k 0 ∷ [])) (rw length-append (omega arith)) t.rest j (omega arith) (omega arith))
      (same j k)

  -- a type among the first n after k is the type of one of the tables: each type is at least 1, so it stands in the list
  known_after : (kind n k : ℕ) (used : List ℕ) → first (tables_tests_after used (tables_from types rows levels capacities k n)) ≡ accepts
      → member kind (take n (drop k types)) ≡ not (unknown kind (tables_from types rows levels capacities k n))
  known_after kind zero k used e = refl
  known_after kind (suc n) k used e =
      let t = next_table used (table_at types rows levels capacities k) (tables_from types rows levels capacities (k + 1) n) e in
      let h : k < length types =
      ⊎_elim (λ (h : k < length types). h) (λ (h : length types ≤ k). absurd (omega (arith, t.line.named, get_or-eq_default types 0 h))) (below k (length types)) in
      ap (λ (l : List ℕ). member kind (take (suc n) l)) (drop-cons types k 0 h ∙ ap (λ (i : ℕ). get_or types k 0 ∷ drop i types) (sym (add-one k)))
      ∙ either (eqb (get_or types k 0) kind) (member kind (take n (drop (k + 1) types))) (unknown kind (tables_from types rows levels capacities (k + 1) n))
      (known_after kind n (k + 1) (used ++ (get_or types k 0 ∷ [])) t.rest)
    where
      either : (b x y : Bool) → x ≡ not y → (b || x) ≡ not (cond b false y)
      either true x y e = refl
      either false x y e = e

module _ {d : Directory} {levels capacities : List ℕ} (g : Good d levels capacities) where
  pub good_table : (k : ℕ) → k < d.count → GoodTable d.rows levels capacities k
  good_table k h = good_each d.types d.rows levels capacities d.count 0 [] refl g.accepted k (omega arith) (omega arith)

  pub types_known : (kind : ℕ) → member kind (types_of d) ≡ not (unknown kind (tables_of d levels capacities))
  types_known kind = known_after d.types d.rows levels capacities kind d.count 0 [] g.accepted
