-- Rows compared one by one, and the tables of two directories one by one.
use Prim.Native.Nat.{ℕ, zero, suc, ◌+◌, ◌-◌, ◌*◌, ◌≤◌, ◌<◌}
use mathlib.Core.Path.{◌≡◌, refl, ap, ap₂, sym, ◌∙◌}
use mathlib.Core.Bool.{Bool, true, false, not, ◌&&◌}
use mathlib.Core.List.{List, [], ◌∷◌}
use native.Mathlib.Numerals.{add-one}
use native.Mathlib.Omega.{arith}
use lib.Dec.{eqb}
use lib.ListN.{length, get_or, take, drop}
use lib.Seq.{drop-cons}
use borrow.Author.Tests.{eq-eqb, ne_eqb}
use Rattle.std.specs.Cmp.Lexicographic.{pointwise}
use Rattle.base.specs.Limits.{most_rows}
use Rattle.table.specs.Table.{Row, Table, unknown, rows_of}
use Rattle.table.specs.declared.Tables.{Tables}
use Rattle.table.specs.Layout.{rows_from, table_at, tables_from, tables_in}
use Rattle.table.proofs.Arrays.{length_rows, tables_step}
use Rattle.merge_spec.specs.Merge.{same_row, same_rows}
use Rattle.merge_conflicts.specs.Inner.{same_run, table_differs}

and_false : (b : Bool) → false ≡ (b && false)
and_false true = refl
and_false false = refl

-- the run of n elements from `at` on, with the first taken off
run_first : (l : List ℕ) (at n : ℕ) → at < length l → take (suc n) (drop at l) ≡ get_or l at 0 ∷ take n (drop (at + 1) l)
run_first l at n h = ap (take (suc n)) (drop-cons l at 0 h) ∙ ap (λ (i : ℕ). get_or l at 0 ∷ take n (drop i l)) (sym (add-one at))

-- what comparing two slices tells
pub run_is : (xs ys : List ℕ) (at at' n : ℕ) → at + n ≤ length xs → at' + n ≤ length ys
    → pointwise eqb (take n (drop at xs)) (take n (drop at' ys)) ≡ same_run xs ys at at' n
run_is xs ys at at' zero h k = refl
run_is xs ys at at' (suc n) h k =
    ap₂ (pointwise eqb) (run_first xs at n (omega arith)) (run_first ys at' n (omega arith))
    ∙ ap (λ (b : Bool). eqb (get_or xs at 0) (get_or ys at' 0) && b) (run_is xs ys (at + 1) (at' + 1) n (omega arith) (omega arith))

crossed : (a b p q : Bool) → ((a && b) && (p && q)) ≡ ((a && p) && (b && q))
crossed false b p q = refl
crossed true false false q = refl
crossed true false true q = refl
crossed true true p q = refl

-- rows are the same where their levels are and their capacities are
pub same_by : (l c l' c' : List ℕ) (at at' n : ℕ)
    → same_rows (rows_from l c at n) (rows_from l' c' at' n) ≡ (same_run l l' at at' n && same_run c c' at at' n)
same_by l c l' c' at at' zero = refl
same_by l c l' c' at at' (suc n) =
    ap (λ (t : Bool). (eqb (get_or l at 0) (get_or l' at' 0) && eqb (get_or c at 0) (get_or c' at' 0)) && t) (same_by l c l' c' (at + 1) (at' + 1) n)
    ∙ crossed (eqb (get_or l at 0) (get_or l' at' 0)) (eqb (get_or c at 0) (get_or c' at' 0)) (same_run l l' (at + 1) (at' + 1) n) (same_run c c' (at + 1) (at' + 1) n)

-- rows of which there are not as many are not the same
pub other_count : (k l : List Row) → (length k ≡ length l → ⊥) → same_rows k l ≡ false
other_count [] [] h = absurd (h refl)
other_count [] (b ∷ l) h = refl
other_count (a ∷ k) [] h = refl
other_count (a ∷ k) (b ∷ l) h =
    ap (λ (t : Bool). same_row a b && t) (other_count k l (λ e. h (ap suc e))) ∙ sym (and_false (same_row a b))

-- One type looked for among the tables of a sheet.

module _ (kind : ℕ) (u : Tables) where
  -- the tables from number j on
  abbrev from : ℕ → List Table
  from j = tables_from u.types u.rows u.levels.now u.capacities.now j (u.count - j)

  -- the type is looked for among the tables from j on
  pub record Sought (j : ℕ) : Type 0 where
    pub kinds : unknown kind (tables_in u) ≡ unknown kind (from j)
    pub found : rows_of kind (tables_in u) ≡ rows_of kind (from j)

  module _ (j : ℕ) (h : j < u.count) (s : Sought j) where
    step : from j ≡ table_at u.types u.rows u.levels.now u.capacities.now j ∷ from (j + 1)
    step = tables_step u.types u.rows u.levels.now u.capacities.now j u.count h

    pub sought_next : (get_or u.types j 0 ≡ kind → ⊥) → Sought (j + 1)
    sought_next n = record {
      kinds = s.kinds ∙ ap (unknown kind) step ∙ rw (ne_eqb (get_or u.types j 0) kind n);
      found = s.found ∙ ap (rows_of kind) step ∙ rw (ne_eqb (get_or u.types j 0) kind n);
    }

    module _ (e : get_or u.types j 0 ≡ kind) where
      abbrev there : List Row
      there = rows_from u.levels.now u.capacities.now (most_rows * j) (get_or u.rows j 0)

      here_known : unknown kind (tables_in u) ≡ false
      here_known = s.kinds ∙ ap (unknown kind) step ∙ rw (eq-eqb (get_or u.types j 0) kind e)

      here_rows : rows_of kind (tables_in u) ≡ there
      here_rows = s.found ∙ ap (rows_of kind) step ∙ rw (eq-eqb (get_or u.types j 0) kind e)

      -- what is to be told of a table of these rows
      pub by_rows : (k : List Row) (b : Bool) → b ≡ same_rows k there → not b ≡ table_differs kind k (tables_in u)
      by_rows k b q = sym (rw (here_known, here_rows) (ap not (sym q)))

      pub by_count : (k : List Row) → (get_or u.rows j 0 ≡ length k → ⊥) → true ≡ table_differs kind k (tables_in u)
      by_count k n =
          by_rows k false (sym (other_count k there (λ q. n (sym (q ∙ length_rows u.levels.now u.capacities.now (most_rows * j) (get_or u.rows j 0))))))
