-- What a directory has whose tables are as they must be: few tables, and room for the rows that the last lacks.
use Prim.Native.Nat.{ℕ, zero, suc, ◌+◌, ◌-◌, ◌*◌, ◌≤◌, ◌<◌}
use mathlib.Core.Path.{◌≡◌, refl, subst}
use mathlib.Core.List.{List, [], ◌∷◌, ◌++◌}
use mathlib.Core.Logic.{⊎_elim}
use native.Mathlib.Omega.{arith}
use lib.ListN.{length, get_or, length-append}
use Rattle.base.specs.Limits.{most_tables, most_rows}
use Rattle.base.proofs.Choice.{same, below}
use Rattle.table.specs.declared.Directory.{Directory}
use Rattle.table.specs.Layout.{rows_from, tables_from, tables_of}
use Rattle.table.proofs.Table.{table_line_good}
use Rattle.table.proofs.Arrays.{length_rows}
use Rattle.grammar.specs.Grammar.{Passed}
use Rattle.holding.specs.Inner.{Owing}

-- table j of those before `end`, of which the last lacks `owed` rows
record Room (rows : List ℕ) (owed end j : ℕ) : Type 0 where
  pub few : j < most_tables
  pub most : get_or rows j 0 ≤ most_rows
  pub more : suc j ≡ end → get_or rows j 0 + owed ≤ most_rows

module _ (types rows l c : List ℕ) (owed : ℕ) where
  room_from : (n k : ℕ) (used : List ℕ) → length used ≡ k → Passed used (tables_from types rows l c k n) owed → (j : ℕ) → k ≤ j → j < k + n → Room rows owed (k + n) j
  room_from zero k used e p j a b = absurd (omega arith)
  room_from (suc zero) k used e p j a b =
      let t = table_line_good used (get_or types k 0) (length (rows_from l c (most_rows * k) (get_or rows k 0)) + owed) p.0 in
      let n = length_rows l c (most_rows * k) (get_or rows k 0) in
      let q : k ≡ j = omega arith in
      subst (Room rows owed (k + 1)) q (record { few = omega (arith, t.few); most = omega (arith, t.most); more = λ _. omega (arith, t.most) })
  room_from (suc (suc m)) k used e p j a b =
      ⊎_elim
      (λ (q : k ≡ j).
      let t = table_line_good used (get_or types k 0) (length (rows_from l c (most_rows * k) (get_or rows k 0))) p.0 in
      let n = length_rows l c (most_rows * k) (get_or rows k 0) in
      subst (Room rows owed (k + suc (suc m))) q (record { few = omega (arith, t.few); most = omega (arith, t.most); more = λ z. absurd (omega arith) }))
      (λ (q : k ≡ j → ⊥).
      let i : k + 1 + suc m ≡ k + suc (suc m) = omega arith in
      rw i at (room_from (suc m) (k + 1) (used ++ (get_or types k 0 ∷ [])) (rw length-append (omega arith)) p.2 j (omega arith) (omega arith)))
      (same k j)

module _ (d : Directory) (l c : List ℕ) (owed : ℕ) (p : Passed [] (tables_of d l c) owed) where
  room : (j : ℕ) → j < d.count → Room d.rows owed (0 + d.count) j
  room j h = room_from d.types d.rows l c owed d.count 0 [] refl p j (omega arith) (omega arith)

  pub few_tables : d.count ≤ most_tables
  few_tables =
      ⊎_elim (λ (h : d.count < 1). omega arith) (λ (h : 1 ≤ d.count). omega (arith, (room (d.count - 1) (omega arith)).few)) (below d.count 1)

  some_tables : 0 < owed → (n : ℕ) → Passed [] (tables_from d.types d.rows l c 0 n) owed → 0 < n
  some_tables h zero q = absurd (omega arith)
  some_tables h (suc n) q = omega arith

  pub owing : 0 < owed → Owing owed d
  owing h =
      let s : 0 < d.count = some_tables h d.count p in
      record { some = s; few = few_tables; room = (room (d.count - 1) (omega arith)).more (omega arith); each = λ k i. (room k i).most }
