-- Tables of two sheets taken together: they are accepted again, and each type has the rows that it has on either.
use Prim.Native.Nat.{ℕ, ◌+◌, ◌≤◌}
use mathlib.Core.Path.{◌≡◌, refl, ap, ap₂, sym, ◌∙◌}
use mathlib.Core.Bool.{Bool, true, false, cond, not, ◌||◌, ◌&&◌, true≢false}
use mathlib.Core.Logic.{◌⊎◌, inl, inr}
use mathlib.Core.List.{List, [], ◌∷◌, ◌++◌}
use native.Mathlib.Omega.{arith}
use lib.Dec.{eqb, leb}
use lib.ListN.{length, length-append}
use borrow.Author.Tests.{eq-eqb, ne_eqb, eqb-true, eqb-false, lt-leb}
use Rattle.base.specs.Answer.{accepts, first}
use Rattle.base.specs.Limits.{most_tables, most_rows}
use Rattle.base.specs.Lists.{Each}
use Rattle.base.specs.Numbers.{outside, member}
use Rattle.base.proofs.Choice.{neither, both_hold}
use Rattle.table.specs.Table.{Row, Table, table_line_bad, rows_tests, tables_tests_after, tables_verdict, unknown, rows_of}
use Rattle.table.proofs.Table.{passing, next_table, table_passed}
use Rattle.merge_spec.specs.Order.{In, Joined}
use Rattle.merge_spec.specs.Inner.{Distinct, Agree}
use Rattle.merge_spec.specs.Merge.{table_kind, same_row, same_rows, rows_differ}
use Rattle.merge_spec.proofs.Order.{each_in, in_each, rising_distinct, distinct_same}

-- What 7 and 8 ask of a table by itself.

pub record Good (t : Table) : Type 0 where
  pub named : outside 1 9_999 t.kind ≡ false
  pub sized : outside 2 most_rows (length t.rows) ≡ false
  pub rows : first (rows_tests t.rows) ≡ accepts

-- a number is no element
pub not_member : (x : ℕ) (l : List ℕ) → ((y : ℕ) → In y l → y ≡ x → ⊥) → member x l ≡ false
not_member x [] h = refl
not_member x (y ∷ l) h = rw (ne_eqb y x (h y (inl refl))) (not_member x l (λ z i. h z (inr i)))

pub member_not : (x : ℕ) (l : List ℕ) → member x l ≡ false → (y : ℕ) → In y l → y ≡ x → ⊥
member_not x [] e y i = absurd i
member_not x (z ∷ l) e y (inl q) = let p = neither (eqb z x) (member x l) e in λ f. eqb-false z x p.0 (q ∙ f)
member_not x (z ∷ l) e y (inr i) = let p = neither (eqb z x) (member x l) e in member_not x l p.1 y i

pub in_append : {A : Type 0} (x : A) (k l : List A) → In x (k ++ l) → In x k ⊎ In x l
in_append x [] l i = inr i
in_append x (a ∷ k) l (inl e) = inl (inl e)
in_append x (a ∷ k) l (inr i) = elim (in_append x k l i) [ inl j ↦ inl (inr j) | inr j ↦ inr j ]

pub in_before : {A : Type 0} (x : A) (k l : List A) → In x k → In x (k ++ l)
in_before x [] l i = absurd i
in_before x (a ∷ k) l (inl e) = inl e
in_before x (a ∷ k) l (inr i) = inr (in_before x k l i)

pub in_last : {A : Type 0} (x : A) (k : List A) → In x (k ++ (x ∷ []))
in_last x [] = inl refl
in_last x (a ∷ k) = inr (in_last x k)

-- Accepted tables are good and of different types.

pub record Apart (used : List ℕ) (ts : List Table) : Type 0 where
  pub good : Each Good ts
  pub new : (t : Table) → In t ts → (k : ℕ) → In k used → k ≡ t.kind → ⊥
  pub distinct : Distinct table_kind ts

pub apart : (used : List ℕ) (ts : List Table) → first (tables_tests_after used ts) ≡ accepts → Apart used ts
apart used [] e = record { good = tt; new = λ t i. absurd i; distinct = tt }
apart used (t ∷ ts) e =
    let n = next_table used t ts e in
    let bad = (passing 7 (table_line_bad used t.kind (length t.rows)) _ e).0 in
    let a = neither (outside 1 9_999 t.kind || member t.kind used || outside 2 most_rows (length t.rows)) (leb most_tables (length used)) bad in
    let b = neither (outside 1 9_999 t.kind || member t.kind used) (outside 2 most_rows (length t.rows)) a.0 in
    let c = neither (outside 1 9_999 t.kind) (member t.kind used) b.0 in
    let later = apart (used ++ (t.kind ∷ [])) ts n.rest in
    record {
      good = (record { named = c.0; sized = b.1; rows = n.good }, later.good);
      new = λ u i k j. elim i [ inl q ↦ λ f. member_not t.kind used c.1 k j (f ∙ sym (ap table_kind q)) | inr m ↦ later.new u m k (in_before k used (t.kind ∷ []) j) ];
      distinct = (each_in (λ u. t.kind ≡ u.kind → ⊥) ts (λ u i. later.new u i t.kind (in_last t.kind used)), later.distinct);
    }

-- and good tables of different types, four at most, are accepted
pub accepted_again : (used : List ℕ) (ts : List Table) → Each Good ts → ((t : Table) → In t ts → (k : ℕ) → In k used → k ≡ t.kind → ⊥) → Distinct table_kind ts
    → length used + length ts ≤ most_tables → first (tables_tests_after used ts) ≡ accepts
accepted_again used [] g n d h = refl
accepted_again used (t ∷ ts) (g, gs) n (a, d) h =
    let line : table_line_bad used t.kind (length t.rows) ≡ false = rw (g.named, not_member t.kind used (n t (inl refl)), g.sized) (lt-leb most_tables (length used) (omega arith)) in
    let more : length (used ++ (t.kind ∷ [])) ≡ length used + 1 = length-append used (t.kind ∷ []) in
    table_passed used t ts line g.rows
    ∙ accepted_again (used ++ (t.kind ∷ [])) ts gs
    (λ u i k j. elim (in_append k used (t.kind ∷ []) j) [ inl m ↦ n u (inr i) k m | inr m ↦ elim m [ inl q ↦ λ f. in_each (λ v. t.kind ≡ v.kind → ⊥) ts a u i (q ∙ f) | inr z ↦ absurd z ] ])
    d (omega arith)

-- The table that has a type.

pub record Found (k : ℕ) (ts : List Table) : Type 0 where
  pub table : Table
  pub there : In table ts
  pub kind : table.kind ≡ k
  pub rows : rows_of k ts ≡ table.rows

pub found : (k : ℕ) (ts : List Table) → unknown k ts ≡ false → Found k ts
found k [] e = absurd (true≢false e)
found k (t ∷ ts) e = go (found k ts) (eqb t.kind k) refl e
  where
    go : (unknown k ts ≡ false → Found k ts) → (b : Bool) → eqb t.kind k ≡ b → cond b false (unknown k ts) ≡ false → Found k (t ∷ ts)
    go later true q e = record { table = t; there = inl refl; kind = eqb-true t.kind k q; rows = rw q }
    go later false q e = let f = later e in record { table = f.table; there = inr f.there; kind = f.kind; rows = rw q f.rows }

pub is_known : (k : ℕ) (ts : List Table) (t : Table) → In t ts → t.kind ≡ k → unknown k ts ≡ false
is_known k [] t i e = absurd i
is_known k (u ∷ ts) t (inl q) e = rw (eq-eqb u.kind k (ap table_kind q ∙ e))
is_known k (u ∷ ts) t (inr i) e = go (eqb u.kind k) (is_known k ts t i e)
  where
    go : (b : Bool) → unknown k ts ≡ false → cond b false (unknown k ts) ≡ false
    go true f = refl
    go false f = f

pub no_rows : (k : ℕ) (ts : List Table) → unknown k ts ≡ true → rows_of k ts ≡ []
no_rows k [] e = refl
no_rows k (t ∷ ts) e = go (eqb t.kind k) e (no_rows k ts)
  where
    go : (b : Bool) → cond b false (unknown k ts) ≡ true → (unknown k ts ≡ true → rows_of k ts ≡ []) → cond b t.rows (rows_of k ts) ≡ []
    go true e later = absurd (true≢false (sym e))
    go false e later = later e

-- of tables of different types
pub rows_of_lem : (ts : List Table) → Distinct table_kind ts → (t : Table) → In t ts → rows_of t.kind ts ≡ t.rows
rows_of_lem ts d t i =
    let f = found t.kind ts (is_known t.kind ts t i refl) in
    f.rows ∙ ap (λ u. u.rows) (distinct_same table_kind ts d f.table t f.there i f.kind)

-- Equal rows, as a test.

same_row_lem : (a b : Row) → same_row a b ≡ true → a ≡ b
same_row_lem a b e =
    let p = both_hold (eqb a.level b.level) (eqb a.capacity b.capacity) e in
    ap₂ (λ (x y : ℕ). record { level = x; capacity = y }) (eqb-true a.level b.level p.0) (eqb-true a.capacity b.capacity p.1)

pub same_rows_lem : (k l : List Row) → same_rows k l ≡ true → k ≡ l
same_rows_lem [] [] e = refl
same_rows_lem [] (b ∷ l) e = absurd (true≢false (sym e))
same_rows_lem (a ∷ k) [] e = absurd (true≢false (sym e))
same_rows_lem (a ∷ k) (b ∷ l) e = let p = both_hold (same_row a b) (same_rows k l) e in ap₂ (λ (x : Row) (y : List Row). x ∷ y) (same_row_lem a b p.0) (same_rows_lem k l p.1)

pub rows_same : (k : List Row) → same_rows k k ≡ true
rows_same [] = refl
rows_same (a ∷ k) = rw (eq-eqb a.level a.level refl, eq-eqb a.capacity a.capacity refl) (rows_same k)

-- 33 by its rows: where it does not apply, a type that both have is the same table.

not_both : (a b : Bool) → (not a && not b) ≡ false → a ≡ false → b ≡ true
not_both true b e f = absurd (true≢false f)
not_both false true e f = refl
not_both false false e f = absurd (true≢false e)

rows_agree : (ts us : List Table) → rows_differ ts us ≡ false → (t : Table) → In t ts → unknown t.kind us ≡ false → t.rows ≡ rows_of t.kind us
rows_agree [] us e t i n = absurd i
rows_agree (v ∷ ts) us e t i n = go (rows_agree ts us) i (neither (not (unknown v.kind us) && not (same_rows v.rows (rows_of v.kind us))) (rows_differ ts us) e)
  where
    go : (rows_differ ts us ≡ false → (t : Table) → In t ts → unknown t.kind us ≡ false → t.rows ≡ rows_of t.kind us) → In t (v ∷ ts)
        → ((not (unknown v.kind us) && not (same_rows v.rows (rows_of v.kind us))) ≡ false) × (rows_differ ts us ≡ false) → t.rows ≡ rows_of t.kind us
    go later (inl q) (p, r) =
        rw (← q) (same_rows_lem v.rows (rows_of v.kind us) (not_both (unknown v.kind us) (same_rows v.rows (rows_of v.kind us)) p (ap (λ w. unknown w.kind us) q ∙ n)))
    go later (inr j) (p, r) = later r t j n

pub tables_agree : (ts us : List Table) → Distinct table_kind us → rows_differ ts us ≡ false → Agree table_kind ts us
tables_agree ts us d e = record {
  same = λ t u i j k.
      let n : unknown t.kind us ≡ false = is_known t.kind us u j (sym k) in
      let r : t.rows ≡ u.rows = rows_agree ts us e t i n ∙ ap (λ (m : ℕ). rows_of m us) k ∙ rows_of_lem us d u j in
      ap₂ (λ (m : ℕ) (l : List Row). record { kind = m; rows = l }) k r;
}

-- The joined tables.

module _ (ts us ms : List Table) (j : Joined table_kind ts us ms) where
  joined_good : Each Good ts → Each Good us → Each Good ms
  joined_good g h = each_in Good ms (λ t i. elim (j.only t i) [ inl k ↦ in_each Good ts g t k | inr k ↦ in_each Good us h t k ])

  pub joined_accepted : tables_verdict ts ≡ accepts → tables_verdict us ≡ accepts → length ms ≤ most_tables → tables_verdict ms ≡ accepts
  joined_accepted e f h =
      accepted_again [] ms (joined_good (apart [] ts e).good (apart [] us f).good) (λ t i k m. absurd m) (rising_distinct table_kind ms j.rising) (omega arith)

  -- a type that ts has, or that neither has, is there as ts has it
  pub record AsOn (k : ℕ) (vs : List Table) : Type 0 where
    pub unknown_same : unknown k ms ≡ unknown k vs
    pub rows_same : rows_of k ms ≡ rows_of k vs

  as_known : (vs : List Table) → ((t : Table) → In t vs → In t ms) → (k : ℕ) → unknown k vs ≡ false → AsOn k vs
  as_known vs h k e =
      let f = found k vs e in
      let i = h f.table f.there in
      record {
        unknown_same = is_known k ms f.table i f.kind ∙ sym e;
        rows_same = ap (λ (m : ℕ). rows_of m ms) (sym f.kind) ∙ rows_of_lem ms (rising_distinct table_kind ms j.rising) f.table i ∙ sym f.rows;
      }

  joined_unknown : (k : ℕ) → unknown k ts ≡ true → unknown k us ≡ true → unknown k ms ≡ true
  joined_unknown k e f = go (unknown k ms) refl
    where
      clash : (vs : List Table) → unknown k vs ≡ true → (t : Table) → In t vs → t.kind ≡ k → ⊥
      clash vs u t i q = true≢false (sym u ∙ is_known k vs t i q)

      go : (b : Bool) → unknown k ms ≡ b → unknown k ms ≡ true
      go true e' = e'
      go false e' = let g = found k ms e' in absurd (elim (j.only g.table g.there) [ inl i ↦ clash ts e g.table i g.kind | inr i ↦ clash us f g.table i g.kind ])

  as_unknown : (vs : List Table) (k : ℕ) → unknown k ms ≡ true → unknown k vs ≡ true → AsOn k vs
  as_unknown vs k e f = record { unknown_same = e ∙ sym f; rows_same = no_rows k ms e ∙ sym (no_rows k vs f) }

  pub as_first : (k : ℕ) → (unknown k ts ≡ true → unknown k us ≡ true) → AsOn k ts
  as_first k h = go (unknown k ts) refl
    where
      go : (b : Bool) → unknown k ts ≡ b → AsOn k ts
      go true e = as_unknown ts k (joined_unknown k e (h e)) e
      go false e = as_known ts j.first k e

  pub as_second : (k : ℕ) → (unknown k us ≡ true → unknown k ts ≡ true) → AsOn k us
  as_second k h = go (unknown k us) refl
    where
      go : (b : Bool) → unknown k us ≡ b → AsOn k us
      go true e = as_unknown us k (joined_unknown k (h e) e) e
      go false e = as_known us j.second k e
