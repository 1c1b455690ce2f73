-- Which of two sheets comes first makes no difference to 33, 34 and 35.
use Prim.Native.Nat.{ℕ, ◌+◌}
use mathlib.Core.Path.{◌≡◌, refl, ap, ap₂, sym, ◌∙◌}
use mathlib.Core.Bool.{Bool, true, false, not, ◌||◌, ◌&&◌}
use mathlib.Core.Logic.{inl, inr}
use mathlib.Core.List.{List, [], ◌∷◌, map}
use native.Mathlib.Omega.{arith}
use lib.Dec.{ltb}
use lib.ListN.{length}
use Rattle.base.specs.Answer.{refuse_if, first}
use Rattle.base.specs.Limits.{most_tables, most_cars}
use Rattle.base.proofs.Choice.{neither}
use Rattle.table.specs.Table.{Table, unknown, rows_of}
use Rattle.merge_spec.specs.Order.{In}
use Rattle.merge_spec.specs.Held.{number_of}
use Rattle.merge_spec.specs.Merge.{table_kind, same_rows, rows_differ, type_elsewhere, held_on_both, types_together, merge_tests}
use Rattle.merge_spec.specs.Inner.{Distinct, Agree, Holds, joined_tables}
use Rattle.merge_spec.proofs.Order.{joined_one, joined_swap}
use Rattle.merge_spec.proofs.Tables.{not_member, tables_agree, found, rows_same}
use Rattle.merge_spec.proofs.Joining.{none_shared}
use Rattle.merge_laws.proofs.Clear.{first_distinct, second_distinct, ordered_tables, tables-length}
use Rattle.merge_laws.proofs.Answers.{map_in}

-- two tests that fail together are one
both_fail : (a b : Bool) → (a ≡ false → b ≡ false) → (b ≡ false → a ≡ false) → a ≡ b
both_fail true true f g = refl
both_fail true false f g = g refl
both_fail false b f g = sym (f refl)

-- 33 by rows: tables that agree have no type with different rows.

pub rows_fine : (ts us : List Table) → Distinct table_kind us → Agree table_kind ts us → rows_differ ts us ≡ false
rows_fine [] us d a = refl
rows_fine (t ∷ ts) us d a = ap₂ (λ (x y : Bool). x || y) (go (unknown t.kind us) refl) (rows_fine ts us d (record { same = λ x y i j. a.same x y (inr i) j }))
  where
    go : (b : Bool) → unknown t.kind us ≡ b → (not (unknown t.kind us) && not (same_rows t.rows (rows_of t.kind us))) ≡ false
    go true e = rw e
    go false e =
        let f = found t.kind us e in
        let q : t ≡ f.table = a.same t f.table (inl refl) f.there (sym f.kind) in
        let r : rows_of t.kind us ≡ t.rows = f.rows ∙ ap (λ (u : Table). u.rows) (sym q) in
        rw (e, r, rows_same t.rows)

agree_swap : {ts us : List Table} → Agree table_kind ts us → Agree table_kind us ts
agree_swap a = record { same = λ x y i j q. sym (a.same y x j i (sym q)) }

rows_swap : (ts us : List Table) → Distinct table_kind ts → Distinct table_kind us → rows_differ us ts ≡ rows_differ ts us
rows_swap ts us d e =
    both_fail (rows_differ us ts) (rows_differ ts us)
    (λ p. rows_fine ts us e (agree_swap (tables_agree us ts d p)))
    (λ p. rows_fine us ts d (agree_swap (tables_agree ts us e p)))

-- 34: numbers of which none is shared

pub numbers_fine : (cs ds : List (List ℕ)) → ((x y : List ℕ) → In x cs → In y ds → number_of x ≡ number_of y → ⊥) → held_on_both cs ds ≡ false
numbers_fine [] ds h = refl
numbers_fine (c ∷ cs) ds h =
    ap₂ (λ (x y : Bool). x || y)
    (not_member (number_of c) (map number_of ds) (λ n i q. let r = map_in number_of ds n i in h c r.0 (inl refl) r.1 (sym (r.2 ∙ q))))
    (numbers_fine cs ds (λ x y i j. h x y (inr i) j))

numbers_swap : (cs ds : List (List ℕ)) → held_on_both ds cs ≡ held_on_both cs ds
numbers_swap cs ds =
    both_fail (held_on_both ds cs) (held_on_both cs ds)
    (λ e. numbers_fine cs ds (λ x y i j q. none_shared ds cs e y x j i (sym q)))
    (λ e. numbers_fine ds cs (λ x y i j q. none_shared cs ds e y x j i (sym q)))

-- All three.

or_turn : (a b c : Bool) → (a || b || c) ≡ (a || c || b)
or_turn true b c = refl
or_turn false true true = refl
or_turn false true false = refl
or_turn false false true = refl
or_turn false false false = refl

module _ (ts : List Table) (cs : List (List ℕ)) (us : List Table) (ds : List (List ℕ)) (h : Holds ts cs) (g : Holds us ds) where
  rows_turned : rows_differ us ts ≡ rows_differ ts us
  rows_turned = rows_swap ts us (first_distinct ts cs us ds h g) (second_distinct ts cs us ds h g)

  swap_33 : (rows_differ us ts || type_elsewhere us ts ds || type_elsewhere ts us cs) ≡ (rows_differ ts us || type_elsewhere ts us cs || type_elsewhere us ts ds)
  swap_33 = rw rows_turned (or_turn (rows_differ ts us) (type_elsewhere us ts ds) (type_elsewhere ts us cs))

  swap_tables : rows_differ ts us ≡ false → joined_tables us ts ≡ joined_tables ts us
  swap_tables e =
      joined_one table_kind us ts (joined_tables us ts) (joined_tables ts us) (ordered_tables us ds ts cs g h (rows_turned ∙ e))
      (joined_swap table_kind ts us (joined_tables ts us) (ordered_tables ts cs us ds h g e))

  swap_types : rows_differ ts us ≡ false → types_together us ts ≡ types_together ts us
  swap_types e = sym (tables-length us ds ts cs g h (rows_turned ∙ e)) ∙ ap length (swap_tables e) ∙ tables-length ts cs us ds h g e

  abbrev too_many_lem : ℕ → ℕ → Bool
  too_many_lem types cars = ltb most_tables types || ltb most_cars cars

  by_tests : (a b : Bool) (m n m' n' : ℕ) → (a ≡ false → m' ≡ m) → n' ≡ n
      → first (refuse_if 33 a ∷ refuse_if 34 b ∷ refuse_if 35 (too_many_lem m' n') ∷ []) ≡ first (refuse_if 33 a ∷ refuse_if 34 b ∷ refuse_if 35 (too_many_lem m n) ∷ [])
  by_tests true b m n m' n' p q = refl
  by_tests false b m n m' n' p q = rw (p refl, q)

  pub tests_swap : first (merge_tests us ds ts cs) ≡ first (merge_tests ts cs us ds)
  tests_swap =
      ap₂ (λ (a b : Bool). first (refuse_if 33 a ∷ refuse_if 34 b ∷ refuse_if 35 (too_many_lem (types_together us ts) (length ds + length cs)) ∷ [])) swap_33 (numbers_swap cs ds)
      ∙ by_tests (rows_differ ts us || type_elsewhere ts us cs || type_elsewhere us ts ds) (held_on_both cs ds)
      (types_together ts us) (length cs + length ds) (types_together us ts) (length ds + length cs)
      (λ e. swap_types (neither (rows_differ ts us) (type_elsewhere ts us cs) (neither (rows_differ ts us || type_elsewhere ts us cs) (type_elsewhere us ts ds) e).0).0)
      (omega arith)
