-- How many tables and cars two sheets have together: as many as the lists that are put in order.
use Prim.Native.Nat.{ℕ, suc, ◌+◌, ◌<◌}
use mathlib.Core.Path.{◌≡◌, refl, ap, ap₂, sym, ◌∙◌}
use mathlib.Core.Bool.{Bool, true, false, cond, true≢false}
use mathlib.Core.Logic.{inl, inr}
use mathlib.Core.List.{List, [], ◌∷◌}
use native.Mathlib.Nat.{zero-add}
use native.Mathlib.Omega.{arith}
use lib.ListN.{length}
use Rattle.base.specs.Lists.{Each}
use Rattle.base.specs.Total.{total, selected}
use Rattle.base.proofs.Total.{total_same}
use Rattle.table.specs.Table.{Table, unknown}
use Rattle.merge_spec.specs.Order.{In, Rising}
use Rattle.merge_spec.specs.Held.{number_of}
use Rattle.merge_spec.specs.Merge.{table_kind, types_together}
use Rattle.merge_spec.specs.Inner.{Distinct, Agree, inserted, inserted_all, joined, joined_tables, joined_cars}
use Rattle.merge_spec.proofs.Order.{each_in, in_each, Compared, lower, level, higher, compared, place_level, place_higher, placed, alone, total_inserted, total_joined}
use Rattle.merge_spec.proofs.Tables.{found, is_known}

-- a sum of ones is a length
ones : {A : Type 0} (l : List A) → total (λ _. 1) l ≡ length l
ones l = omega (arith, total_same 1 l)

-- One element put in its place.

module _ {A : Type 0} (key : A → ℕ) where
  length_new : (x : A) (l : List A) → Each (λ y. key x ≡ key y → ⊥) l → length (inserted key x l) ≡ length l + 1
  length_new x l h = omega (arith, ones (inserted key x l), ones l, total_inserted key (λ _. 1) x l h)

  length_there : (x : A) (l : List A) → Rising key l → (y : A) → In y l → key y ≡ key x → length (inserted key x l) ≡ length l
  length_there x [] r y i e = absurd i
  length_there x (a ∷ l) (h, r) y i e = go (λ j. length_there x l r y j e) i (compared key x a)
    where
      go : (In y l → length (inserted key x l) ≡ length l) → In y (a ∷ l) → Compared key x a → length (inserted key x (a ∷ l)) ≡ length (a ∷ l)
      go later (inl q) (lower k) = let f : key a ≡ key y = ap key q in absurd (omega arith)
      go later (inr j) (lower k) = let f = in_each (λ b. key a < key b) l h y j in absurd (omega arith)
      go later i (level q) = ap length (place_level key x a l q)
      go later (inl q) (higher k) = let f : key a ≡ key y = ap key q in absurd (omega arith)
      go later (inr j) (higher k) = ap length (place_higher key x a l k) ∙ ap suc (later j)

-- The tables of a list put in their places: those count whose type is not there.

counted : (ts l : List Table) → Distinct table_kind ts → Rising table_kind l → Agree table_kind ts l
    → length (inserted_all table_kind ts l) ≡ length l + length (selected (λ (t : Table). unknown t.kind l) ts)
counted [] l d r a = omega arith
counted (t ∷ ts) l (n, d) r a =
    go (counted ts l d r (record { same = λ x y i j. a.same x y (inr i) j })) (unknown t.kind l) refl
  where
    a' : Agree table_kind ts l
    a' = record { same = λ x y i j. a.same x y (inr i) j }

    go : length (inserted_all table_kind ts l) ≡ length l + length (selected (λ (u : Table). unknown u.kind l) ts) → (b : Bool) → unknown t.kind l ≡ b
        → length (inserted table_kind t (inserted_all table_kind ts l)) ≡ length l + length (cond (unknown t.kind l) (t ∷ selected (λ (u : Table). unknown u.kind l) ts) (selected (λ (u : Table). unknown u.kind l) ts))
    go later false e =
        let f = found t.kind l e in
        let p = placed table_kind ts l d r a' in
        rw e (length_there table_kind t (inserted_all table_kind ts l) p.rising f.table (p.old f.table f.there) f.kind ∙ later)
    go later true e =
        let p = placed table_kind ts l d r a' in
        let new : Each (λ y. t.kind ≡ y.kind → ⊥) (inserted_all table_kind ts l) =
        each_in (λ y. t.kind ≡ y.kind → ⊥) (inserted_all table_kind ts l) (λ z i q.
        elim (p.only z i) [ inl j ↦ in_each (λ y. t.kind ≡ y.kind → ⊥) ts n z j q | inr j ↦ true≢false (sym e ∙ is_known t.kind l z j (sym q)) ]) in
        rw e (omega (arith, length_new table_kind t (inserted_all table_kind ts l) new, later))

-- the same types are there in another order
same_unknown : (k : ℕ) (l us : List Table) → ((t : Table) → In t l → In t us) → ((t : Table) → In t us → In t l) → unknown k l ≡ unknown k us
same_unknown k l us f g = go (unknown k l) refl (unknown k us) refl
  where
    go : (b : Bool) → unknown k l ≡ b → (c : Bool) → unknown k us ≡ c → unknown k l ≡ unknown k us
    go true p true q = p ∙ sym q
    go false p false q = p ∙ sym q
    go true p false q = let w = found k us q in absurd (true≢false (sym p ∙ is_known k l w.table (g w.table w.there) w.kind))
    go false p true q = let w = found k l p in absurd (true≢false (sym q ∙ is_known k us w.table (f w.table w.there) w.kind))

selected_same : {A : Type 0} (p q : A → Bool) (l : List A) → ((a : A) → p a ≡ q a) → selected p l ≡ selected q l
selected_same p q [] h = refl
selected_same p q (a ∷ l) h = ap₂ (λ (b : Bool) (k : List _). cond b (a ∷ k) k) (h a) (selected_same p q l h)

all_selected : {A : Type 0} (l : List A) → length (selected (λ _. true) l) ≡ length l
all_selected [] = refl
all_selected (a ∷ l) = omega (arith, all_selected l)

pub types_counted : (ts us : List Table) → Distinct table_kind ts → Distinct table_kind us → Agree table_kind ts us → length (joined_tables ts us) ≡ types_together ts us
unfolding joined
types_counted ts us d e a =
    let l : List Table = inserted_all table_kind us [] in
    let q = alone table_kind us e in
    let back : (t : Table) → In t l → In t us = λ t i. elim (q.only t i) [ inl j ↦ j | inr j ↦ absurd j ] in
    let own : length l ≡ length (selected (λ _. true) us) = counted us [] e tt (record { same = λ x y i j. absurd j }) ∙ zero-add _ in
    counted ts l d q.rising (record { same = λ x y i j. a.same x y i (back y j) })
    ∙ ap₂ (λ (m n : ℕ). m + n) (own ∙ all_selected us)
    (ap length (selected_same (λ (t : Table). unknown t.kind l) (λ (t : Table). unknown t.kind us) ts (λ t. same_unknown t.kind l us back q.new)))

pub cars_counted : (cs ds : List (List ℕ)) → Distinct number_of cs → Distinct number_of ds → ((x y : List ℕ) → In x cs → In y ds → number_of x ≡ number_of y → ⊥)
    → length (joined_cars cs ds) ≡ length cs + length ds
cars_counted cs ds d e a = omega (arith, ones (joined_cars cs ds), ones cs, ones ds, total_joined number_of (λ _. 1) cs ds d e a)
