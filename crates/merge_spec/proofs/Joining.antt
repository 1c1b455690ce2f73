-- The tables and the cars of two sheets put in order, by tests: their types differ on each, and so do their numbers, and neither 33 by rows nor 34 applies.
use Prim.Native.Nat.{ℕ}
use mathlib.Core.Path.{◌≡◌, ap, sym, ◌∙◌}
use mathlib.Core.Bool.{false}
use mathlib.Core.Logic.{inl, inr}
use mathlib.Core.List.{List, [], ◌∷◌, map}
use Rattle.base.specs.Numbers.{member}
use Rattle.base.proofs.Choice.{neither}
use Rattle.table.specs.Table.{Table}
use Rattle.consist.specs.Train.{twice}
use Rattle.grammar.specs.Grammar.{enters, sheet_text}
use Rattle.merge_spec.specs.Order.{In, Joined}
use Rattle.merge_spec.specs.Held.{number_of}
use Rattle.merge_spec.specs.Merge.{table_kind, rows_differ, held_on_both, OneText}
use Rattle.merge_spec.specs.Inner.{Distinct, joined_tables, joined_cars}
use Rattle.merge_spec.proofs.Order.{each_in, joined_is}
use Rattle.merge_spec.proofs.Tables.{member_not, tables_agree}

pub in_map : {A B : Type 0} (f : A → B) (l : List A) (x : A) → In x l → In (f x) (map f l)
in_map f [] x i = absurd i
in_map f (a ∷ l) x (inl e) = inl (ap f e)
in_map f (a ∷ l) x (inr i) = inr (in_map f l x i)

-- no key stands twice
distinct_if : {A : Type 0} (key : A → ℕ) (l : List A) → twice (map key l) ≡ false → Distinct key l
distinct_if key [] e = tt
distinct_if key (a ∷ l) e =
    let p = neither (member (key a) (map key l)) (twice (map key l)) e in
    (each_in (λ b. key a ≡ key b → ⊥) l (λ b i q. member_not (key a) (map key l) p.0 (key b) (in_map key l b i) (sym q)), distinct_if key l p.1)

-- 34: where it does not apply, no number of the one list is one of the other
pub none_shared : (cs ds : List (List ℕ)) → held_on_both cs ds ≡ false → (x y : List ℕ) → In x cs → In y ds → number_of x ≡ number_of y → ⊥
none_shared [] ds e x y i j q = absurd i
none_shared (c ∷ cs) ds e x y i j q = go (λ f k. none_shared cs ds f x y k j q) i (neither (member (number_of c) (map number_of ds)) (held_on_both cs ds) e)
  where
    go : (held_on_both cs ds ≡ false → In x cs → ⊥) → In x (c ∷ cs) → (member (number_of c) (map number_of ds) ≡ false) × (held_on_both cs ds ≡ false) → ⊥
    go later (inl p) (m, r) = member_not (number_of c) (map number_of ds) m (number_of y) (in_map number_of ds y j) (sym q ∙ ap number_of (sym p))
    go later (inr k) (m, r) = later r k

pub tables_joined : (ts us : List Table) → Distinct table_kind ts → Distinct table_kind us → rows_differ ts us ≡ false → Joined table_kind ts us (joined_tables ts us)
tables_joined ts us d f e = joined_is table_kind ts us d f (tables_agree ts us f e)

pub cars_joined : (cs ds : List (List ℕ)) → Distinct number_of cs → Distinct number_of ds → held_on_both cs ds ≡ false → Joined number_of cs ds (joined_cars cs ds)
cars_joined cs ds d f e = joined_is number_of cs ds d f (record { same = λ x y i j q. absurd (none_shared cs ds e x y i j q) })

-- the text of the joined tables and cars, where neither a type nor a number stands twice on a sheet, and 33 by rows and 34 do not apply
pub one_text : (ts : List Table) (cs : List (List ℕ)) (us : List Table) (ds : List (List ℕ)) (text : List ℕ) → twice (map table_kind ts) ≡ false → twice (map table_kind us) ≡ false
    → rows_differ ts us ≡ false → twice (map number_of cs) ≡ false → twice (map number_of ds) ≡ false → held_on_both cs ds ≡ false
    → text ≡ sheet_text (joined_tables ts us) (map enters (joined_cars cs ds)) → OneText ts cs us ds text
one_text ts cs us ds text t u r c d h e = record {
  tables = joined_tables ts us;
  cars = joined_cars cs ds;
  types_joined = tables_joined ts us (distinct_if table_kind ts t) (distinct_if table_kind us u) r;
  cars_joined = cars_joined cs ds (distinct_if number_of cs c) (distinct_if number_of ds d) h;
  is = e;
}
