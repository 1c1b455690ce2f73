-- What is known of the cars that a sheet holds: sixty at most, with different numbers in range; and such cars, entered one after another, are all held.
use Prim.Native.Nat.{ℕ, ◌+◌, ◌≤◌, ◌<◌}
use mathlib.Core.Path.{◌≡◌, refl, ap, sym, subst, ◌∙◌}
use mathlib.Core.Bool.{Bool, false, cond, not, ◌||◌}
use mathlib.Core.Logic.{inl, inr}
use mathlib.Core.List.{List, [], ◌∷◌, ◌++◌, map, append-nil}
use native.Mathlib.Omega.{arith}
use lib.Dec.{leb, eqb}
use lib.ListN.{length, length-append}
use lib.Seq.{append_snoc}
use borrow.Author.Tests.{leb-false, lt-leb}
use Rattle.base.specs.Limits.{largest, most_cars}
use Rattle.base.specs.Lists.{Each}
use Rattle.base.specs.Numbers.{outside, member}
use Rattle.base.specs.Total.{selected}
use Rattle.base.proofs.Choice.{neither, cond_either}
use Rattle.base.proofs.Lists.{each_append, each_selected, length-map, map-append}
use Rattle.table.specs.Table.{Table}
use Rattle.grammar.specs.Grammar.{TrainLine, enters, strikes, CarNumbers, EachLine, WholeSheet}
use Rattle.merge_spec.specs.Order.{In}
use Rattle.merge_spec.specs.Held.{number_of, cars_held}
use Rattle.merge_spec.specs.Inner.{Distinct, Holds, turned_away, kept_behind, kept_from}
use Rattle.merge_spec.proofs.Order.{in_each}
use Rattle.merge_spec.proofs.Tables.{member_not, not_member, in_append}
use Rattle.merge_spec.proofs.Joining.{in_map}
use Rattle.merge_laws.proofs.Kept.{held_on_sheet}

-- Lists without equal keys.

distinct_snoc : {A : Type 0} (key : A → ℕ) (l : List A) (x : A) → Distinct key l → ((y : A) → In y l → key y ≡ key x → ⊥) → Distinct key (l ++ (x ∷ []))
distinct_snoc key [] x d h = (tt, tt)
distinct_snoc key (a ∷ l) x (n, d) h =
    (each_append (λ b. key a ≡ key b → ⊥) l (x ∷ []) n (h a (inl refl), tt), distinct_snoc key l x d (λ y i. h y (inr i)))

distinct_selected : {A : Type 0} (key : A → ℕ) (test : A → Bool) (l : List A) → Distinct key l → Distinct key (selected test l)
distinct_selected key test [] d = tt
distinct_selected key test (a ∷ l) (n, d) =
    let later = distinct_selected key test l d in
    cond_either (Distinct key) (test a) (a ∷ selected test l) (selected test l) (λ _. (each_selected (λ b. key a ≡ key b → ⊥) test l n, later)) (λ _. later)

selected_few : {A : Type 0} (test : A → Bool) (l : List A) → length (selected test l) ≤ length l
selected_few test [] = omega arith
selected_few test (a ∷ l) =
    let later = selected_few test l in
    cond_either (λ (k : List _). length k ≤ length (a ∷ l)) (test a) (a ∷ selected test l) (selected test l) (λ _. omega arith) (λ _. omega arith)

-- The cars that are kept.

record Good (kept : List (List ℕ)) : Type 0 where
  each : Each CarNumbers kept
  numbered : Each (λ x. outside 1 largest (number_of x) ≡ false) kept
  distinct : Distinct number_of kept
  sixty : length kept ≤ most_cars

one_more_lem : (kept : List (List ℕ)) (x : List ℕ) → Good kept → CarNumbers x → turned_away (map number_of kept) x ≡ false → Good (kept ++ (x ∷ []))
one_more_lem kept x g c e =
    let p = neither (leb most_cars (length (map number_of kept)) || outside 1 largest (number_of x)) (member (number_of x) (map number_of kept)) e in
    let q = neither (leb most_cars (length (map number_of kept))) (outside 1 largest (number_of x)) p.0 in
    let room : length (map number_of kept) < most_cars = leb-false most_cars (length (map number_of kept)) q.0 in
    record {
      each = each_append CarNumbers kept (x ∷ []) g.each (c, tt);
      numbered = each_append (λ y. outside 1 largest (number_of y) ≡ false) kept (x ∷ []) g.numbered (q.1, tt);
      distinct = distinct_snoc number_of kept x g.distinct (λ y i. member_not (number_of x) (map number_of kept) p.1 (number_of y) (in_map number_of kept y i));
      sixty = omega (arith, length-append kept (x ∷ []), length-map number_of kept);
    }

behind : (kept : List (List ℕ)) (line : TrainLine) → Good kept → EachLine (line ∷ []) → Good (kept_behind kept line)
behind kept (enters x) g (c, _) = cond_either Good (turned_away (map number_of kept) x) kept (kept ++ (x ∷ [])) (λ _. g) (λ e. one_more_lem kept x g c e)
behind kept (strikes n) g _ = record {
  each = each_selected CarNumbers (λ x. not (eqb (number_of x) n)) kept g.each;
  numbered = each_selected (λ y. outside 1 largest (number_of y) ≡ false) (λ x. not (eqb (number_of x) n)) kept g.numbered;
  distinct = distinct_selected number_of (λ x. not (eqb (number_of x) n)) kept g.distinct;
  sixty = omega (arith, g.sixty, selected_few (λ x. not (eqb (number_of x) n)) kept);
}

all_behind : (kept : List (List ℕ)) (history : List TrainLine) → Good kept → EachLine history → Good (kept_from kept history)
all_behind kept [] g c = g
all_behind kept (line ∷ history) g (c, cs) = all_behind (kept_behind kept line) history (behind kept line g (c, tt)) cs

-- what a whole sheet keeps
pub kept_known : (ts : List Table) (history : List TrainLine) → WholeSheet ts history → Holds ts (kept_from [] history)
kept_known ts history w =
    let g = all_behind [] history (record { each = tt; numbered = tt; distinct = tt; sixty = omega arith }) w.each in
    record { some = w.some; accepted = w.accepted; each = g.each; numbered = g.numbered; distinct = g.distinct; sixty = g.sixty }

pub held_known : (ts : List Table) (history : List TrainLine) → WholeSheet ts history → Holds ts (cars_held ts history)
held_known ts history w = subst (Holds ts) (sym (held_on_sheet ts w.accepted history).kept) (kept_known ts history w)

-- Cars of different numbers in range are all kept.

all_kept : (cars kept : List (List ℕ)) → Each (λ x. outside 1 largest (number_of x) ≡ false) cars → Distinct number_of cars
    → ((x : List ℕ) → In x cars → (k : ℕ) → In k (map number_of kept) → k ≡ number_of x → ⊥) → length kept + length cars ≤ most_cars
    → kept_from kept (map enters cars) ≡ kept ++ cars
all_kept [] kept o d new h = sym (append-nil kept)
all_kept (x ∷ cars) kept (o, os) (n, d) new h =
    let room : leb most_cars (length (map number_of kept)) ≡ false = lt-leb most_cars (length (map number_of kept)) (omega (arith, length-map number_of kept)) in
    let fresh : member (number_of x) (map number_of kept) ≡ false = not_member (number_of x) (map number_of kept) (new x (inl refl)) in
    let passed : turned_away (map number_of kept) x ≡ false = rw (room, o, fresh) in
    let more : length (kept ++ (x ∷ [])) ≡ length kept + 1 = length-append kept (x ∷ []) in
    ap (λ (b : Bool). kept_from (cond b kept (kept ++ (x ∷ []))) (map enters cars)) passed
    ∙ (all_kept cars (kept ++ (x ∷ [])) os d
    (λ y i k j e. in_one_more y i k (subst (In k) (map-append number_of kept (x ∷ [])) j) e)
    (omega arith)
    ∙ append_snoc kept x cars)
  where
    in_one_more : (y : List ℕ) → In y cars → (k : ℕ) → In k (map number_of kept ++ (number_of x ∷ [])) → k ≡ number_of y → ⊥
    in_one_more y i k j e =
        elim (in_append k (map number_of kept) (number_of x ∷ []) j) [
          | inl m ↦ new y (inr i) k m e
          | inr m ↦ elim m [ inl q ↦ in_each (λ z. number_of x ≡ number_of z → ⊥) cars n y i (q ∙ e) | inr z ↦ absurd z ]
        ]

pub all_held : (ts : List Table) (cars : List (List ℕ)) → Holds ts cars → cars_held ts (map enters cars) ≡ cars
all_held ts cars h =
    (held_on_sheet ts h.accepted (map enters cars)).kept
    ∙ all_kept cars [] h.numbered h.distinct (λ x i k j. absurd j) (omega (arith, h.sixty))
