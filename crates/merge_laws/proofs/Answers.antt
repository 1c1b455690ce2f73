-- The cars of the sheet made of two, with their answers: those held on either, each answered as there.
use Prim.Native.Nat.{ℕ, ◌<◌}
use mathlib.Core.Path.{◌≡◌, refl, ap, ap₂, sym, subst, ◌∙◌}
use mathlib.Core.Logic.{inl, inr}
use mathlib.Core.List.{List, [], ◌∷◌, map}
use Rattle.base.specs.Answer.{Answer}
use Rattle.base.specs.Lists.{Each}
use Rattle.table.specs.Table.{Table}
use Rattle.car.specs.Car.{own_answer}
use Rattle.grammar.specs.Grammar.{TrainLine, enters, WholeSheet}
use Rattle.merge_spec.specs.Order.{In, Rising, Joined}
use Rattle.merge_spec.specs.Held.{number_of, HeldCar, held_number, held_on}
use Rattle.merge_spec.specs.Merge.{table_kind}
use Rattle.merge_spec.specs.Merged.{AddUp, sums_on}
use Rattle.merge_spec.specs.Inner.{Distinct, Holds}
use Rattle.merge_spec.proofs.Order.{in_each}
use Rattle.merge_spec.proofs.Joining.{in_map, none_shared}
use Rattle.merge_laws.proofs.Kept.{cast, held_on_sheet}
use Rattle.merge_laws.proofs.Holding.{held_known, all_held}
use Rattle.merge_laws.proofs.Sums.{sums_both}
use Rattle.merge_laws.proofs.Clear.{Clear, joined_known, as_on_first, as_on_second}

-- Lists of what is made from others.

pub map_in : {A B : Type 0} (f : A → B) (l : List A) (y : B) → In y (map f l) → (x : A) × In x l × (f x ≡ y)
map_in f [] y i = absurd i
map_in f (a ∷ l) y (inl e) = (a, inl refl, e)
map_in f (a ∷ l) y (inr i) = let r = map_in f l y i in (r.0, inr r.1, r.2)

each_map : {A B : Type 0} (f : A → B) (P : B → Type 0) (l : List A) → Each P (map f l) → Each (λ a. P (f a)) l
each_map f P [] h = tt
each_map f P (a ∷ l) (h, hs) = (h, each_map f P l hs)

rising-map : {A B : Type 0} (f : A → B) (key : B → ℕ) (l : List A) → Rising key (map f l) → Rising (λ a. key (f a)) l
rising-map f key [] r = tt
rising-map f key (a ∷ l) (h, r) = (each_map f (λ b. key (f a) < key b) l h, rising-map f key l r)

distinct-map : {A B : Type 0} (f : A → B) (key : B → ℕ) (l : List A) → Distinct key (map f l) → Distinct (λ a. key (f a)) l
distinct-map f key [] d = tt
distinct-map f key (a ∷ l) (h, d) = (each_map f (λ b. key (f a) ≡ key b → ⊥) l h, distinct-map f key l d)

abbrev line_of : HeldCar → List ℕ
line_of h = h.car

same_held : (a b : HeldCar) → a.car ≡ b.car → a.answer ≡ b.answer → a ≡ b
same_held a b p q = ap₂ (λ (x : List ℕ) (y : Answer). record { car = x; answer = y }) p q

-- of two lists whose answers agree where their cars do, an element of the one is an element of the other where its car is
moved : (m : List HeldCar) (a : HeldCar) → ((b : HeldCar) → In b m → b.car ≡ a.car → b.answer ≡ a.answer) → In a.car (map line_of m) → In a m
moved m a agree i = let r = map_in line_of m a.car i in subst (λ b. In b m) (same_held r.0 a r.2 (agree r.0 r.1 r.2)) r.1

module _ (ts : List Table) (h : List TrainLine) (us : List Table) (k : List TrainLine) (v : WholeSheet ts h) (w : WholeSheet us k) where
  abbrev firsts : List HeldCar
  firsts = held_on ts h

  abbrev seconds : List HeldCar
  seconds = held_on us k

  abbrev cs : List (List ℕ)
  cs = map line_of firsts

  abbrev ds : List (List ℕ)
  ds = map line_of seconds

  module _ (c : Clear ts cs us ds) (ms : List Table) (es : List (List ℕ)) (j : Joined table_kind ts us ms) (n : Joined number_of cs ds es) where
    known : Holds ms es
    known = joined_known ts cs us ds (held_known ts h v) (held_known us k w) c ms es j n

    abbrev all : List HeldCar
    all = held_on ms (map enters es)

    cars_are : map line_of all ≡ es
    cars_are = all_held ms es known

    -- each answer is the car's own, on its tables
    own_first : (x : HeldCar) → In x firsts → x.answer ≡ own_answer ts (cast x.car)
    own_first x i = in_each (λ y. y.answer ≡ own_answer ts (cast y.car)) firsts (held_on_sheet ts v.accepted h).own x i

    own_second : (x : HeldCar) → In x seconds → x.answer ≡ own_answer us (cast x.car)
    own_second x i = in_each (λ y. y.answer ≡ own_answer us (cast y.car)) seconds (held_on_sheet us w.accepted k).own x i

    own_all : (x : HeldCar) → In x all → x.answer ≡ own_answer ms (cast x.car)
    own_all x i = in_each (λ y. y.answer ≡ own_answer ms (cast y.car)) all (held_on_sheet ms known.accepted (map enters es)).own x i

    same_first : (a b : HeldCar) → In a firsts → In b all → b.car ≡ a.car → b.answer ≡ a.answer
    same_first a b i m e =
        own_all b m
        ∙ ap (λ (x : List ℕ). own_answer ms (cast x)) e
        ∙ as_on_first ts cs us ds (held_known ts h v) (held_known us k w) c ms es j n a.car (in_map line_of firsts a i)
        ∙ sym (own_first a i)

    same_second : (a b : HeldCar) → In a seconds → In b all → b.car ≡ a.car → b.answer ≡ a.answer
    same_second a b i m e =
        own_all b m
        ∙ ap (λ (x : List ℕ). own_answer ms (cast x)) e
        ∙ as_on_second ts cs us ds (held_known ts h v) (held_known us k w) c ms es j n a.car (in_map line_of seconds a i)
        ∙ sym (own_second a i)

    pub answers_joined : Joined held_number firsts seconds all
    answers_joined = record {
      rising = rising-map line_of number_of all (subst (Rising number_of) (sym cars_are) n.rising);
      only = λ x i.
          elim (n.only x.car (subst (In x.car) cars_are (in_map line_of all x i))) [
            | inl m ↦ inl (moved firsts x (λ b l e. sym (same_first b x l i (sym e))) m)
            | inr m ↦ inr (moved seconds x (λ b l e. sym (same_second b x l i (sym e))) m)
          ];
      first = λ x i. moved all x (λ b l e. same_first x b i l e) (subst (In x.car) (sym cars_are) (n.first x.car (in_map line_of firsts x i)));
      second = λ x i. moved all x (λ b l e. same_second x b i l e) (subst (In x.car) (sym cars_are) (n.second x.car (in_map line_of seconds x i)));
    }

    pub sums_joined : AddUp (sums_on ts h) (sums_on us k) (sums_on ms (map enters es))
    sums_joined =
        sums_both ts h us k ms (map enters es)
        (distinct-map line_of number_of firsts (held_known ts h v).distinct)
        (distinct-map line_of number_of seconds (held_known us k w).distinct)
        (λ x y i m e. none_shared cs ds c.numbers x.car y.car (in_map line_of firsts x i) (in_map line_of seconds y m) e)
        answers_joined
