-- Laws of numbers in their places: where one stands first, whether one stands twice, one more behind the others, one taken out.
use Prim.Native.Nat.{ℕ, zero, suc, ◌+◌, ◌-◌, ◌≤◌, ◌<◌}
use mathlib.Core.Path.{◌≡◌, refl, sym, ap, ap₂, ◌∙◌}
use mathlib.Core.Bool.{Bool, true, false, cond, not, ◌||◌, or-true, true≢false}
use mathlib.Core.List.{List, [], ◌∷◌, ◌++◌, map}
use mathlib.Core.Logic.{⊎_elim}
use native.Mathlib.Numerals.{add-one}
use native.Mathlib.Omega.{arith}
use lib.Dec.{ltb, eqb}
use lib.ListN.{length, get_or, take, drop, length-append}
use lib.Seq.{take-add, take-suc}
use borrow.Author.Tests.{eq-eqb, ne_eqb, eqb-true, lt-ltb, le-ltb}
use Rattle.base.specs.Numbers.{member}
use Rattle.base.specs.Total.{selected}
use Rattle.base.proofs.Choice.{below, neither, same}
use Rattle.base.proofs.Numbers.{any_snoc}
use Rattle.consist.specs.Train.{twice, position, remove_at, closed}

eqb_sym : (a b : ℕ) → eqb a b ≡ eqb b a
eqb_sym a b =
    ⊎_elim (λ (e : a ≡ b). ap₂ eqb e (sym e)) (λ (n : a ≡ b → ⊥). ne_eqb a b n ∙ sym (ne_eqb b a (λ e. n (sym e)))) (same a b)

-- A number twice.

pub twice_snoc : (l : List ℕ) (x : ℕ) → twice (l ++ (x ∷ [])) ≡ (twice l || member x l)
twice_snoc [] x = refl
twice_snoc (y ∷ l) x =
    ap₂ (λ (a b : Bool). a || b) (any_snoc (λ (z : ℕ). eqb z y) l x) (twice_snoc l x)
    ∙ shuffle (member y l) (eqb x y) (twice l) (member x l)
    ∙ ap (λ (t : Bool). (member y l || twice l) || (t || member x l)) (eqb_sym x y)
  where
    shuffle : (a b c d : Bool) → ((a || b) || (c || d)) ≡ ((a || c) || (b || d))
    shuffle true b c d = refl
    shuffle false true true d = refl
    shuffle false true false d = refl
    shuffle false false c d = refl

pub member_more : (x : ℕ) (m l : List ℕ) → member x m ≡ true → member x (m ++ l) ≡ true
member_more x [] l e = absurd (true≢false (sym e))
member_more x (y ∷ m) l e = step (eqb y x) (member_more x m l) e
  where
    step : (t : Bool) → (member x m ≡ true → member x (m ++ l) ≡ true) → (t || member x m) ≡ true → (t || member x (m ++ l)) ≡ true
    step true h e = refl
    step false h e = h e

twice_more : (k l : List ℕ) → twice k ≡ true → twice (k ++ l) ≡ true
twice_more [] l e = absurd (true≢false (sym e))
twice_more (x ∷ k) l e = go (member x k) refl (twice_more k l) e
  where
    go : (t : Bool) → member x k ≡ t → (twice k ≡ true → twice (k ++ l) ≡ true) → (t || twice k) ≡ true → (member x (k ++ l) || twice (k ++ l)) ≡ true
    go true p h e = ap (λ (t : Bool). t || twice (k ++ l)) (member_more x k l p)
    go false p h e = ap (λ (t : Bool). member x (k ++ l) || t) (h e) ∙ or-true (member x (k ++ l))

-- of the first n numbers one more is passed
module _ (l : List ℕ) (i : ℕ) (low : i < length l) where
  twice_next : twice (take (i + 1) l) ≡ (twice (take i l) || member (get_or l i 0) (take i l))
  twice_next = ap (λ (k : ℕ). twice (take k l)) (add-one i) ∙ ap twice (take-suc l i 0 low) ∙ twice_snoc (take i l) (get_or l i 0)

  pub twice_hit : (n : ℕ) → i < n → member (get_or l i 0) (take i l) ≡ true → true ≡ twice (take n l)
  twice_hit n h e =
      let m : ℕ = n - (i + 1) in
      let k : n ≡ i + 1 + m = omega arith in
      let here : twice (take (i + 1) l) ≡ true = twice_next ∙ ap (λ (t : Bool). twice (take i l) || t) e ∙ or-true (twice (take i l)) in
      sym (ap (λ (q : ℕ). twice (take q l)) k ∙ ap twice (take-add (i + 1) m l) ∙ twice_more (take (i + 1) l) (take m (drop (i + 1) l)) here)

  pub twice_miss : member (get_or l i 0) (take i l) ≡ false → twice (take i l) ≡ false → twice (take (i + 1) l) ≡ false
  twice_miss e so = twice_next ∙ ap₂ (λ (a b : Bool). a || b) so e

-- a number that is not among some, nor twice, is so without one of them
member_removed : (x k : ℕ) (l : List ℕ) → member x l ≡ false → member x (remove_at k l) ≡ false
member_removed x k [] e = refl
member_removed x zero (y ∷ l) e = (neither (eqb y x) (member x l) e).1
member_removed x (suc k) (y ∷ l) e =
    let p = neither (eqb y x) (member x l) e in
    ap₂ (λ (a b : Bool). a || b) p.0 (member_removed x k l p.1)

pub twice_removed : (k : ℕ) (l : List ℕ) → twice l ≡ false → twice (remove_at k l) ≡ false
twice_removed k [] e = refl
twice_removed zero (y ∷ l) e = (neither (member y l) (twice l) e).1
twice_removed (suc k) (y ∷ l) e =
    let p = neither (member y l) (twice l) e in
    ap₂ (λ (a b : Bool). a || b) (member_removed y k l p.0) (twice_removed k l p.1)

-- The place of a number that stands somewhere.

pub position_in : (x : ℕ) (l : List ℕ) → member x l ≡ true → position x l < length l
position_in x [] e = absurd (true≢false (sym e))
position_in x (y ∷ l) e = go (eqb y x) (position_in x l) e
  where
    go : (t : Bool) → (member x l ≡ true → position x l < length l) → (t || member x l) ≡ true → cond t 0 (suc (position x l)) < suc (length l)
    go true h e = omega arith
    go false h e = omega (arith, h e)

-- it stands there exactly where it is an element
pub member_position : (x : ℕ) (l : List ℕ) → member x l ≡ ltb (position x l) (length l)
member_position x [] = sym (le-ltb 0 0 (omega arith))
member_position x (y ∷ l) = go (eqb y x) (member_position x l)
  where
    go : (t : Bool) → member x l ≡ ltb (position x l) (length l) → (t || member x l) ≡ ltb (cond t 0 (suc (position x l))) (suc (length l))
    go true h = sym (lt-ltb 0 (suc (length l)) (omega arith))
    go false h =
        h
        ∙ ⊎_elim
        (λ (k : position x l < length l). lt-ltb _ _ k ∙ sym (lt-ltb (suc (position x l)) (suc (length l)) (omega arith)))
        (λ (k : length l ≤ position x l). le-ltb _ _ k ∙ sym (le-ltb (suc (position x l)) (suc (length l)) (omega arith)))
        (below (position x l) (length l))

-- One taken out.

module _ {A : Type 0} where
  pub removed_length : (k : ℕ) (l : List A) → k < length l → length (remove_at k l) + 1 ≡ length l
  removed_length k [] h = absurd (omega arith)
  removed_length zero (a ∷ l) h = omega arith
  removed_length (suc k) (a ∷ l) h = omega (arith, removed_length k l (omega arith))

  -- those before it stay
  removed_front : (k : ℕ) (l m : List A) (i : ℕ) (d : A) → i < k → k < length l → get_or (remove_at k l ++ m) i d ≡ get_or l i d
  removed_front k [] m i d p h = absurd (omega arith)
  removed_front zero (a ∷ l) m i d p h = absurd (omega arith)
  removed_front (suc k) (a ∷ l) m zero d p h = refl
  removed_front (suc k) (a ∷ l) m (suc i) d p h = removed_front k l m i d (omega arith) (omega arith)

  in_front : (l m : List A) (i : ℕ) (d : A) → i < length l → get_or (l ++ m) i d ≡ get_or l i d
  in_front [] m i d h = absurd (omega arith)
  in_front (a ∷ l) m zero d h = refl
  in_front (a ∷ l) m (suc i) d h = in_front l m i d (omega arith)

  -- those behind it move up
  removed_behind : (k : ℕ) (l m : List A) (i : ℕ) (d : A) → k ≤ i → i + 1 < length l → get_or (remove_at k l ++ m) i d ≡ get_or l (suc i) d
  removed_behind k [] m i d p h = absurd (omega arith)
  removed_behind zero (a ∷ l) m i d p h = in_front l m i d (omega arith)
  removed_behind (suc k) (a ∷ l) m zero d p h = absurd (omega arith)
  removed_behind (suc k) (a ∷ l) m (suc i) d p h = removed_behind k l m i d (omega arith) (omega arith)

pub removed_map : {A B : Type 0} (f : A → B) (k : ℕ) (l : List A) → map f (remove_at k l) ≡ remove_at k (map f l)
removed_map f k [] = refl
removed_map f zero (a ∷ l) = refl
removed_map f (suc k) (a ∷ l) = ap (λ x. f a ∷ x) (removed_map f k l)

-- the places of an array of which one is taken out
module _ (k : ℕ) (l : List ℕ) (h : k < length l) where
  pub closed-length : length (closed k l) ≡ length l
  closed-length = omega (arith, length-append (remove_at k l) (0 ∷ []), removed_length k l h)

  pub closed_front : (i : ℕ) → i < k → get_or (closed k l) i 0 ≡ get_or l i 0
  closed_front i p = removed_front k l (0 ∷ []) i 0 p h

  pub closed_behind : (i : ℕ) → k ≤ i → i + 1 < length l → get_or (closed k l) i 0 ≡ get_or l (suc i) 0
  closed_behind i p q = removed_behind k l (0 ∷ []) i 0 p q

-- Without the number n: where no number stands twice, one place is taken out.

module _ {A : Type 0} (f : A → ℕ) (n : ℕ) where
  abbrev others : List A → List A
  others l = selected (λ a. not (eqb (f a) n)) l

  pub none_out : (l : List A) → member n (map f l) ≡ false → others l ≡ l
  none_out [] e = refl
  none_out (a ∷ l) e =
      let p = neither (eqb (f a) n) (member n (map f l)) e in
      ap (λ (t : Bool). cond (not t) (a ∷ others l) (others l)) p.0 ∙ ap (λ (x : List A). a ∷ x) (none_out l p.1)

  pub one_out : (l : List A) → member n (map f l) ≡ true → twice (map f l) ≡ false → remove_at (position n (map f l)) l ≡ others l
  one_out [] e o = absurd (true≢false (sym e))
  one_out (a ∷ l) e o =
      let p = neither (member (f a) (map f l)) (twice (map f l)) o in
      go (eqb (f a) n) refl e (λ m. one_out l m p.1) p.0
    where
      go : (t : Bool) → eqb (f a) n ≡ t → (t || member n (map f l)) ≡ true → (member n (map f l) ≡ true → remove_at (position n (map f l)) l ≡ others l)
          → member (f a) (map f l) ≡ false → remove_at (cond t 0 (suc (position n (map f l)))) (a ∷ l) ≡ cond (not t) (a ∷ others l) (others l)
      go true q m h o = sym (none_out l (ap (λ (x : ℕ). member x (map f l)) (sym (eqb-true (f a) n q)) ∙ o))
      go false q m h o = ap (λ (x : List A). a ∷ x) (h m)

-- what passes two tests in turn
pub selected_both : {A : Type 0} (p q : A → Bool) (l : List A) → selected (λ a. not (q a)) (selected (λ a. not (p a)) l) ≡ selected (λ a. not (p a || q a)) l
selected_both p q [] = refl
selected_both {A} p q (a ∷ l) = go (p a) (selected_both p q l)
  where
    go : (t : Bool) → selected (λ a. not (q a)) (selected (λ a. not (p a)) l) ≡ selected (λ a. not (p a || q a)) l
        → selected (λ a. not (q a)) (cond (not t) (a ∷ selected (λ a. not (p a)) l) (selected (λ a. not (p a)) l))
        ≡ cond (not (t || q a)) (a ∷ selected (λ a. not (p a || q a)) l) (selected (λ a. not (p a || q a)) l)
    go true h = h
    go false h = ap (λ (x : List A). cond (not (q a)) (a ∷ x) x) h

pub selected_all : {A : Type 0} (l : List A) → selected (λ _. not false) l ≡ l
selected_all [] = refl
selected_all {A} (a ∷ l) = ap (λ (x : List A). a ∷ x) (selected_all l)

-- a number among those of a list stays there where another's are left out
pub member_others : {A : Type 0} (f : A → ℕ) (n k : ℕ) (l : List A) → eqb n k ≡ false → member n (map f l) ≡ true
    → member n (map f (selected (λ a. not (eqb (f a) k)) l)) ≡ true
member_others f n k [] h e = e
member_others {A} f n k (a ∷ l) h e = go (eqb (f a) k) refl (eqb (f a) n) refl (member_others f n k l h) e
  where
    rest : List A
    rest = selected (λ a. not (eqb (f a) k)) l

    go : (p : Bool) → eqb (f a) k ≡ p → (q : Bool) → eqb (f a) n ≡ q → (member n (map f l) ≡ true → member n (map f rest) ≡ true)
        → (q || member n (map f l)) ≡ true → member n (map f (cond (not p) (a ∷ rest) rest)) ≡ true
    go true x true y law e = absurd (true≢false (sym (eq-eqb n k (sym (eqb-true (f a) n y) ∙ eqb-true (f a) k x)) ∙ h))
    go true x false y law e = law e
    go false x true y law e = ap (λ (t : Bool). t || member n (map f rest)) y
    go false x false y law e = ap (λ (t : Bool). t || member n (map f rest)) y ∙ law e

pub map-map : {A B C : Type 0} (g : B → C) (f : A → B) (l : List A) → map g (map f l) ≡ map (λ a. g (f a)) l
map-map g f [] = refl
map-map g f (a ∷ l) = ap (λ x. g (f a) ∷ x) (map-map g f l)
