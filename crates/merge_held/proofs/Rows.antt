-- Laws of two arrays of sixty: one car more behind the first ones, one car taken out of them.
use Prim.Native.Nat.{ℕ, zero, suc, ◌+◌, ◌-◌, ◌≤◌, ◌<◌}
use mathlib.Core.Path.{◌≡◌, refl, ap, sym, ◌∙◌}
use mathlib.Core.Bool.{Bool, true, false, cond, ◌||◌}
use mathlib.Core.List.{List, [], ◌∷◌, ◌++◌}
use native.Mathlib.Numerals.{add-one}
use native.Mathlib.Omega.{arith}
use lib.Dec.{leb}
use lib.ListN.{length, take, set, length-set}
use lib.Seq.{take-suc-set, length-take-le}
use borrow.Author.Tests.{le-leb, lt-leb}
use Rattle.base.specs.Limits.{largest, most_cars}
use Rattle.base.specs.Numbers.{outside, member}
use Rattle.consist.specs.Train.{remove_at, closed}
use Rattle.merge_held.specs.Inner.{Rows, one_more}

-- One more.

set_next : (l : List ℕ) (count x : ℕ) → count < length l → take (count + 1) (set l count x) ≡ take count l ++ (x ∷ [])
set_next l count x h = ap (λ (n : ℕ). take n (set l count x)) (add-one count) ∙ take-suc-set l count x h

module _ (numbers places : List ℕ) (count number place : ℕ) (rows : Rows numbers places count) where
  len : length (take count numbers) ≡ count
  len = length-take-le count numbers (omega (arith, rows.few, rows.first))

  pub record Entered (numbers' places' : List ℕ) (count' : ℕ) : Type 0 where
    pub first : take count' numbers' ≡ one_more (take count numbers) number (take count numbers) number
    pub second : take count' places' ≡ one_more (take count numbers) number (take count places) place
    pub rows' : Rows numbers' places' count'

  -- sixty are held
  pub full : most_cars ≤ count → Entered numbers places count
  full h = let e = le-leb most_cars (length (take count numbers)) (omega (arith, len)) in record { first = rw e; second = rw e; rows' = rows }

  module _ (h : count < most_cars) where
    room : leb most_cars (length (take count numbers)) ≡ false
    room = lt-leb most_cars (length (take count numbers)) (omega (arith, len))

    pub away : (outside 1 largest number || member number (take count numbers)) ≡ true → Entered numbers places count
    away e = record { first = by; second = by'; rows' = rows }
      where
        turned : (leb most_cars (length (take count numbers)) || outside 1 largest number || member number (take count numbers)) ≡ true
        turned = ap (λ (b : Bool). b || outside 1 largest number || member number (take count numbers)) room ∙ e

        by : take count numbers ≡ one_more (take count numbers) number (take count numbers) number
        by = ap (λ (b : Bool). cond b (take count numbers) (take count numbers ++ (number ∷ []))) (sym turned)

        by' : take count places ≡ one_more (take count numbers) number (take count places) place
        by' = ap (λ (b : Bool). cond b (take count places) (take count places ++ (place ∷ []))) (sym turned)

    pub kept : (outside 1 largest number || member number (take count numbers)) ≡ false → Entered (set numbers count number) (set places count place) (count + 1)
    kept e =
        let free : (leb most_cars (length (take count numbers)) || outside 1 largest number || member number (take count numbers)) ≡ false =
        ap (λ (b : Bool). b || outside 1 largest number || member number (take count numbers)) room ∙ e in
        record {
          first = set_next numbers count number (omega (arith, rows.first)) ∙ ap (λ (b : Bool). cond b (take count numbers) (take count numbers ++ (number ∷ []))) (sym free);
          second = set_next places count place (omega (arith, rows.second)) ∙ ap (λ (b : Bool). cond b (take count places) (take count places ++ (place ∷ []))) (sym free);
          rows' = record {
            few = omega arith;
            first = length-set numbers count number ∙ rows.first;
            second = length-set places count place ∙ rows.second;
          };
        }

-- One less.

take_before : (n : ℕ) (l : List ℕ) (x : ℕ) → n ≤ length l → take n (l ++ (x ∷ [])) ≡ take n l
take_before zero l x h = refl
take_before (suc n) [] x h = absurd (omega arith)
take_before (suc n) (a ∷ l) x h = ap (λ (k : List ℕ). a ∷ k) (take_before n l x (omega arith))

take_closed : (k n : ℕ) (l : List ℕ) → k ≤ n → n < length l → take n (closed k l) ≡ remove_at k (take (suc n) l)
take_closed k n [] h j = absurd (omega arith)
take_closed zero n (a ∷ l) h j = take_before n l 0 (omega arith)
take_closed (suc k) zero (a ∷ l) h j = absurd (omega arith)
take_closed (suc k) (suc n) (a ∷ l) h j = ap (λ (m : List ℕ). a ∷ m) (take_closed k n l (omega arith) (omega arith))

pub closed-take : (k count : ℕ) (l : List ℕ) → k < count → count ≤ length l → take (count - 1) (closed k l) ≡ remove_at k (take count l)
closed-take k count l h j =
    let e : suc (count - 1) ≡ count = omega arith in take_closed k (count - 1) l (omega arith) (omega arith) ∙ ap (λ (n : ℕ). remove_at k (take n l)) e
