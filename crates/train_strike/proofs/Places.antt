-- What the library's search and its copy within an array make of a train's places, in the definitions' words.
use Prim.Native.Nat.{ℕ, zero, suc, ◌+◌, ◌-◌, ◌≤◌, ◌<◌}
use mathlib.Core.Path.{◌≡◌, refl, ap, sym, ◌∙◌}
use mathlib.Core.Bool.{Bool, true, false, cond}
use mathlib.Core.List.{List, [], ◌∷◌, ◌++◌}
use native.Mathlib.Numerals.{add-one}
use native.Mathlib.Omega.{arith}
use lib.Dec.{eqb, ltb}
use lib.ListN.{length, get_or, set, take, drop, length-append, length-drop, drop_of_length-le}
use lib.Seq.{drop-cons, length-take-le}
use borrow.Author.Tests.{ltb-false}
use Rattle.std.proofs.Common.{append_assoc, Some, None}
use Rattle.std.proofs.Math.Seq.{set-append_seam}
use Rattle.std.proofs.lemmas.List.Edits.{paste_all}
use Rattle.std.proofs.lemmas.List.Recursion.{is_position_or_len}
use Rattle.std.specs.Option.{unwrap_or}
use Rattle.std.specs.List.{position_or_len, copy_within}
use Rattle.base.proofs.Choice.{cond_either}
use Rattle.consist.specs.Train.{position, remove_at, closed}

-- the first place of a number, or how many places there are
position_is : (x : ℕ) (l : List ℕ) → position x l ≡ position_or_len (λ (y : ℕ). eqb y x) l
position_is x l = is_position_or_len (position x) (λ (y : ℕ). eqb y x) refl step l
  where
    step : (y : ℕ) (m : List ℕ) → position x (y ∷ m) ≡ cond (eqb y x) 0 (1 + position x m)
    step y m = let e : suc (position x m) ≡ 1 + position x m = omega arith in ap (cond (eqb y x) 0) e

position_most : (x : ℕ) (l : List ℕ) → position x l ≤ length l
position_most x [] = omega arith
position_most x (y ∷ l) =
    let later = position_most x l in
    cond_either (λ (p : ℕ). p ≤ suc (length l)) (eqb y x) 0 (suc (position x l)) (λ _. omega arith) (λ _. omega arith)

-- as the search hands it on
pub found_or : (x : ℕ) (l : List ℕ) →
    unwrap_or (cond (ltb (position_or_len (λ (y : ℕ). eqb y x) l) (length l)) (Some (position_or_len (λ (y : ℕ). eqb y x) l)) None) (length l) ≡ position x l
found_or x l = rw (sym (position_is x l)) (go (ltb (position x l) (length l)) refl)
  where
    go : (t : Bool) → ltb (position x l) (length l) ≡ t → unwrap_or (cond t (Some (position x l)) None) (length l) ≡ position x l
    go true e = refl
    go false e = omega (arith, ltb-false (position x l) (length l) e, position_most x l)

removed_parts : (k : ℕ) (l : List ℕ) → k < length l → remove_at k l ≡ take k l ++ drop (suc k) l
removed_parts k [] h = absurd (omega arith)
removed_parts zero (a ∷ l) h = refl
removed_parts (suc k) (a ∷ l) h = ap (λ (m : List ℕ). a ∷ m) (removed_parts k l (omega arith))

-- the later places copied one place up, and the last freed
pub closed_up : (k : ℕ) (l : List ℕ) (n : ℕ) → length l ≡ n + 1 → k < length l → set (copy_within l (k + 1) (length l) k) n 0 ≡ closed k l
closed_up k l n e h =
    let front = take k l ++ drop (k + 1) l in
    let m = length l - (k + 1) in
    let moved : copy_within l (k + 1) (length l) k ≡ take k l ++ (drop (k + 1) l ++ drop (k + m) l) = paste_all l k (drop (k + 1) l) m (omega (arith, length-drop (k + 1) l)) in
    let at : k + m ≡ n = omega arith in
    let last : drop (k + m) l ≡ get_or l n 0 ∷ [] =
    ap (λ (j : ℕ). drop j l) at ∙ drop-cons l n 0 (omega arith) ∙ ap (λ (t : List ℕ). get_or l n 0 ∷ t) (drop_of_length-le l {i = suc n} (omega arith)) in
    let shape : copy_within l (k + 1) (length l) k ≡ front ++ (get_or l n 0 ∷ []) =
    moved ∙ ap (λ (t : List ℕ). take k l ++ (drop (k + 1) l ++ t)) last ∙ sym (append_assoc (take k l) (drop (k + 1) l) (get_or l n 0 ∷ [])) in
    let long : n ≡ length front = omega (arith, length-append (take k l) (drop (k + 1) l), length-take-le k l (omega arith), length-drop (k + 1) l) in
    let parts : remove_at k l ≡ front = removed_parts k l h ∙ ap (λ (j : ℕ). take k l ++ drop j l) (sym (add-one k)) in
    ap (λ (t : List ℕ). set t n 0) shape
    ∙ ap (λ (j : ℕ). set (front ++ (get_or l n 0 ∷ [])) j 0) long
    ∙ set-append_seam front (get_or l n 0) [] 0
    ∙ ap (λ (t : List ℕ). t ++ (0 ∷ [])) (sym parts)
