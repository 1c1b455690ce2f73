-- Laws of the first line feed and of the fields of a line, as the loops pass them.
use Prim.Native.Nat.{ℕ, zero, suc, ◌+◌, ◌-◌, ◌*◌, ◌≤◌, ◌<◌}
use mathlib.Core.Path.{◌≡◌, refl, ap, sym, ◌∙◌}
use mathlib.Core.Bool.{Bool, true, false, cond, true≢false}
use mathlib.Core.Logic.{⊎_elim}
use mathlib.Core.List.{List, [], ◌∷◌, ◌++◌, append_assoc}
use Rattle.std.specs.Prelude.{Option, Some, None}
use native.Mathlib.Nat.{add-zero}
use native.Mathlib.Numerals.{add-one}
use native.Mathlib.Omega.{arith}
use lib.ListN.{length, set, get_or, drop, replicate, length-append, length-drop, drop_of_length-le}
use lib.Seq.{drop-cons, set_at, append_snoc, get_or-drop, get_or_at}
use lib.Dec.{eqb}
use borrow.Author.Tests.{eq-eqb, ne_eqb, eqb-true}
use Rattle.base.proofs.Choice.{below, cond_same, both, never}
use Rattle.field.specs.Field.{field_at}
use Rattle.field.proofs.Reading.{no_feed}
use Rattle.reading.specs.Reading.{feed, feed_at, is_number, field_value, good, values, filled, numbers_at}

-- The first line feed.

pub feed_past : (s : List ℕ) (i : ℕ) → i < length s → (get_or s i 0 ≡ 10 → ⊥) → feed_at s i ≡ feed_at s (i + 1)
unfolding feed_at feed
feed_past s i h ne =
    ap (λ (l : List ℕ). i + feed l) (drop-cons s i 0 h)
    ∙ ap (λ (t : Bool). i + cond t 0 (suc (feed (drop (suc i) s)))) (ne_eqb (get_or s i 0) 10 ne)
    ∙ ap (λ (k : ℕ). i + suc (feed (drop k s))) (sym (add-one i))
    ∙ omega arith

pub feed_here : (s : List ℕ) (i : ℕ) → i < length s → get_or s i 0 ≡ 10 → feed_at s i ≡ i
unfolding feed_at feed
feed_here s i h e =
    ap (λ (l : List ℕ). i + feed l) (drop-cons s i 0 h)
    ∙ ap (λ (t : Bool). i + cond t 0 (suc (feed (drop (suc i) s)))) (eq-eqb (get_or s i 0) 10 e)
    ∙ add-zero i

pub feed_none : (s : List ℕ) (i : ℕ) → length s ≤ i → feed_at s i ≡ i
unfolding feed_at feed
feed_none s i h = ap (λ (l : List ℕ). i + feed l) (drop_of_length-le s h) ∙ add-zero i

-- n bytes that are no line feed, and then one
pub feed_run : (n : ℕ) (s : List ℕ) (at : ℕ) → ((i : ℕ) → i < n → get_or s (at + i) 0 ≡ 10 → ⊥) → at + n < length s → get_or s (at + n) 0 ≡ 10 → feed_at s at ≡ at + n
feed_run zero s at h w e = feed_here s at (omega arith) (ap (λ (j : ℕ). get_or s j 0) (sym (add-zero at)) ∙ e) ∙ sym (add-zero at)
feed_run (suc n) s at h w e =
    let p : at + suc n ≡ at + 1 + n = omega arith in
    feed_past s at (omega arith) (λ z. h 0 (omega arith) (ap (λ (j : ℕ). get_or s j 0) (add-zero at) ∙ z))
    ∙ feed_run n s (at + 1) (λ i l z. let q : at + suc i ≡ at + 1 + i = omega arith in h (suc i) (omega arith) (ap (λ (j : ℕ). get_or s j 0) q ∙ z)) (omega arith) (ap (λ (j : ℕ). get_or s j 0) (sym p) ∙ e)
    ∙ sym p

-- a line feed stands where the first is
feed_is : (l : List ℕ) → feed l < length l → get_or l (feed l) 0 ≡ 10
unfolding feed
feed_is [] h = absurd (omega arith)
feed_is (b ∷ l) h = go (λ i. feed_is l i) (eqb b 10) refl h
  where
    go : (feed l < length l → get_or l (feed l) 0 ≡ 10) → (t : Bool) → eqb b 10 ≡ t → cond t 0 (suc (feed l)) < suc (length l) → get_or (b ∷ l) (cond t 0 (suc (feed l))) 0 ≡ 10
    go later true e h = eqb-true b 10 e
    go later false e h = later (omega arith)

pub feed_byte : (s : List ℕ) (at : ℕ) → feed_at s at < length s → get_or s (feed_at s at) 0 ≡ 10
unfolding feed_at
feed_byte s at h = sym (get_or-drop at s (feed (drop at s)) 0) ∙ feed_is (drop at s) (rw length-drop (omega arith))

-- Fields that are numbers.

pub is_number_lem : (f : Option ℕ) → is_number f ≡ true → f ≡ Some (field_value f)
is_number_lem (Some n) e = refl
is_number_lem None e = absurd (true≢false (sym e))

pub good_part : (s : List ℕ) (at k : ℕ) → good s at (suc k) ≡ true → (good s at k ≡ true) × (is_number (field_at s (at + 9 * k)) ≡ true)
unfolding good
good_part s at k e = both (good s at k) (is_number (field_at s (at + 9 * k))) e

-- each of k good fields is a number
pub good_at : (s : List ℕ) (at k j : ℕ) → good s at k ≡ true → j < k → field_at s (at + 9 * j) ≡ Some (field_value (field_at s (at + 9 * j)))
good_at s at zero j g h = absurd (omega arith)
good_at s at (suc k) j g h =
    let p = good_part s at k g in
    ⊎_elim
    (λ (i : j < k). good_at s at k j p.0 i)
    (λ (i : k ≤ j). let e : k ≡ j = omega arith in is_number_lem (field_at s (at + 9 * j)) (rw e at p.1))
    (below j k)

-- no column of good fields is a line feed
pub no_feeds : (s : List ℕ) (at k i : ℕ) → good s at k ≡ true → i < 9 * k → get_or s (at + i) 0 ≡ 10 → ⊥
no_feeds s at zero i g h e = omega arith
no_feeds s at (suc k) i g h e =
    let b = good_part s at k g in
    ⊎_elim
    (λ (l : i < 9 * k). no_feeds s at k i b.0 l e)
    (λ (l : 9 * k ≤ i).
    let p : at + i ≡ at + 9 * k + (i - 9 * k) = omega arith in
    no_feed s (at + 9 * k) (field_value (field_at s (at + 9 * k))) (i - 9 * k) (is_number_lem (field_at s (at + 9 * k)) b.1) (omega arith) (ap (λ (j : ℕ). get_or s j 0) (sym p) ∙ e))
    (below i (9 * k))

pub length_values : (s : List ℕ) (at k : ℕ) → length (values s at k) ≡ k
unfolding values
length_values s at zero = refl
length_values s at (suc k) = rw (length-append, length_values s at k) (omega arith)

pub value_at : (s : List ℕ) (at k j : ℕ) (zs : List ℕ) → j < k → get_or (values s at k ++ zs) j 0 ≡ field_value (field_at s (at + 9 * j))
unfolding values
value_at s at zero j zs h = absurd (omega arith)
value_at s at (suc k) j zs h =
    ap (λ (x : List ℕ). get_or x j 0) (append_assoc (values s at k) (field_value (field_at s (at + 9 * k)) ∷ []) zs)
    ∙ ⊎_elim
    (λ (i : j < k). value_at s at k j (field_value (field_at s (at + 9 * k)) ∷ zs) i)
    (λ (i : k ≤ j).
    let e : k ≡ j = omega arith in
    get_or_at (values s at k) (field_value (field_at s (at + 9 * k))) zs 0 j (length_values s at k ∙ e) ∙ ap (λ (x : ℕ). field_value (field_at s (at + 9 * x))) e)
    (below j k)

-- The loop of `numbers_at`: a turn, a field that is no number, and the end.

pub good_more : (s : List ℕ) (at j n : ℕ) (f : Option ℕ) → good s at j ≡ true → f ≡ field_at s (at + 9 * j) → f ≡ Some n → good s at (j + 1) ≡ true
unfolding good
good_more s at j n f g e h =
    ap (λ (k : ℕ). good s at k) (add-one j)
    ∙ ap (λ (t : Bool). cond t (is_number (field_at s (at + 9 * j))) false) g
    ∙ ap is_number (sym e ∙ h)

pub values_more : (s : List ℕ) (at j n : ℕ) (f : Option ℕ) (l : List ℕ) → j < 14 → l ≡ filled (values s at j) j → f ≡ field_at s (at + 9 * j) → f ≡ Some n
    → set l j n ≡ filled (values s at (j + 1)) (j + 1)
unfolding values
values_more s at j n f l h e p q =
    let v : List ℕ = values s at j in
    let z : List ℕ = replicate (14 - (j + 1)) 0 in
    let r : 14 - j ≡ suc (14 - (j + 1)) = omega arith in
    let m : n ≡ field_value (field_at s (at + 9 * j)) = ap field_value (sym q ∙ p) in
    ap (λ (x : List ℕ). set x j n) e
    ∙ ap (λ (k : ℕ). set (v ++ replicate k 0) j n) r
    ∙ set_at v 0 z n j (length_values s at j)
    ∙ sym (append_snoc v n z)
    ∙ ap (λ (x : ℕ). v ++ (x ∷ []) ++ z) m
    ∙ ap (λ (k : ℕ). values s at k ++ z) (sym (add-one j))

bad_stays : (s : List ℕ) (at j k : ℕ) (f : Option ℕ) → j < k → f ≡ field_at s (at + 9 * j) → f ≡ None → good s at k ≡ false
unfolding good
bad_stays s at j zero f h e q = absurd (omega arith)
bad_stays s at j (suc k) f h e q =
    ⊎_elim
    (λ (l : j < k). ap (λ (t : Bool). cond t (is_number (field_at s (at + 9 * k))) false) (bad_stays s at j k f l e q))
    (λ (l : k ≤ j).
    let p : k ≡ j = omega arith in
    ap (λ (i : ℕ). cond (good s at k) (is_number (field_at s (at + 9 * i))) false) p
    ∙ ap (λ (x : Option ℕ). cond (good s at k) (is_number x) false) (sym e ∙ q)
    ∙ cond_same (good s at k) false)
    (below j k)

pub numbers_bad : (s : List ℕ) (at j k : ℕ) (f : Option ℕ) → j < k → f ≡ field_at s (at + 9 * j) → f ≡ None
    → None ≡ numbers_at s at k
numbers_bad s at j k f h e q = simp (bad_stays s at j k f h e q)

pub numbers_done : (s : List ℕ) (at j k : ℕ) (l : List ℕ) → j ≤ k → k ≤ j → good s at j ≡ true → l ≡ filled (values s at j) j → Some l ≡ numbers_at s at k
numbers_done s at j k l h h' g e =
    let p : j ≡ k = omega arith in
    ap (λ (x : List ℕ). Some x) (e ∙ ap (λ (i : ℕ). filled (values s at i) i) p) ∙ simp (rw p at g)

-- where there are numbers, the fields are good
pub numbers_good : (s : List ℕ) (at k : ℕ) (list : List ℕ) → Some list ≡ numbers_at s at k → good s at k ≡ true
numbers_good s at k list e = go (good s at k) (filled (values s at k) k) e
  where
    go : (t : Bool) (x : List ℕ) → Some list ≡ cond t (Some x) None → t ≡ true
    go true x z = refl
    go false x z = never (cc)
