-- Laws of reading a field: where it cannot be a number, and the turns of the loop.
use Prim.Native.Nat.{ℕ, zero, suc, ◌+◌, ◌≤◌, ◌<◌}
use mathlib.Core.Path.{◌≡◌, refl, ap, sym, ◌∙◌}
use mathlib.Core.Logic.{⊎_elim}
use Rattle.std.specs.Prelude.{None, Some}
use mathlib.Core.List.{List}
use native.Mathlib.Omega.{arith}
use native.Mathlib.Numerals.{add-one}
use lib.ListN.{length, get_or, get_or-eq_default}
use Rattle.base.proofs.Choice.{below, cond_same}
use Rattle.field.specs.declared.Seen.{Seen}
use Rattle.field.specs.declared.Seen.TheVariants.{Blank, Digits, Broken}
use Rattle.field.specs.Field.{columns, column_of, seen_to, finish, field_at}

-- no column holds byte 0
zero_broken : (x : Seen) → column_of x 0 ≡ Broken
zero_broken Blank = refl
zero_broken (Digits v) = simp cond_same
zero_broken Broken = refl

-- a field that runs past the end is no number
pub past : (s : List ℕ) (at : ℕ) → length s < at + columns → field_at s at ≡ None
unfolding field_at seen_to
past s at h =
    ap finish
    (ap (λ (b : ℕ). column_of (seen_to s at 8) b) (get_or-eq_default s 0 {n = at + 8} (omega arith)) ∙ zero_broken (seen_to s at 8))

-- nor a line feed: a field that is a number has none in its columns
ten_broken : (x : Seen) → column_of x 10 ≡ Broken
ten_broken Blank = refl
ten_broken (Digits v) = simp cond_same
ten_broken Broken = refl

broken_stays : (s : List ℕ) (at i k : ℕ) → i ≤ k → seen_to s at i ≡ Broken → seen_to s at k ≡ Broken
unfolding seen_to
broken_stays s at i zero h e = let p : i ≡ 0 = omega arith in ap (λ (j : ℕ). seen_to s at j) (sym p) ∙ e
broken_stays s at i (suc k) h e =
    ⊎_elim
    (λ (l : i < suc k). ap (λ (x : Seen). column_of x (get_or s (at + k) 0)) (broken_stays s at i k (omega arith) e))
    (λ (l : suc k ≤ i). let p : i ≡ suc k = omega arith in ap (λ (j : ℕ). seen_to s at j) (sym p) ∙ e)
    (below i (suc k))

pub no_feed : (s : List ℕ) (at n i : ℕ) → field_at s at ≡ Some n → i < columns → get_or s (at + i) 0 ≡ 10 → ⊥
unfolding field_at seen_to
no_feed s at n i f h e =
    let b : seen_to s at (suc i) ≡ Broken = ap (λ (x : ℕ). column_of (seen_to s at i) x) e ∙ ten_broken (seen_to s at i) in
    let w : seen_to s at 9 ≡ Broken = broken_stays s at (suc i) 9 (omega arith) b in
    let q : None ≡ Some n = sym (ap finish w) ∙ f in
    let z : ◌≡◌ {A = ℕ} 0 1 = cc in
    omega arith

-- The loop of `read_field`: a turn, and its end.

pub turn : (s : List ℕ) (at i : ℕ) (x r : Seen) → x ≡ seen_to s at i → r ≡ column_of x (get_or s (at + i) 0) → r ≡ seen_to s at (i + 1)
unfolding seen_to
turn s at i x r e f = f ∙ ap (λ (y : Seen). column_of y (get_or s (at + i) 0)) e ∙ ap (λ (k : ℕ). seen_to s at k) (sym (add-one i))

pub ended : (s : List ℕ) (at i : ℕ) (x : Seen) → i ≤ columns → columns ≤ i → x ≡ seen_to s at i → finish x ≡ field_at s at
unfolding field_at
ended s at i x l m e = let n : i ≡ 9 = omega arith in ap finish (e ∙ ap (λ (k : ℕ). seen_to s at k) n)

-- a field is read off its nine columns alone
pub field_same : (s t : List ℕ) (at : ℕ) → ((i : ℕ) → i < columns → get_or s (at + i) 0 ≡ get_or t (at + i) 0) → field_at s at ≡ field_at t at
unfolding field_at seen_to
field_same s t at h = ap finish (go 9 (omega arith))
  where
    go : (k : ℕ) → k ≤ 9 → seen_to s at k ≡ seen_to t at k
    go zero l = refl
    go (suc k) l = ap (λ (x : Seen). column_of x (get_or s (at + k) 0)) (go k (omega arith)) ∙ ap (λ (b : ℕ). column_of (seen_to t at k) b) (h k l)
