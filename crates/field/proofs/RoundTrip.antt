-- What is written for a number reads as the number, and what reads as a number is what is written for it.
use Prim.Native.Nat.{ℕ, zero, suc, ◌+◌, ◌-◌, ◌*◌, ◌/◌, ◌%◌, ◌^◌, ◌≤◌, ◌<◌}
use mathlib.Core.Path.{◌≡◌, refl, ap, sym, ◌∙◌}
use mathlib.Core.Bool.{false, cond}
use mathlib.Core.Logic.{◌⊎◌, inl, inr, ⊎_elim}
use mathlib.Core.List.{List, [], ◌∷◌, ◌++◌}
use native.Mathlib.Nat.{pow-suc}
use Rattle.std.specs.Prelude.{Some}
use native.Mathlib.Omega.{arith}
use lib.ListN.{length, get_or, take, drop, length-drop}
use lib.Seq.{take-suc, take_at, take-take, get_or_at, get_or-take, get_or-drop}
use lib.Dec.{ltb, eqb}
use borrow.Author.Tests.{eq-eqb, ne_eqb, lt-ltb, le-ltb}
use Rattle.base.specs.Limits.{largest}
use Rattle.base.proofs.Choice.{below, same, never}
use Rattle.field.specs.declared.Seen.{Seen}
use Rattle.field.specs.declared.Seen.TheVariants.{Blank, Digits, Broken}
use Rattle.field.specs.Field.{columns, column_of, if_digit, seen_to, finish, field_at, glyph_of, justified, field_of}
use Rattle.field.proofs.Reading.{past}
use Rattle.field.proofs.Writing.{length_justified}

-- Reading what is written.

-- where a number stands before a column: 0 is not written
unfoldable pub seen_of : ℕ → Seen
seen_of m = cond (eqb m 0) Blank (Digits m)

-- a column that holds a digit of m, after the digits before it
pub one_more_lem : (m : ℕ) → m ≤ largest → column_of (seen_of (m / 10)) (48 + m % 10) ≡ Digits m
unfolding seen_of
one_more_lem m h =
    let d : 48 + m % 10 - 48 ≡ m % 10 = omega arith in
    let lo : ltb (48 + m % 10) 48 ≡ false = le-ltb (48 + m % 10) 48 (omega arith) in
    let hi : ltb 57 (48 + m % 10) ≡ false = le-ltb 57 (48 + m % 10) (omega arith) in
    ⊎_elim
    (λ (z : m / 10 < 1).
    simp (eq-eqb (m / 10) 0 (omega arith), ne_eqb (48 + m % 10) 32 (λ e. omega arith), lo, hi, d) (ap Digits (omega arith)))
    (λ (z : 1 ≤ m / 10).
    simp (ne_eqb (m / 10) 0 (λ e. omega arith), le-ltb (largest / 10) (m / 10) (omega arith), lo, hi, d) (ap Digits (omega arith)))
    (below (m / 10) 1)

-- the same where 0 is a space
pub glyph_more : (m : ℕ) → m ≤ largest → column_of (seen_of (m / 10)) (glyph_of m) ≡ seen_of m
unfolding seen_of
glyph_more m h =
    ⊎_elim
    (λ (z : m < 1).
    simp (eq-eqb m 0 (omega arith), eq-eqb (m / 10) 0 (omega arith)))
    (λ (z : 1 ≤ m).
    simp (ne_eqb m 0 (λ e. omega arith)) (one_more_lem m h))
    (below m 1)

-- the last of k + 1 columns, and those before it
last_column : (s : List ℕ) (at k b : ℕ) (xs : List ℕ) → length xs ≡ k → take (suc k) (drop at s) ≡ xs ++ (b ∷ []) → (get_or s (at + k) 0 ≡ b) × (take k (drop at s) ≡ xs)
last_column s at k b xs n e = (
  sym (get_or-drop at s k 0) ∙ sym (get_or-take (suc k) (drop at s) k 0 (omega arith)) ∙ ap (λ (x : List ℕ). get_or x k 0) e ∙ get_or_at xs b [] 0 k n,
  sym (take-take k (suc k) (drop at s) (omega arith)) ∙ ap (λ (x : List ℕ). take k x) e ∙ take_at xs (b ∷ []) k n,
)

-- k columns that hold the digits of m
read_justified : (s : List ℕ) (at k m : ℕ) → m < 10 ^ k → m ≤ largest → take k (drop at s) ≡ justified k m → seen_to s at k ≡ seen_of m
unfolding seen_of seen_to justified
read_justified s at zero m p h e = simp (eq-eqb m 0 (omega arith))
read_justified s at (suc k) m p h e =
    let c = last_column s at k (glyph_of m) (justified k (m / 10)) (length_justified k (m / 10)) e in
    ap (λ (b : ℕ). column_of (seen_to s at k) b) c.0
    ∙ ap (λ (x : Seen). column_of x (glyph_of m)) (read_justified s at k (m / 10) (omega (arith, pow-suc 10 k)) (omega arith) c.1)
    ∙ glyph_more m h

-- what is written for n reads as n
pub read_written : (s : List ℕ) (at n : ℕ) → n ≤ largest → take columns (drop at s) ≡ field_of n → field_at s at ≡ Some n
unfolding field_at field_of seen_of seen_to
read_written s at n h e =
    let c = last_column s at 8 (48 + n % 10) (justified 8 (n / 10)) (length_justified 8 (n / 10)) e in
    ap finish
    (ap (λ (b : ℕ). column_of (seen_to s at 8) b) c.0
    ∙ ap (λ (x : Seen). column_of x (48 + n % 10)) (read_justified s at 8 (n / 10) (omega arith) (omega arith) c.1)
    ∙ one_more_lem n h)

-- What reads as a number is what is written for it.

digit_cases : (b u : ℕ) → ((48 ≤ b) × (b ≤ 57) × (if_digit b (Digits u) ≡ Digits u)) ⊎ (if_digit b (Digits u) ≡ Broken)
digit_cases b u =
    ⊎_elim
    (λ (h : b < 48). inr (simp (lt-ltb b 48 h)))
    (λ (h : 48 ≤ b).
    ⊎_elim
    (λ (g : 57 < b). inr (simp (le-ltb b 48 h, lt-ltb 57 b g)))
    (λ (g : b ≤ 57). inl (h, g, simp (le-ltb b 48 h, le-ltb 57 b g)))
    (below 57 b))
    (below b 48)

-- a column behind a number: it holds a digit, or the field is broken
digits_cases : (u b : ℕ)
    → ((1 ≤ u) × (u ≤ largest / 10) × (48 ≤ b) × (b ≤ 57) × (column_of (Digits u) b ≡ Digits (10 * u + (b - 48)))) ⊎ (column_of (Digits u) b ≡ Broken)
digits_cases u b =
    ⊎_elim
    (λ (z : u < 1). inr (simp (eq-eqb u 0 (omega arith))))
    (λ (z : 1 ≤ u).
    ⊎_elim
    (λ (y : largest / 10 < u). inr (simp (ne_eqb u 0 (λ e. omega arith), lt-ltb (largest / 10) u y)))
    (λ (y : u ≤ largest / 10).
    ⊎_elim
    (λ w. inl (z, y, w.0, w.1, simp (ne_eqb u 0 (λ e. omega arith), le-ltb (largest / 10) u y) w.2))
    (λ w. inr (simp (ne_eqb u 0 (λ e. omega arith), le-ltb (largest / 10) u y) w))
    (digit_cases b (10 * u + (b - 48))))
    (below (largest / 10) u))
    (below u 1)

Before : Seen → ℕ → ℕ → Type 0
Before x b v = (b ≡ 48 + v % 10) × (x ≡ seen_of (v / 10)) × (v ≤ largest)

-- a column after which a number stands: `one_more_lem` backwards
from_digits : (x : Seen) (b v : ℕ) → column_of x b ≡ Digits v → Before x b v
unfolding seen_of Before
from_digits Blank b v e =
    ⊎_elim
    (λ (z : b ≡ 32). let f = simp (eq-eqb b 32 z) at e in never (cc))
    (λ (z : b ≡ 32 → ⊥).
    let f = simp (ne_eqb b 32 z) at e in
    ⊎_elim
    (λ w.
    let q : b - 48 ≡ v = cc in
    let lo = w.0 in
    let hi = w.1 in
    (omega arith, simp (eq-eqb (v / 10) 0 (omega arith)), omega arith))
    (λ w. never (cc))
    (digit_cases b (b - 48)))
    (same b 32)
from_digits (Digits u) b v e =
    ⊎_elim
    (λ w.
    let q : 10 * u + (b - 48) ≡ v = cc in
    let p : v / 10 ≡ u = omega (arith, w) in
    (omega (arith, w), simp (p, ne_eqb u 0 (λ z. omega (arith, w))), omega (arith, w)))
    (λ w. never (cc))
    (digits_cases u b)
from_digits Broken b v e = never (cc)

-- a column after which only spaces stand
from_blank : (x : Seen) (b : ℕ) → column_of x b ≡ Blank → (b ≡ 32) × (x ≡ Blank)
from_blank Blank b e =
    ⊎_elim
    (λ (z : b ≡ 32). (z, refl))
    (λ (z : b ≡ 32 → ⊥).
    let f = simp (ne_eqb b 32 z) at e in
    ⊎_elim (λ w. never (cc)) (λ w. never (cc)) (digit_cases b (b - 48)))
    (same b 32)
from_blank (Digits u) b e = ⊎_elim (λ w. never (cc)) (λ w. never (cc)) (digits_cases u b)
from_blank Broken b e = never (cc)

-- `glyph_more` backwards
from_seen : (x : Seen) (b m : ℕ) → column_of x b ≡ seen_of m → (b ≡ glyph_of m) × (x ≡ seen_of (m / 10))
unfolding seen_of Before
from_seen x b m e =
    ⊎_elim
    (λ (z : m ≡ 0).
    let f = from_blank x b (e ∙ simp (eq-eqb m 0 z)) in
    (f.0 ∙ simp (eq-eqb m 0 z), f.1 ∙ simp (eq-eqb (m / 10) 0 (omega arith))))
    (λ (z : m ≡ 0 → ⊥).
    let f = from_digits x b m (e ∙ simp (ne_eqb m 0 z)) in
    (f.0 ∙ simp (ne_eqb m 0 z), f.1))
    (same m 0)

-- one column more of what is spelled
one_column : (s : List ℕ) (at k b : ℕ) (xs : List ℕ) → k < length (drop at s) → take k (drop at s) ≡ xs → get_or s (at + k) 0 ≡ b → take (suc k) (drop at s) ≡ xs ++ (b ∷ [])
one_column s at k b xs l e g =
    take-suc (drop at s) k 0 l
    ∙ ap (λ (r : List ℕ). r ++ (get_or (drop at s) k 0 ∷ [])) e
    ∙ ap (λ (x : ℕ). xs ++ (x ∷ [])) (get_or-drop at s k 0 ∙ g)

spelled : (s : List ℕ) (at k m : ℕ) → k ≤ length (drop at s) → seen_to s at k ≡ seen_of m → take k (drop at s) ≡ justified k m
unfolding seen_to justified
spelled s at zero m l e = refl
spelled s at (suc k) m l e =
    let f = from_seen (seen_to s at k) (get_or s (at + k) 0) m e in
    one_column s at k (glyph_of m) (justified k (m / 10)) l (spelled s at k (m / 10) (omega arith) f.1) f.0

pub record IsField (s : List ℕ) (at n : ℕ) : Type 0 where
  pub bytes : take columns (drop at s) ≡ field_of n
  pub small : n ≤ largest

from_number : (x : Seen) (n : ℕ) → finish x ≡ Some n → x ≡ Digits n
from_number Blank n e = never (cc)
from_number (Digits v) n e = cc
from_number Broken n e = never (cc)

-- what reads as n is what is written for n
pub written_read : (s : List ℕ) (at n : ℕ) → field_at s at ≡ Some n → IsField s at n
unfolding field_at field_of Before seen_to
written_read s at n e =
    ⊎_elim
    (λ (h : length s < at + 9). let f = past s at h in never (cc))
    (λ (h : at + 9 ≤ length s).
    let l : 8 < length (drop at s) = rw length-drop (omega arith) in
    let f = from_digits (seen_to s at 8) (get_or s (at + 8) 0) n (from_number (seen_to s at 9) n e) in
    record {
      bytes = one_column s at 8 (48 + n % 10) (justified 8 (n / 10)) l (spelled s at 8 (n / 10) (omega arith) f.1) f.0;
      small = f.2;
    })
    (below (length s) (at + 9))
