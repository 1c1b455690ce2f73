-- What a line is read as, by the tests on the way, and what is known of a line that was read.
use Prim.Native.Nat.{ℕ, ◌+◌, ◌-◌, ◌*◌, ◌≤◌, ◌<◌}
use mathlib.Core.Path.{◌≡◌, refl, ap, sym, ◌∙◌}
use mathlib.Core.Bool.{Bool, true, false, cond}
use mathlib.Core.Logic.{⊎_elim}
use mathlib.Core.List.{List}
use Rattle.std.specs.Prelude.{Option, Some, None, Result, Ok, Err}
use native.Mathlib.Omega.{arith}
use lib.ListN.{length, get_or}
use lib.Dec.{eqb}
use borrow.Author.Tests.{eq-eqb, ne_eqb, lt-ltb, le-ltb, eqb-true}
use Rattle.base.specs.declared.refusal.Refusal.{Refusal}
use Rattle.base.specs.declared.refusal.Refusal.TheVariants.{NoLine, WrongLetter, LineLength, NotNumber}
use Rattle.base.proofs.Choice.{below, never}
use Rattle.reading.specs.declared.letter.Letter.{Letter}
use Rattle.reading.specs.declared.letter.Line.{Line}
use Rattle.reading.specs.declared.Due.{Due}
use Rattle.reading.specs.Letter.{count_of}
use Rattle.reading.specs.Reading.{letter_of, feed_at, good, values, filled, numbers_at, line_by, line_at}
use Rattle.reading.proofs.Letters.{plain_letter, from_letter}
use Rattle.reading.proofs.Fields.{feed_run, no_feeds, numbers_good}

-- The returns of `find_line_at`.

module _ (s : List ℕ) (at : ℕ) (due : Due) (e : ℕ) (at-e : e ≡ feed_at s at) where
  pub line_none : length s ≤ e → line_at s at due ≡ Err NoLine
  unfolding line_at
  line_none h = simp (le-ltb (feed_at s at) (length s) (omega arith))

  line_some : e < length s → line_at s at due ≡ line_by s at e (letter_of (get_or s at 0) due)
  unfolding line_at
  line_some h =
      simp (lt-ltb (feed_at s at) (length s) (omega arith)) (ap (λ (x : ℕ). line_by s at x (letter_of (get_or s at 0) due)) (sym at-e))

  pub line_letter : e < length s → None ≡ letter_of (get_or s at 0) due → line_at s at due ≡ Err WrongLetter
  unfolding line_by
  line_letter h q = line_some h ∙ ap (λ (x : Option Letter). line_by s at e x) (sym q)

-- what is known of a line once its letter is
pub record Opening (s : List ℕ) (at : ℕ) (due : Due) (e : ℕ) (l : Letter) (k : ℕ) : Type 0 where
  pub place : e ≡ feed_at s at
  pub within : e < length s
  pub found : Some l ≡ letter_of (get_or s at 0) due
  pub count : k ≡ count_of l

module _ (s : List ℕ) (at : ℕ) (due : Due) (e : ℕ) (l : Letter) (k : ℕ) (h : Opening s at due e l k) where
  body : line_at s at due ≡ line_by s at e (Some l)
  body = line_some s at due e h.place h.within ∙ ap (λ (x : Option Letter). line_by s at e x) (sym h.found)

  pub line-length : (e - at ≡ 1 + 9 * k → ⊥) → line_at s at due ≡ Err LineLength
  unfolding line_by
  line-length n = body ∙ simp (ne_eqb (e - at) (1 + 9 * count_of l) (λ z. n (omega arith)))

  by_numbers : Option (List ℕ) → Result Line Refusal
  by_numbers (Some numbers) = Ok (record { letter = l; numbers = numbers })
  by_numbers None = Err NotNumber

  line_whole : e - at ≡ 1 + 9 * k → (n : Option (List ℕ)) → n ≡ numbers_at s (at + 1) k → line_at s at due ≡ by_numbers n
  unfolding line_by by_numbers
  line_whole z n en =
      body
      ∙ simp (eq-eqb (e - at) (1 + 9 * count_of l) (omega arith)) (whole (good s (at + 1) (count_of l)))
      ∙ ap (λ (i : ℕ). by_numbers (numbers_at s (at + 1) i)) (sym h.count)
      ∙ ap by_numbers (sym en)
    where
      whole : (t : Bool)
          → cond t (Ok (record { letter = l; numbers = filled (values s (at + 1) (count_of l)) (count_of l) })) (Err NotNumber)
          ≡ by_numbers (cond t (Some (filled (values s (at + 1) (count_of l)) (count_of l))) None)
      whole true = refl
      whole false = refl

  pub line_fields : e - at ≡ 1 + 9 * k → None ≡ numbers_at s (at + 1) k → line_at s at due ≡ Err NotNumber
  unfolding by_numbers
  line_fields z n = line_whole z None n

  pub line_read : e - at ≡ 1 + 9 * k → (numbers : List ℕ) → Some numbers ≡ numbers_at s (at + 1) k → line_at s at due ≡ Ok (record { letter = l; numbers = numbers })
  unfolding by_numbers
  line_read z numbers n = line_whole z (Some numbers) n

-- A line whose letter, fields and line feed stand where its letter puts them: a field that is a number holds no line feed.

module _ (s : List ℕ) (at : ℕ) (due : Due) (l : Letter) (k : ℕ) (el : Some l ≡ letter_of (get_or s at 0) due) (ek : k ≡ count_of l)
    (w : at + (1 + 9 * k) < length s) (e : get_or s (at + (1 + 9 * k)) 0 ≡ 10) where
  feed_known : good s (at + 1) k ≡ true → feed_at s at ≡ at + (1 + 9 * k)
  feed_known g =
      feed_run (1 + 9 * k) s at
      (λ i h z.
      ⊎_elim
      (λ (m : i < 1). let p : at + i ≡ at = omega arith in plain_letter l (sym (from_letter due (get_or s at 0) l (sym el)) ∙ ap (λ (j : ℕ). get_or s j 0) (sym p) ∙ z))
      (λ (m : 1 ≤ i). let p : at + i ≡ at + 1 + (i - 1) = omega arith in no_feeds s (at + 1) k (i - 1) g (omega arith) (ap (λ (j : ℕ). get_or s j 0) (sym p) ∙ z))
      (below i 1))
      w e

  pub line_quick : (numbers : List ℕ) → Some numbers ≡ numbers_at s (at + 1) k → line_at s at due ≡ Ok (record { letter = l; numbers = numbers })
  line_quick numbers en =
      line_read s at due (at + (1 + 9 * k)) l k
      (record { place = sym (feed_known (numbers_good s (at + 1) k numbers en)); within = w; found = el; count = ek })
      (omega arith) numbers en

-- What it means that a line was read.

pub record IsLine (s : List ℕ) (at : ℕ) (due : Due) (l : Letter) (numbers : List ℕ) : Type 0 where
  pub place : feed_at s at - at ≡ 1 + 9 * count_of l
  pub within : feed_at s at < length s
  pub found : letter_of (get_or s at 0) due ≡ Some l
  pub fields : good s (at + 1) (count_of l) ≡ true
  pub are : numbers ≡ filled (values s (at + 1) (count_of l)) (count_of l)

module _ (s : List ℕ) (at : ℕ) (due : Due) (w : feed_at s at < length s) (line : Line) where
  by_good : (m : Letter) → letter_of (get_or s at 0) due ≡ Some m → feed_at s at - at ≡ 1 + 9 * count_of m → (t : Bool) → good s (at + 1) (count_of m) ≡ t
      → cond t (Ok (record { letter = m; numbers = filled (values s (at + 1) (count_of m)) (count_of m) })) (Err NotNumber) ≡ Ok line
      → IsLine s at due line.letter line.numbers
  by_good m f p true g z =
      let q : record { letter = m; numbers = filled (values s (at + 1) (count_of m)) (count_of m) } ≡ line = cc in
      rw (← q) (record { place = p; within = w; found = f; fields = g; are = refl })
  by_good m f p false g z = never (cc)

  by_length : (m : Letter) → letter_of (get_or s at 0) due ≡ Some m → (t : Bool) → eqb (feed_at s at - at) (1 + 9 * count_of m) ≡ t
      → cond t (cond (good s (at + 1) (count_of m)) (Ok (record { letter = m; numbers = filled (values s (at + 1) (count_of m)) (count_of m) })) (Err NotNumber)) (Err LineLength) ≡ Ok line
      → IsLine s at due line.letter line.numbers
  by_length m f true p z = by_good m f (eqb-true (feed_at s at - at) (1 + 9 * count_of m) p) (good s (at + 1) (count_of m)) refl z
  by_length m f false p z = never (cc)

  by_letter_lem : (f : Option Letter) → letter_of (get_or s at 0) due ≡ f → line_by s at (feed_at s at) f ≡ Ok line → IsLine s at due line.letter line.numbers
  unfolding line_by
  by_letter_lem (Some m) f z = by_length m f (eqb (feed_at s at - at) (1 + 9 * count_of m)) refl z
  by_letter_lem None f z = never (cc)

pub is_line : (s : List ℕ) (at : ℕ) (due : Due) (line : Line) → line_at s at due ≡ Ok line → IsLine s at due line.letter line.numbers
unfolding line_at
is_line s at due line z =
    ⊎_elim
    (λ (w : feed_at s at < length s). by_letter_lem s at due w line (letter_of (get_or s at 0) due) refl (sym (simp (lt-ltb (feed_at s at) (length s) w)) ∙ z))
    (λ (w : length s ≤ feed_at s at). let e : line_at s at due ≡ Err NoLine = simp (le-ltb (feed_at s at) (length s) w) in never (cc))
    (below (feed_at s at) (length s))
