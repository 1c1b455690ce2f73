-- A line at its place tells what its tests give.
use Prim.Native.Nat.{ℕ, ◌+◌, ◌-◌, ◌*◌}
use mathlib.Core.Path.{◌≡◌, refl, ap₂, sym}
use mathlib.Core.Bool.{Bool, true, false, cond, not}
use mathlib.Core.List.{List, ◌∷◌}
use Rattle.std.specs.Prelude.{Option, Some, None, Result, Err}
use lib.ListN.{length, get_or, replicate}
use lib.Seq.{take_at}
use lib.Dec.{ltb, eqb}
use Rattle.base.specs.Answer.{accepts, refuses, figures, answer}
use Rattle.base.specs.declared.refusal.Refusal.{Refusal}
use Rattle.base.specs.declared.refusal.Refusal.TheVariants.{NoLine, WrongLetter, LineLength, NotNumber}
use Rattle.field.specs.Field.{columns}
use Rattle.reading.specs.declared.letter.Letter.{Letter}
use Rattle.reading.specs.declared.letter.Line.{Line}
use Rattle.reading.specs.declared.Due.{Due}
use Rattle.reading.specs.Letter.{count_of, most_fields}
use Rattle.reading.specs.Reading.{letter_of, feed_at, good, values, line_by, line_at}
use Rattle.reading.specs.Tests.{missing, field_count, line_tests, line_answer, line_told}
use Rattle.reading.proofs.Letters.{from_letter}
use Rattle.reading.proofs.Fields.{length_values}

-- 3, 5 and 6 of a line whose letter is found, by their three tests, where the line r tells the figures
tested : (r : Result Line Refusal) (values : List ℕ) → line_told r ≡ figures values → (t u v : Bool)
    → line_told (cond t (cond u (cond v r (Err NotNumber)) (Err LineLength)) (Err NoLine))
    ≡ answer (cond (not t) (refuses 3) (cond (not u) (refuses 5) (cond (not v) (refuses 6) accepts))) values
tested r values e false u v = refl
tested r values e true false v = refl
tested r values e true true false = refl
tested r values e true true true = e

-- 3 and 4 of one whose letter is not
untested : (values : List ℕ) (t : Bool) → line_told (cond t (Err WrongLetter) (Err NoLine)) ≡ answer (cond (not t) (refuses 3) (refuses 4)) values
untested values false = refl
untested values true = refl

pub line_told_lem : (s : List ℕ) (at : ℕ) (due : Due) → line_told (line_at s at due) ≡ line_answer s at due
unfolding line_at line_by line_answer line_tests
line_told_lem s at due = by_letter_lem (letter_of (get_or s at 0) due) refl
  where
    by_letter_lem : (f : Option Letter) → letter_of (get_or s at 0) due ≡ f
        → line_told (cond (ltb (feed_at s at) (length s)) (line_by s at (feed_at s at) f) (Err NoLine)) ≡ answer
        (cond (not (ltb (feed_at s at) (length s))) (refuses 3) (cond (missing f) (refuses 4) (cond (not (eqb (feed_at s at - at) (1 + columns * field_count f))) (refuses 5) (cond (not (good s (at + 1) (field_count f))) (refuses 6) accepts))))
        (get_or s at 0 ∷ values s (at + 1) (field_count f))
    by_letter_lem None e = untested (get_or s at 0 ∷ values s (at + 1) 0) (ltb (feed_at s at) (length s))
    by_letter_lem (Some l) e =
        tested _ (get_or s at 0 ∷ values s (at + 1) (count_of l))
        (ap₂ (λ (b : ℕ) (ns : List ℕ). figures (b ∷ ns)) (sym (from_letter due (get_or s at 0) l e)) (take_at (values s (at + 1) (count_of l)) (replicate (most_fields - count_of l) 0) (count_of l) (length_values s (at + 1) (count_of l))))
        (ltb (feed_at s at) (length s)) (eqb (feed_at s at - at) (1 + columns * count_of l)) (good s (at + 1) (count_of l))
