-- A line by its tests: refusals 3 to 6 of document 01 in the listed order, as a list, and the answer that they give.
use Rattle.std.specs.Prelude.{ℕ, Option, Some, None, Result, ◌+◌, ◌-◌, ◌*◌, Bool, true, false, not, List, [], ◌∷◌, length, get_or, take, ltb, eqb}
use Rattle.base.specs.Answer.{Test, refuse_if, first, Answer, answer}
use Rattle.base.specs.Refusal.{told}
use Rattle.base.specs.declared.refusal.Refusal.{Refusal}
use Rattle.field.specs.Field.{columns}
use Rattle.reading.specs.declared.letter.Letter.{Letter}
use Rattle.reading.specs.declared.letter.Line.{Line}
use Rattle.reading.specs.declared.Due.{Due}
use Rattle.reading.specs.Letter.{byte_of, count_of}
use Rattle.reading.specs.Reading.{letter_of, feed_at, good, values}

abbrev pub missing : Option Letter → Bool
missing (Some letter) = false
missing None = true

-- how many fields the letter that was found has
abbrev pub field_count : Option Letter → ℕ
field_count (Some letter) = count_of letter
field_count None = 0

-- the letter of a line that starts at `at`
abbrev pub letter_at : List ℕ → ℕ → Due → Option Letter
letter_at s at due = letter_of (get_or s at 0) due

-- 3: no line feed follows. 4: no letter that may come next. 5: the length is not the letter's. 6: a field is not a number
unfoldable pub line_tests : List ℕ → ℕ → Due → List Test
line_tests s at due =
    refuse_if 3 (not (ltb (feed_at s at) (length s)))
    ∷ refuse_if 4 (missing (letter_at s at due))
    ∷ refuse_if 5 (not (eqb (feed_at s at - at) (1 + columns * field_count (letter_at s at due))))
    ∷ refuse_if 6 (not (good s (at + 1) (field_count (letter_at s at due))))
    ∷ []

-- the letter's byte and its numbers, or the refusal
unfoldable pub line_answer : List ℕ → ℕ → Due → Answer
line_answer s at due = answer (first (line_tests s at due)) (get_or s at 0 ∷ values s (at + 1) (field_count (letter_at s at due)))

-- what the reading of a line tells: the letter's byte and its numbers, or the refusal
abbrev pub line_told : Result Line Refusal → Answer
line_told = told (λ l. byte_of l.letter ∷ take (count_of l.letter) l.numbers)
