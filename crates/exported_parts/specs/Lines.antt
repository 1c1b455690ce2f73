-- One line read or written, by the byte of its letter and fourteen numbers.
use Rattle.std.specs.Prelude.{ℕ, true, List, [], ◌∷◌, Option, Some, None, Result, Ok, Err}
use Rattle.base.specs.Answer.{Answer, refusal}
use Rattle.base.specs.declared.refusal.Refusal.{Refusal}
use Rattle.reading.specs.declared.letter.Letter.{Letter}
use Rattle.reading.specs.declared.letter.Letter.TheVariants.{Table, Row, Car, Strike, End, CarAccepted, CarRefused, Totals, GradeTotals, SheetRefused}
use Rattle.reading.specs.declared.letter.Line.{Line}
use Rattle.reading.specs.Reading.{Candidate, candidate, letter_among}
use Rattle.line.specs.Writing.{write_answer, after_write}
use Rattle.marshalling.specs.Handed.{bad_letter}

-- Reading: the lent numbers afterwards, all fourteen of a line that was read; a refusal leaves them.

abbrev pub numbers_left : Result Line Refusal → List ℕ → List ℕ
numbers_left (Ok line) lent = line.numbers
numbers_left (Err e) lent = lent

-- Writing.

abbrev pub all_letters : List Candidate
all_letters =
    candidate Table true
    ∷ candidate Row true
    ∷ candidate Car true
    ∷ candidate Strike true
    ∷ candidate End true
    ∷ candidate CarAccepted true
    ∷ candidate CarRefused true
    ∷ candidate Totals true
    ∷ candidate GradeTotals true
    ∷ candidate SheetRefused true
    ∷ []

-- the letter, of a sheet or of an answer, whose byte is b
unfoldable pub letter_named : ℕ → Option Letter
letter_named b = letter_among b all_letters

abbrev pub line_with : Letter → List ℕ → Line
line_with letter numbers = record { letter = letter; numbers = numbers }

-- the answer of writing into so many bytes, and the buffer afterwards; no letter writes nothing
abbrev pub write_answer_by : Option Letter → List ℕ → ℕ → Answer
write_answer_by (Some letter) numbers room = write_answer (line_with letter numbers) 0 room
write_answer_by None numbers room = refusal bad_letter

abbrev pub after_write_by : Option Letter → List ℕ → List ℕ → List ℕ
after_write_by (Some letter) numbers lent = after_write (line_with letter numbers) 0 lent
after_write_by None numbers lent = lent
