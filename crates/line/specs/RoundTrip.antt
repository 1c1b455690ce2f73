-- Demand 2's second sentence: a line written from numbers and read again brings those numbers, and a line read and written again brings its bytes.
use Rattle.std.specs.Prelude.{ℕ, Result, Ok, ◌≤◌, ◌≡◌, true, List, [], ◌∷◌, length, take}
use Rattle.base.specs.Answer.{figures}
use Rattle.base.specs.declared.refusal.Refusal.{Refusal}
use Rattle.base.specs.Buffer.{put}
use Rattle.reading.specs.declared.letter.Letter.{Letter}
use Rattle.reading.specs.declared.letter.Line.{Line}
use Rattle.reading.specs.Letter.{of_sheet, count_of, width_of}
use Rattle.reading.specs.Reading.{filled}
use Rattle.line.specs.Alone.{read_line}
use Rattle.line.specs.Writing.{writable, write_answer, after_write}

-- the letter is one of a sheet's
abbrev pub OfSheet : Letter → Type 0
OfSheet letter = of_sheet letter ≡ true

-- the line's letter and its numbers, as reading gives them: 0 in the places that the letter does not use
abbrev pub read_as : Line → Result Line Refusal
read_as l = Ok (record { letter = l.letter; numbers = filled (take (count_of l.letter) l.numbers) (count_of l.letter) })

-- a sheet's line that can be written into a lent buffer reads, from the bytes left there, as its letter and numbers
pub record WrittenReadsBack (l : Line) (lent left : List ℕ) : Type 0 where
  pub numbers : OfSheet l.letter → writable l 0 (length lent) ≡ true → read_line left ≡ read_as l

-- a line that was read out of s can be written wherever there is room, and brings its bytes
pub record ReadWritesBack (s : List ℕ) (r : Result Line Refusal) : Type 0 where
  pub width : (line : Line) (room : ℕ) → r ≡ Ok line → width_of line.letter ≤ room → write_answer line 0 room ≡ figures (width_of line.letter ∷ [])
  pub bytes : (line : Line) (lent : List ℕ) → r ≡ Ok line → width_of line.letter ≤ length lent → after_write line 0 lent ≡ put lent 0 (take (width_of line.letter) s)
