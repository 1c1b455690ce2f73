-- A line is read: one letter, then as many fields as the letter says, then a line feed (byte 10); refusals 3 to 6 of document 01.
use Rattle.std.specs.Prelude.{ℕ, zero, suc, ◌+◌, ◌-◌, ◌*◌, Option, Some, None, Result, Ok, Err, Bool, true, false, cond, List, [], ◌∷◌, ◌++◌, length, get_or, drop, replicate, ltb, eqb}
use Rattle.base.specs.declared.refusal.Refusal.{Refusal}
use Rattle.base.specs.declared.refusal.Refusal.TheVariants.{NoLine, WrongLetter, LineLength, NotNumber}
use Rattle.field.specs.Field.{columns, field_at}
use Rattle.reading.specs.declared.letter.Letter.{Letter}
use Rattle.reading.specs.declared.letter.Letter.TheVariants.{Table, Row, Car, Strike, End}
use Rattle.reading.specs.declared.letter.Line.{Line}
use Rattle.reading.specs.declared.Due.{Due}
use Rattle.reading.specs.Letter.{byte_of, count_of, most_fields}

-- Letters.

-- a letter of a sheet, and whether it may come next
pub record Candidate : Type 0 where
  pub letter : Letter
  pub due : Bool

abbrev pub candidate : Letter → Bool → Candidate
candidate letter due = record { letter = letter; due = due }

abbrev pub sheet_letters : Due → List Candidate
sheet_letters due =
    candidate Table due.table
    ∷ candidate Row due.row
    ∷ candidate Car due.car
    ∷ candidate Strike due.strike
    ∷ candidate End due.end
    ∷ []

abbrev pub letter_if : Bool → Letter → Option Letter
letter_if true letter = Some letter
letter_if false letter = None

abbrev pub letter_among : ℕ → List Candidate → Option Letter
letter_among b [] = None
letter_among b (c ∷ cs) = cond (eqb b (byte_of c.letter)) (letter_if c.due c.letter) (letter_among b cs)

-- the letter of a sheet whose byte is b, if it may come next
unfoldable pub letter_of : ℕ → Due → Option Letter
letter_of b due = letter_among b (sheet_letters due)

-- The line feed.

-- how many bytes stand before the first line feed
unfoldable pub feed : List ℕ → ℕ
feed [] = 0
feed (b ∷ s) = cond (eqb b 10) 0 (suc (feed s))

-- the place of the first line feed from `at` on; where there is none, no place of s
unfoldable pub feed_at : List ℕ → ℕ → ℕ
feed_at s at = at + feed (drop at s)

-- Fields.

abbrev pub is_number : Option ℕ → Bool
is_number (Some n) = true
is_number None = false

abbrev pub field_value : Option ℕ → ℕ
field_value (Some n) = n
field_value None = 0

-- whether each of k fields from `at` on is a number, and the numbers
unfoldable pub good : List ℕ → ℕ → ℕ → Bool
good s at zero = true
good s at (suc k) = cond (good s at k) (is_number (field_at s (at + columns * k))) false

unfoldable pub values : List ℕ → ℕ → ℕ → List ℕ
values s at zero = []
values s at (suc k) = values s at k ++ (field_value (field_at s (at + columns * k)) ∷ [])

-- k numbers, and 0 in each place that is not used
abbrev pub filled : List ℕ → ℕ → List ℕ
filled ns k = ns ++ replicate (most_fields - k) 0

-- the numbers, if each field is one
abbrev pub numbers_at : List ℕ → ℕ → ℕ → Option (List ℕ)
numbers_at s at k = cond (good s at k) (Some (filled (values s at k) k)) None

-- The line.

-- 4: no letter that may come next. 5: the length is not the letter's. 6: a field is not a number. Else the letter and its numbers
unfoldable pub line_by : List ℕ → ℕ → ℕ → Option Letter → Result Line Refusal
line_by s at end None = Err WrongLetter
line_by s at end (Some letter) =
    cond (eqb (end - at) (1 + columns * count_of letter))
    (cond (good s (at + 1) (count_of letter))
    (Ok (record { letter = letter; numbers = filled (values s (at + 1) (count_of letter)) (count_of letter) }))
    (Err NotNumber))
    (Err LineLength)

-- the line that starts at `at`. 3: the sheet has ended, or no line feed follows
unfoldable pub line_at : List ℕ → ℕ → Due → Result Line Refusal
line_at s at due = cond (ltb (feed_at s at) (length s)) (line_by s at (feed_at s at) (letter_of (get_or s at 0) due)) (Err NoLine)

-- where any letter of a sheet may come
abbrev pub any : Due
any = record { table = true; row = true; car = true; strike = true; end = true }

-- where only a row may come, and what an R line with the numbers a and b is read as
abbrev pub row_only : Due
row_only = record { table = false; row = true; car = false; strike = false; end = false }

abbrev pub row_read : ℕ → ℕ → Result Line Refusal
row_read a b = Ok (record { letter = Row; numbers = filled (a ∷ b ∷ []) 2 })

-- the first two numbers, where a line was read
abbrev pub row_by : Result Line Refusal → Option (ℕ × ℕ)
row_by (Ok line) = Some (get_or line.numbers 0 0, get_or line.numbers 1 0)
row_by (Err refusal) = None

-- the R line that starts at `at`, if it is read where only a row may come
unfoldable pub row_at : List ℕ → ℕ → Option (ℕ × ℕ)
row_at s at = row_by (line_at s at row_only)
