-- A field of a line: nine columns, a number of one to eight digits with spaces before it, no leading zero except 0 itself.
use Rattle.std.specs.Prelude.{ℕ, Option, Some, None, zero, suc, ◌+◌, ◌-◌, ◌*◌, ◌/◌, ◌%◌, Bool, false, cond, List, [], ◌∷◌, ◌++◌, length, get_or, leb, ltb, eqb}
use Rattle.base.specs.Buffer.{put}
use Rattle.base.specs.Limits.{largest}
use Rattle.field.specs.declared.Seen.{Seen}
use Rattle.field.specs.declared.Seen.TheVariants.{Blank, Digits, Broken}

-- how many columns, each of one byte
abbrev pub columns : ℕ
columns = 9

-- Reading.

-- x where b is the byte of a digit, 48 to 57
abbrev pub if_digit : ℕ → Seen → Seen
if_digit b x = cond (ltb b 48) Broken (cond (ltb 57 b) Broken x)

-- one more column: a space (byte 32) while only spaces were seen, a first digit, or a digit after a number of one to seven digits that is not 0
abbrev pub column_of : Seen → ℕ → Seen
column_of Blank b = cond (eqb b 32) Blank (if_digit b (Digits (b - 48)))
column_of (Digits v) b = cond (eqb v 0) Broken (cond (ltb (largest / 10) v) Broken (if_digit b (Digits (10 * v + (b - 48)))))
column_of Broken b = Broken

-- what the first k columns from `at` hold; past the end of s stands no byte that a field may have
unfoldable pub seen_to : List ℕ → ℕ → ℕ → Seen
seen_to s at zero = Blank
seen_to s at (suc k) = column_of (seen_to s at k) (get_or s (at + k) 0)

abbrev pub finish : Seen → Option ℕ
finish Blank = None
finish (Digits v) = Some v
finish Broken = None

-- the field whose columns start at `at`
unfoldable pub field_at : List ℕ → ℕ → Option ℕ
field_at s at = finish (seen_to s at columns)

-- Writing.

-- the byte of n's last digit, or a space where n is 0
abbrev pub glyph_of : ℕ → ℕ
glyph_of n = cond (eqb n 0) 32 (48 + n % 10)

-- n's digits right-justified in k columns; all spaces where n is 0
unfoldable pub justified : ℕ → ℕ → List ℕ
justified zero n = []
justified (suc k) n = justified k (n / 10) ++ (glyph_of n ∷ [])

-- n's field: its last digit, which is written even where n is 0, and before it the other digits
unfoldable pub field_of : ℕ → List ℕ
field_of n = justified (columns - 1) (n / 10) ++ ((48 + n % 10) ∷ [])

-- n has at most eight digits, and its field from `at` on lies within so many bytes
abbrev pub field_fits : ℕ → ℕ → ℕ → Bool
field_fits n at room = cond (leb n largest) (leb (at + columns) room) false

-- the buffer once n's field was to be written from `at` on: as lent where it does not fit
unfoldable pub after_field : ℕ → ℕ → List ℕ → List ℕ
after_field n at lent = cond (field_fits n at (length lent)) (put lent at (field_of n)) lent
