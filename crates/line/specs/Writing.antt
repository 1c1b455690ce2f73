-- A line is written: its bytes, and refusal 22 of document 01.
use Rattle.std.specs.Prelude.{ℕ, zero, suc, ◌+◌, Bool, true, false, cond, not, List, [], ◌∷◌, ◌++◌, length, get_or, take, leb}
use Rattle.base.specs.Answer.{Answer, answer, refuse_if, first}
use Rattle.base.specs.Buffer.{put}
use Rattle.base.specs.Limits.{largest}
use Rattle.field.specs.Field.{field_of}
use Rattle.reading.specs.declared.letter.Line.{Line}
use Rattle.reading.specs.Letter.{byte_of, count_of, width_of}

unfoldable pub fields_of : List ℕ → List ℕ
fields_of [] = []
fields_of (n ∷ ns) = field_of n ++ fields_of ns

-- the letter, its fields, and a line feed
unfoldable pub line_of : Line → List ℕ
line_of l = byte_of l.letter ∷ (fields_of (take (count_of l.letter) l.numbers) ++ (10 ∷ []))

-- none of the first k numbers exceeds the largest
unfoldable pub small_to : List ℕ → ℕ → Bool
small_to ns zero = true
small_to ns (suc k) = cond (small_to ns k) (leb (get_or ns k 0) largest) false

-- the line's numbers are small enough, and from `at` on it lies within so many bytes
unfoldable pub writable : Line → ℕ → ℕ → Bool
writable l at room = cond (leb (at + width_of l.letter) room) (small_to l.numbers (count_of l.letter)) false

-- 22: a number exceeds 99,999,999, or the buffer is shorter than the line. Else the line's length
unfoldable pub write_answer : Line → ℕ → ℕ → Answer
write_answer l at room = answer (first (refuse_if 22 (not (writable l at room)) ∷ [])) (width_of l.letter ∷ [])

-- the buffer once the line was to be written from `at` on: as lent where it is refused
unfoldable pub after_write : Line → ℕ → List ℕ → List ℕ
after_write l at lent = cond (writable l at (length lent)) (put lent at (line_of l)) lent
