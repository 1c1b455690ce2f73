-- A line read alone: it may bear any letter of a sheet, and ends at its first line feed.
use Rattle.std.specs.Prelude.{ℕ, Result, ◌+◌, ◌<◌, ◌≡◌, List, ◌++◌, length, take}
use Rattle.base.specs.declared.refusal.Refusal.{Refusal}
use Rattle.reading.specs.declared.letter.Line.{Line}
use Rattle.reading.specs.Reading.{feed, any, line_at}

abbrev pub read_line : List ℕ → Result Line Refusal
read_line s = line_at s 0 any

-- whatever else may follow the line feed, the reading r is the same
pub record EndsAtFeed (s : List ℕ) (r : Result Line Refusal) : Type 0 where
  pub same : (rest : List ℕ) → feed s < length s → read_line (take (feed s + 1) s ++ rest) ≡ r
