-- What functions that write lines ask for; it is no part of what a merged sheet means.
use Rattle.std.specs.Prelude.{ℕ, ◌+◌, ◌≡◌, List, length}
use Rattle.base.specs.Buffer.{put}
use Rattle.reading.specs.declared.letter.Line.{Line}
use Rattle.grammar.specs.Text.{text_of}

-- the lines are written over `lent` from `at` on, which leaves `left`, and the place behind them is r
abbrev pub Appended : List Line → ℕ → List ℕ → ℕ → List ℕ → Type 0
Appended ls at lent r left = (r ≡ at + length (text_of ls)) × (left ≡ put lent at (text_of ls))
