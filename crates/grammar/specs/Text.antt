-- The text of lines, one after another.
use Rattle.std.specs.Prelude.{ℕ, List, [], ◌∷◌, ◌++◌}
use Rattle.reading.specs.declared.letter.Letter.{Letter}
use Rattle.reading.specs.declared.letter.Line.{Line}
use Rattle.reading.specs.Letter.{count_of}
use Rattle.reading.specs.Reading.{filled}
use Rattle.line.specs.Writing.{line_of}

-- a line by its letter and as many numbers as the letter has fields
abbrev pub line_with : Letter → List ℕ → Line
line_with letter numbers = record { letter = letter; numbers = filled numbers (count_of letter) }

-- each line with its line feed, and nothing between or behind them
unfoldable pub text_of : List Line → List ℕ
text_of [] = []
text_of (l ∷ ls) = line_of l ++ text_of ls
