-- How a sheet that is read lies in arrays: its tables in a directory and two arrays (`table`), line i behind the tables from 15 i on in a third.
use Rattle.std.specs.Prelude.{ℕ, Result, Ok, Err, zero, suc, ◌+◌, ◌*◌, cond, List, [], ◌∷◌, get_or, take, drop, eqb}
use Rattle.base.specs.Limits.{most_car_lines, most_strikes}
use Rattle.base.specs.Refusal.{refusal_number}
use Rattle.reading.specs.Letter.{most_fields}
use Rattle.table.specs.Table.{Table}
use Rattle.holding.specs.declared.LineRefusal.{LineRefusal}
use Rattle.grammar.specs.Grammar.{TrainLine, enters, strikes}
use Rattle.grammar.specs.Sheet.{SheetRead, refused_at, whole}

-- how many numbers stand for a line, its letter first, and for all lines behind the tables at most
abbrev pub line_places : ℕ
line_places = 1 + most_fields

abbrev pub history_numbers : ℕ
history_numbers = (most_car_lines + most_strikes) * line_places

-- what stands for the letter of a C line, and of a K line, for which any other number would do too
abbrev pub car_mark : ℕ
car_mark = 0

abbrev pub strike_mark : ℕ
strike_mark = 1

-- the line that its numbers stand for: all behind the letter are a C line's, the first of them is a K line's
abbrev pub line_in : List ℕ → TrainLine
line_in numbers = cond (eqb (get_or numbers 0 0) car_mark) (enters (drop 1 numbers)) (strikes (get_or numbers 1 0))

-- the numbers of line i
abbrev pub line_numbers : List ℕ → ℕ → List ℕ
line_numbers fields i = take line_places (drop (line_places * i) fields)

-- n lines from line i on
abbrev pub history_from : List ℕ → ℕ → ℕ → List TrainLine
history_from fields i zero = []
history_from fields i (suc n) = line_in (line_numbers fields i) ∷ history_from fields (i + 1) n

abbrev pub history_of : List ℕ → ℕ → List TrainLine
history_of fields n = history_from fields 0 n

-- what an outcome tells, with the tables and lines that stand beside it; a refusal tells none of them
abbrev pub outcome_told : Result Unit LineRefusal → List Table → List TrainLine → SheetRead
outcome_told (Ok u) tables history = whole tables history
outcome_told (Err r) tables history = refused_at r.line (refusal_number r.refusal)
