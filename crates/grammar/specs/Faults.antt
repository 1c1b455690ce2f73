-- The faults of the line due behind the beginning of a sheet, 3 to 9, as tests on the rest of the text in the listed order.
use Rattle.std.specs.Prelude.{ℕ, Option, Some, None, ◌+◌, ◌*◌, true, cond, not, List, [], ◌∷◌, ltb, leb, eqb, length, get_or}
use Rattle.base.specs.Answer.{Test, refuse_if}
use Rattle.base.specs.Limits.{most_car_lines, most_strikes}
use Rattle.field.specs.Field.{columns, field_at}
use Rattle.reading.specs.declared.letter.Letter.{Letter}
use Rattle.reading.specs.declared.letter.Letter.TheVariants.{Table as T, Row as R, Car as C, Strike as K, End as E, CarAccepted, CarRefused, Totals, GradeTotals, SheetRefused}
use Rattle.reading.specs.Letter.{byte_of, count_of, width_of}
use Rattle.reading.specs.Reading.{feed, field_value, good}
use Rattle.table.specs.Table.{row_of, Table, table_line_bad, row_bad}
use Rattle.grammar.specs.Grammar.{TrainLine, cars_in, strikes_in, kinds, last_rows, may_come}

-- number j of the line that the rest starts with
abbrev pub number_in : List ℕ → ℕ → ℕ
number_in rest j = field_value (field_at rest (1 + columns * j))

-- the letter whose byte is b, among some
abbrev pub letter_in : ℕ → List Letter → Option Letter
letter_in b [] = None
letter_in b (l ∷ ls) = cond (eqb b (byte_of l)) (Some l) (letter_in b ls)

module _ (tables : List Table) (history : List TrainLine) (rest : List ℕ) where
  -- 7: the T line's numbers. 8: the R line's. 9: the C line is the hundred and twenty-first, the K line is the sixty-first, or E's number is not the number of C lines
  abbrev pub number_faults : Letter → List Test
  number_faults T = refuse_if 7 (table_line_bad (kinds tables) (number_in rest 0) (number_in rest 1)) ∷ []
  number_faults R = refuse_if 8 (row_bad (last_rows tables) (row_of (number_in rest 0) (number_in rest 1))) ∷ []
  number_faults C = refuse_if 9 (leb most_car_lines (cars_in history)) ∷ []
  number_faults K = refuse_if 9 (leb most_strikes (strikes_in history)) ∷ []
  number_faults E = refuse_if 9 (not (eqb (number_in rest 0) (cars_in history))) ∷ []
  number_faults CarAccepted = []
  number_faults CarRefused = []
  number_faults Totals = []
  number_faults GradeTotals = []
  number_faults SheetRefused = []

  -- 4: no letter that may come next has the first byte. 5: the length is not the letter's. 6: a field is not a number
  abbrev pub letter_faults : Option Letter → List Test
  letter_faults None = refuse_if 4 true ∷ []
  letter_faults (Some l) = refuse_if 5 (not (eqb (feed rest + 1) (width_of l))) ∷ refuse_if 6 (not (good rest 1 (count_of l))) ∷ number_faults l

-- 3: the sheet has ended or no line feed follows; then the others
abbrev pub line_faults : List Table → ℕ → List TrainLine → List ℕ → List Test
line_faults tables owed history rest =
    refuse_if 3 (not (ltb (feed rest) (length rest))) ∷ letter_faults tables history rest (letter_in (get_or rest 0 0) (may_come tables owed history))
