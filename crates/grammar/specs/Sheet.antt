-- A whole sheet, read line by line: refusals 2 to 9 of document 01, each with its line number.
use Rattle.std.specs.Prelude.{ℕ, Result, Ok, Err, zero, suc, ◌+◌, ◌-◌, ◌*◌, cond, ◌&&◌, not, List, [], ◌∷◌, ◌++◌, length, get_or, ltb, leb, eqb}
use Rattle.base.specs.declared.refusal.Refusal.{Refusal}
use Rattle.base.specs.Refusal.{refusal_number}
use Rattle.base.specs.Limits.{most_tables, most_rows, most_car_lines, most_strikes}
use Rattle.reading.specs.declared.letter.Letter.{Letter}
use Rattle.reading.specs.declared.letter.Letter.TheVariants.{Table as T, Row as R, Car as C, Strike as K, End as E, CarAccepted, CarRefused, Totals, GradeTotals, SheetRefused}
use Rattle.reading.specs.declared.letter.Line.{Line}
use Rattle.reading.specs.declared.Due.{Due}
use Rattle.reading.specs.Letter.{width_of}
use Rattle.reading.specs.Reading.{line_at}
use Rattle.table.specs.Table.{Row, row_of, Table, table_line_bad, row_bad}
use Rattle.grammar.specs.Grammar.{TrainLine, enters, strikes, kinds, last_rows}

-- the longest sheet, in bytes: 48,111
abbrev pub longest : ℕ
longest = most_tables * (width_of T + most_rows * width_of R) + most_car_lines * width_of C + most_strikes * width_of K + width_of E

-- What reading gives: a line number and a refusal; or the tables, and the history of lines behind them.
pub data SheetRead : Type 0 where
  refused_at : ℕ → ℕ → SheetRead
  whole : List Table → List TrainLine → SheetRead

-- Where the reading stands: the place and the number of the line due, how many rows the last table still lacks, the tables so far, the last of
-- them with the rows that were read, how many C lines, how many K lines, and the history of lines behind the tables.
pub record State : Type 0 where
  pub at : ℕ
  pub line : ℕ
  pub owed : ℕ
  pub tables : List Table
  pub cars : ℕ
  pub struck : ℕ
  pub history : List TrainLine

-- What a line brings: one more line is due, or the reading is over where it stands.
pub data Step : Type 0 where
  next : State → Step
  over : State → SheetRead → Step

abbrev pub refused_here : State → ℕ → Step
refused_here st number = over st (refused_at st.line number)

-- on to the line behind one of the letter
abbrev pub past : Letter → State → ℕ → List Table → ℕ → ℕ → List TrainLine → Step
past letter st owed tables cars struck history = next (record { at = st.at + width_of letter; line = st.line + 1; owed = owed; tables = tables; cars = cars; struck = struck; history = history })

-- The letters that may come next, by how many rows are owed, and how many tables and lines behind them there are: R exactly while rows are owed; else T until a
-- C or K line was read, and C, K and E once there is a table.
abbrev pub due_by : ℕ → ℕ → ℕ → Due
due_by owed tables behind =
    let settled = eqb owed 0 in
    record { table = settled && eqb behind 0; row = not settled; car = settled && ltb 0 tables; strike = settled && ltb 0 tables; end = settled && ltb 0 tables }

abbrev pub due_of : State → Due
due_of st = due_by st.owed (length st.tables) (st.cars + st.struck)

-- T: 7, else a table that owes its rows.
unfoldable pub table_line : State → ℕ → ℕ → Step
table_line st kind rows =
    cond (table_line_bad (kinds st.tables) kind rows) (refused_here st 7)
    (past T st rows (st.tables ++ (record { kind = kind; rows = [] } ∷ [])) st.cars st.struck st.history)

-- R: 8 by the rows before it in the last table, else one more row there.
abbrev pub with_row : List Table → Row → List Table
with_row [] row = []
with_row (t ∷ []) row = record { kind = t.kind; rows = t.rows ++ (row ∷ []) } ∷ []
with_row (t ∷ u ∷ ts) row = t ∷ with_row (u ∷ ts) row

unfoldable pub row_line : State → Row → Step
row_line st row = cond (row_bad (last_rows st.tables) row) (refused_here st 8) (past R st (st.owed - 1) (with_row st.tables row) st.cars st.struck st.history)

-- C: 9 for the hundred and twenty-first.
unfoldable pub car_line : State → List ℕ → Step
car_line st numbers = cond (leb most_car_lines st.cars) (refused_here st 9) (past C st st.owed st.tables (st.cars + 1) st.struck (st.history ++ (enters numbers ∷ [])))

-- K: 9 for the sixty-first.
unfoldable pub strike_line : State → ℕ → Step
strike_line st number = cond (leb most_strikes st.struck) (refused_here st 9) (past K st st.owed st.tables st.cars (st.struck + 1) (st.history ++ (strikes number ∷ [])))

-- E: 9 where its number is not the number of C lines; 9 at the next line's number where bytes follow.
unfoldable pub end_line : ℕ → State → ℕ → Step
end_line bytes st count =
    cond (eqb count st.cars)
    (over st (cond (eqb (st.at + width_of E) bytes) (whole st.tables st.history) (refused_at (st.line + 1) 9)))
    (refused_here st 9)

-- a line by its letter and numbers; a letter of an answer alone may not come
abbrev pub by_letter : ℕ → State → Letter → List ℕ → Step
by_letter bytes st T ns = table_line st (get_or ns 0 0) (get_or ns 1 0)
by_letter bytes st R ns = row_line st (row_of (get_or ns 0 0) (get_or ns 1 0))
by_letter bytes st C ns = car_line st ns
by_letter bytes st K ns = strike_line st (get_or ns 0 0)
by_letter bytes st E ns = end_line bytes st (get_or ns 0 0)
by_letter bytes st CarAccepted ns = refused_here st 4
by_letter bytes st CarRefused ns = refused_here st 4
by_letter bytes st Totals ns = refused_here st 4
by_letter bytes st GradeTotals ns = refused_here st 4
by_letter bytes st SheetRefused ns = refused_here st 4

abbrev pub by_reading : ℕ → State → Result Line Refusal → Step
by_reading bytes st (Ok line) = by_letter bytes st line.letter line.numbers
by_reading bytes st (Err refusal) = refused_here st (refusal_number refusal)

-- the line due: 3 to 6, then 7, 8 or 9
unfoldable pub step_of : List ℕ → State → Step
step_of s st = by_reading (length s) st (line_at s st.at (due_of st))

-- line after line, so many turns at most; no sheet has more lines than bytes, so that what stands for no turn left is never answered (Proper)
abbrev pub after : (State → SheetRead) → Step → SheetRead
after rest (next st) = rest st
after rest (over st r) = r

unfoldable pub lines : ℕ → List ℕ → State → SheetRead
lines zero s st = refused_at 0 0
lines (suc turns) s st = after (λ (st' : State). lines turns s st') (step_of s st)

-- all lines from a state on
abbrev pub read_from : List ℕ → State → SheetRead
read_from s st = lines (length s + 1) s st

abbrev pub start : State
start = record { at = 0; line = 1; owed = 0; tables = []; cars = 0; struck = 0; history = [] }

-- 2: the sheet is longer than the longest; the line number is 0
unfoldable pub sheet_of : List ℕ → SheetRead
sheet_of s = cond (ltb longest (length s)) (refused_at 0 2) (read_from s start)
