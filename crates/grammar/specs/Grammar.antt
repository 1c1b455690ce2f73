-- The lines of a sheet from its tables and the history of lines behind them, and what document 01 asks of them; no word of how a sheet is read.
use Rattle.std.specs.Prelude.{ℕ, zero, suc, ◌+◌, ◌≤◌, ◌<◌, ◌≡◌, true, false, List, [], ◌∷◌, ◌++◌, map, length}
use Rattle.base.specs.Answer.{accepts, first}
use Rattle.base.specs.Limits.{largest, most_tables, most_car_lines, most_strikes}
use Rattle.base.specs.Lists.{Each}
use Rattle.reading.specs.declared.letter.Letter.{Letter}
use Rattle.reading.specs.declared.letter.Letter.TheVariants.{Table as T, Row as R, Car as C, Strike as K, End as E}
use Rattle.reading.specs.declared.letter.Line.{Line}
use Rattle.reading.specs.Letter.{most_fields}
use Rattle.line.specs.Writing.{small_to}
use Rattle.table.specs.Table.{Row, Table, table_line_bad, rows_tests, tables_verdict}
use Rattle.grammar.specs.Text.{line_with, text_of}

-- Lines.

-- T: type, number of rows
abbrev pub t_line : ℕ → ℕ → Line
t_line kind rows = line_with T (kind ∷ rows ∷ [])

-- R: level, capacity
abbrev pub r_line : Row → Line
r_line row = line_with R (row.level ∷ row.capacity ∷ [])

-- C: the car's fourteen numbers
abbrev pub c_line : List ℕ → Line
c_line numbers = line_with C numbers

-- K: the number of the car that is struck
abbrev pub k_line : ℕ → Line
k_line number = line_with K (number ∷ [])

-- E: number of C lines
abbrev pub e_line : ℕ → Line
e_line cars = line_with E (cars ∷ [])

-- Behind the tables: a car is entered, by the fourteen numbers of a C line, or struck, by the number of a K line.
pub data TrainLine : Type 0 where
  enters : List ℕ → TrainLine
  strikes : ℕ → TrainLine

abbrev pub as_line : TrainLine → Line
as_line (enters numbers) = c_line numbers
as_line (strikes number) = k_line number

-- how many C lines, and how many K lines
abbrev pub cars_in : List TrainLine → ℕ
cars_in [] = 0
cars_in (enters numbers ∷ history) = suc (cars_in history)
cars_in (strikes number ∷ history) = cars_in history

abbrev pub strikes_in : List TrainLine → ℕ
strikes_in [] = 0
strikes_in (enters numbers ∷ history) = strikes_in history
strikes_in (strikes number ∷ history) = suc (strikes_in history)

-- A whole sheet.

-- a table: its T line, then an R line for each row
abbrev pub table_lines : Table → List Line
table_lines t = t_line t.kind (length t.rows) ∷ map r_line t.rows

abbrev pub tables_lines : List Table → List Line
tables_lines [] = []
tables_lines (t ∷ ts) = table_lines t ++ tables_lines ts

-- the tables, then the history of lines behind them, then E
abbrev pub sheet_lines : List Table → List TrainLine → List Line
sheet_lines tables history = tables_lines tables ++ (map as_line history ++ (e_line (cars_in history) ∷ []))

abbrev pub sheet_text : List Table → List TrainLine → List ℕ
sheet_text tables history = text_of (sheet_lines tables history)

-- fourteen numbers, none above 99,999,999
pub record CarNumbers (numbers : List ℕ) : Type 0 where
  pub fourteen : length numbers ≡ most_fields
  pub small : small_to numbers most_fields ≡ true

-- and of a K line its one
abbrev pub Fitting : TrainLine → Type 0
Fitting (enters numbers) = CarNumbers numbers
Fitting (strikes number) = number ≤ largest

abbrev pub EachLine : List TrainLine → Type 0
EachLine = Each Fitting

-- one to four tables, to which neither 7 nor 8 applies, at most 120 C lines, and at most sixty K lines
pub record WholeSheet (tables : List Table) (history : List TrainLine) : Type 0 where
  pub some : 1 ≤ length tables
  pub four : length tables ≤ most_tables
  pub accepted : tables_verdict tables ≡ accepts
  pub few_cars : cars_in history ≤ most_car_lines
  pub few_strikes : strikes_in history ≤ most_strikes
  pub each : EachLine history

-- The beginning of a sheet: tables, of which the last still lacks `owed` rows, and lines behind them.

-- the tables' lines; the last T line has told how many rows its table will have
abbrev pub tables_begun : List Table → ℕ → List Line
tables_begun [] owed = []
tables_begun (t ∷ []) owed = t_line t.kind (length t.rows + owed) ∷ map r_line t.rows
tables_begun (t ∷ u ∷ ts) owed = table_lines t ++ tables_begun (u ∷ ts) owed

abbrev pub lines_begun : List Table → ℕ → List TrainLine → List Line
lines_begun tables owed history = tables_begun tables owed ++ map as_line history

-- each T line and each row so far is as 7 and 8 ask, behind tables of the types `used`
abbrev pub Passed : List ℕ → List Table → ℕ → Type 0
Passed used [] owed = owed ≡ 0
Passed used (t ∷ []) owed = (table_line_bad used t.kind (length t.rows + owed) ≡ false) × (first (rows_tests t.rows) ≡ accepts)
Passed used (t ∷ u ∷ ts) owed =
    (table_line_bad used t.kind (length t.rows) ≡ false) × (first (rows_tests t.rows) ≡ accepts) × Passed (used ++ (t.kind ∷ [])) (u ∷ ts) owed

-- and other lines come behind tables that lack no row
pub record Begun (tables : List Table) (owed : ℕ) (history : List TrainLine) : Type 0 where
  pub passed : Passed [] tables owed
  pub behind : 0 < length history → (owed ≡ 0) × (0 < length tables)
  pub few_cars : cars_in history ≤ most_car_lines
  pub few_strikes : strikes_in history ≤ most_strikes
  pub each : EachLine history

-- The line behind a beginning.

-- the types of tables
abbrev pub kinds : List Table → List ℕ
kinds = map (λ (t : Table). t.kind)

-- the rows of the last table so far
abbrev pub last_rows : List Table → List Row
last_rows [] = []
last_rows (t ∷ []) = t.rows
last_rows (t ∷ u ∷ ts) = last_rows (u ∷ ts)

-- the letters that may come next: R exactly while rows are lacking, else T until there is a line behind the tables, and C, K and E once there is a table
abbrev pub may_come : List Table → ℕ → List TrainLine → List Letter
may_come tables (suc owed) history = R ∷ []
may_come [] zero history = T ∷ []
may_come (t ∷ ts) zero [] = T ∷ C ∷ K ∷ E ∷ []
may_come (t ∷ ts) zero (line ∷ history) = C ∷ K ∷ E ∷ []
