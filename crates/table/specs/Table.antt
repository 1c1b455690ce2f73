-- Capacity tables, and why they are turned away: refusals 7 and 8 of document 01, line by line.
use Rattle.std.specs.Prelude.{ℕ, Bool, true, false, cond, ◌||◌, ◌&&◌, not, List, [], ◌∷◌, ◌++◌, ltb, leb, eqb, length}
use Rattle.base.specs.Answer.{Test, refuse_if, Verdict, first}
use Rattle.base.specs.Limits.{most_tables, most_rows, highest_level, greatest_capacity}
use Rattle.base.specs.Numbers.{outside, member}

-- a level in mm, and the capacity up to it in dm³ at 20 °C
pub record Row : Type 0 where
  pub level : ℕ
  pub capacity : ℕ

abbrev pub row_of : ℕ → ℕ → Row
row_of level capacity = record { level = level; capacity = capacity }

-- a table's type and its rows
pub record Table : Type 0 where
  pub kind : ℕ
  pub rows : List Row

-- 7: the T line after tables of the types `used` has a type outside 1 to 9,999 or already used, rows outside 2 to 400, or is the fifth
abbrev pub table_line_bad : List ℕ → ℕ → ℕ → Bool
table_line_bad used kind rows = outside 1 9_999 kind || member kind used || outside 2 most_rows rows || leb most_tables (length used)

-- 8: a table's first row is not 0 and 0
abbrev pub first_row_bad : Row → Bool
first_row_bad row = not (eqb row.level 0 && eqb row.capacity 0)

-- 8: a later row does not exceed the row before in both numbers, or passes 3,600 mm or 200,000 dm³
abbrev pub later_row_bad : Row → Row → Bool
later_row_bad before row =
    leb row.level before.level
    || leb row.capacity before.capacity
    || ltb highest_level row.level
    || ltb greatest_capacity row.capacity

-- 8: a row is bad behind those that its table has so far
abbrev pub row_bad : List Row → Row → Bool
row_bad [] row = first_row_bad row
row_bad (before ∷ []) row = later_row_bad before row
row_bad (before ∷ next ∷ rows) row = row_bad (next ∷ rows) row

-- the tests of the rows that follow a row, one by one
abbrev pub later_tests : Row → List Row → List Test
later_tests before [] = []
later_tests before (row ∷ rows) = refuse_if 8 (later_row_bad before row) ∷ later_tests row rows

abbrev pub rows_tests : List Row → List Test
rows_tests [] = []
rows_tests (row ∷ rows) = refuse_if 8 (first_row_bad row) ∷ later_tests row rows

-- the tests of the tables that follow those of the types `used`, one by one: the T line, then its rows
abbrev pub tables_tests_after : List ℕ → List Table → List Test
tables_tests_after used [] = []
tables_tests_after used (t ∷ ts) =
    refuse_if 7 (table_line_bad used t.kind (length t.rows)) ∷ (rows_tests t.rows ++ tables_tests_after (used ++ (t.kind ∷ [])) ts)

abbrev pub tables_tests : List Table → List Test
tables_tests = tables_tests_after []

abbrev pub tables_verdict : List Table → Verdict
tables_verdict ts = first (tables_tests ts)

-- The rows of a type.

-- whether no table has the type
abbrev pub unknown : ℕ → List Table → Bool
unknown kind [] = true
unknown kind (t ∷ ts) = cond (eqb t.kind kind) false (unknown kind ts)

-- the rows of the table that has the type; none where no table has it
abbrev pub rows_of : ℕ → List Table → List Row
rows_of kind [] = []
rows_of kind (t ∷ ts) = cond (eqb t.kind kind) t.rows (rows_of kind ts)

-- the level of the last row, in mm
abbrev pub last_level : List Row → ℕ
last_level [] = 0
last_level (row ∷ []) = row.level
last_level (row ∷ next ∷ rows) = last_level (next ∷ rows)
