-- The rack card of tables: those that 7 and 8 just pass and just turn away, and of two faults the one that comes first, line by line.
use Rattle.std.specs.Prelude.{ℕ, zero, suc, ◌+◌, ◌≡◌, List, [], ◌∷◌}
use Rattle.base.specs.Answer.{first_number}
use Rattle.base.specs.Lists.{Each}
use Rattle.table.specs.Table.{Row, row_of, Table, tables_tests}

-- n rows that rise by 1 mm and 1 dm³
abbrev rising_from : ℕ → ℕ → List Row
rising_from i zero = []
rising_from i (suc n) = row_of i i ∷ rising_from (i + 1) n

abbrev rising : ℕ → List Row
rising n = rising_from 0 n

abbrev table : ℕ → List Row → Table
table kind rows = record { kind = kind; rows = rows }

-- tables, and the number of the refusal; 0 where there is none
pub record Case : Type 0 where
  pub tables : List Table
  pub number : ℕ

abbrev gives : ℕ → List Table → Case
gives number tables = record { tables = tables; number = number }

-- one table of type 1
abbrev one : ℕ → List Row → Case
one number rows = gives number (table 1 rows ∷ [])

unfoldable pub card : List Case
card =
    -- 7: the type, which no earlier table has; the number of rows; the number of tables
    gives 7 (table 0 (rising 2) ∷ [])
    ∷ gives 0 (table 1 (rising 2) ∷ [])
    ∷ gives 0 (table 9_999 (rising 2) ∷ [])
    ∷ gives 7 (table 10_000 (rising 2) ∷ [])
    ∷ gives 7 (table 1 (rising 2) ∷ table 2 (rising 2) ∷ table 1 (rising 2) ∷ [])
    ∷ gives 7 (table 1 (rising 2) ∷ table 2 (rising 2) ∷ table 2 (rising 2) ∷ [])
    ∷ one 7 (rising 1)
    ∷ one 0 (rising 400)
    ∷ one 7 (rising 401)
    ∷ gives 0 (table 4 (rising 2) ∷ table 3 (rising 2) ∷ table 2 (rising 2) ∷ table 1 (rising 2) ∷ [])
    ∷ gives 7 (table 5 (rising 2) ∷ table 4 (rising 2) ∷ table 3 (rising 2) ∷ table 2 (rising 2) ∷ table 1 (rising 2) ∷ [])
    -- 8: the first row; a later row exceeds the one before in both; the highest level and the greatest capacity
    ∷ one 8 (row_of 1 0 ∷ row_of 2 1 ∷ [])
    ∷ one 8 (row_of 0 1 ∷ row_of 1 2 ∷ [])
    ∷ one 8 (row_of 0 0 ∷ row_of 0 1 ∷ [])
    ∷ one 8 (row_of 0 0 ∷ row_of 1 0 ∷ [])
    ∷ one 8 (row_of 0 0 ∷ row_of 1 1 ∷ row_of 1 2 ∷ [])
    ∷ one 8 (row_of 0 0 ∷ row_of 1 1 ∷ row_of 2 1 ∷ [])
    ∷ one 0 (row_of 0 0 ∷ row_of 1 1 ∷ row_of 2 2 ∷ [])
    ∷ one 0 (row_of 0 0 ∷ row_of 3_600 1 ∷ [])
    ∷ one 8 (row_of 0 0 ∷ row_of 3_601 1 ∷ [])
    ∷ one 0 (row_of 0 0 ∷ row_of 1 200_000 ∷ [])
    ∷ one 8 (row_of 0 0 ∷ row_of 1 200_001 ∷ [])
    -- line by line: a T line before its own rows, a row before the T line of a later table
    ∷ gives 7 (table 0 (row_of 1 0 ∷ row_of 2 1 ∷ []) ∷ [])
    ∷ gives 8 (table 1 (row_of 1 0 ∷ row_of 2 1 ∷ []) ∷ table 0 (rising 2) ∷ [])
    ∷ []

-- the rules give each number of the card
pub record TablesRight : Type 0 where
  pub each : Each (λ c. first_number (tables_tests c.tables) ≡ c.number) card
