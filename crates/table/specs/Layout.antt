-- How tables lie in a directory and two arrays, 400 places to a table.
use Rattle.std.specs.Prelude.{ℕ, zero, suc, ◌+◌, ◌*◌, List, [], ◌∷◌, get_or, take}
use Rattle.base.specs.Limits.{most_tables, most_rows}
use Rattle.table.specs.Table.{Row, row_of, Table}
use Rattle.table.specs.declared.Directory.{Directory}
use Rattle.table.specs.declared.Tables.{Tables}

-- how many rows there is room for
abbrev pub places : ℕ
places = most_tables * most_rows

-- n rows from `at` on
abbrev pub rows_from : List ℕ → List ℕ → ℕ → ℕ → List Row
rows_from levels capacities at zero = []
rows_from levels capacities at (suc n) =
    row_of (get_or levels at 0) (get_or capacities at 0) ∷ rows_from levels capacities (at + 1) n

-- table k: row i stands at 400 k + i
abbrev pub table_at : List ℕ → List ℕ → List ℕ → List ℕ → ℕ → Table
table_at types rows levels capacities k =
    record { kind = get_or types k 0; rows = rows_from levels capacities (most_rows * k) (get_or rows k 0) }

-- n tables from number k on
abbrev pub tables_from : List ℕ → List ℕ → List ℕ → List ℕ → ℕ → ℕ → List Table
tables_from types rows levels capacities k zero = []
tables_from types rows levels capacities k (suc n) =
    table_at types rows levels capacities k ∷ tables_from types rows levels capacities (k + 1) n

abbrev pub tables_of : Directory → List ℕ → List ℕ → List Table
tables_of d levels capacities = tables_from d.types d.rows levels capacities 0 d.count

-- the tables that lie in arrays beside their directory
abbrev pub tables_in : Tables → List Table
tables_in t = tables_from t.types t.rows t.levels.now t.capacities.now 0 t.count

-- the types of a directory's tables
abbrev pub types_of : Directory → List ℕ
types_of d = take d.count d.types
