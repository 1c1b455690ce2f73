-- What inner functions ask for and keep while a sheet is read; it is no part of what a sheet means.
use Rattle.std.specs.Prelude.{ℕ, Option, Some, None, Result, ◌+◌, ◌-◌, ◌≤◌, ◌<◌, ◌≡◌, List, length, get_or, set}
use Rattle.base.specs.Limits.{most_tables, most_rows, most_car_lines, most_strikes}
use Rattle.table.specs.declared.Directory.{Directory}
use Rattle.table.specs.Layout.{tables_of}
use Rattle.grammar.specs.Sheet.{longest, State, Step, next, over}
use Rattle.grammar.specs.Inner.{Sound}
use Rattle.holding.specs.declared.LineRefusal.{LineRefusal}
use Rattle.holding.specs.declared.reader.Reader.{Reader}
use Rattle.holding.specs.declared.reader.Stepped.{Stepped}
use Rattle.holding.specs.Layout.{history_of, outcome_told}

-- what the code holds while the reading goes on
abbrev pub state_in : Reader → List ℕ → List ℕ → List ℕ → State
state_in r levels capacities fields =
    record { at = r.at; line = r.line; owed = r.owed; tables = tables_of r.directory levels capacities; cars = r.cars; struck = r.struck; history = history_of fields (r.cars + r.struck) }

abbrev pub step_by : Option (Result Unit LineRefusal) → State → Step
step_by None st = next st
step_by (Some outcome) st = over st (outcome_told outcome st.tables st.history)

abbrev pub step_in : Stepped → List ℕ → List ℕ → List ℕ → Step
step_in p levels capacities fields = step_by p.end (state_in p.reader levels capacities fields)

-- a directory whose last table lacks rows: there is room for them
pub record Owing (owed : ℕ) (d : Directory) : Type 0 where
  pub some : 0 < d.count
  pub few : d.count ≤ most_tables
  pub room : get_or d.rows (d.count - 1) 0 + owed ≤ most_rows
  pub each : (k : ℕ) → k < d.count → get_or d.rows k 0 ≤ most_rows

-- the numbers of a place in a sheet that is not too long
pub record Bounds (h : Reader) : Type 0 where
  pub place : h.at ≤ longest
  pub number : h.line ≤ longest + 1
  pub few : h.directory.count ≤ most_tables
  pub few_cars : h.cars ≤ most_car_lines
  pub few_strikes : h.struck ≤ most_strikes
  pub owing : 0 < h.owed → Owing h.owed h.directory

abbrev pub SoundReader : ℕ → Reader → List ℕ → List ℕ → Type 0
SoundReader bytes h levels capacities = Sound bytes h.at h.line h.owed (tables_of h.directory levels capacities) h.cars h.struck

-- h past some rows of table k, of which `rows` are read now
abbrev pub reader_at : Reader → ℕ → ℕ → ℕ → ℕ → ℕ → Reader
reader_at h at line owed k rows =
    record {
      at = at;
      line = line;
      owed = owed;
      cars = h.cars;
      struck = h.struck;
      directory = record { count = h.directory.count; types = h.directory.types; rows = set h.directory.rows k rows };
    }

-- a row stored in two lists that have its place
pub record Stored (levels capacities levels' capacities' : List ℕ) (place level capacity : ℕ) : Type 0 where
  pub first : levels' ≡ set levels place level
  pub second : capacities' ≡ set capacities place capacity
  pub in_levels : place < length levels
  pub in_capacities : place < length capacities
