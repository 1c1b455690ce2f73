-- The cars, and the bytes of the tables, that entries stand for, of the first sheet or of the second; it is no part of what a merged sheet means.
use Rattle.std.specs.Prelude.{ℕ, zero, suc, ◌+◌, ◌-◌, ◌*◌, ◌%◌, ◌≤◌, ◌<◌, cond, List, [], ◌∷◌, ◌++◌, map, ltb, length, get_or, take, drop}
use Rattle.base.specs.Limits.{most_tables, most_rows, most_car_lines, most_strikes}
use Rattle.base.specs.Lists.{Each}
use Rattle.reading.specs.declared.letter.Letter.TheVariants.{Table as T, Row as R}
use Rattle.reading.specs.declared.letter.Line.{Line}
use Rattle.reading.specs.Letter.{width_of}
use Rattle.grammar.specs.Text.{text_of}
use Rattle.grammar.specs.Grammar.{c_line, CarNumbers}
use Rattle.merge_order.specs.Inner.{half_span, place_of, car_in}
use Rattle.merge_lines.specs.declared.read.ReadSheet.{ReadSheet}

-- Cars.

-- the car at a place: the first sheet's from 0 on, the second's from 256 on
abbrev pub car_place : ReadSheet → ReadSheet → ℕ → List ℕ
car_place first second p = cond (ltb p half_span) (car_in first.fields.now p) (car_in second.fields.now (p - half_span))

-- a place of a line that its sheet may have
abbrev pub Stands : ℕ → Type 0
Stands p = p % half_span < most_car_lines + most_strikes

abbrev pub car_by : ReadSheet → ReadSheet → ℕ → List ℕ
car_by first second entry = car_place first second (place_of entry)

-- the cars of entries, and their lines
abbrev pub cars_with : ReadSheet → ReadSheet → List ℕ → List (List ℕ)
cars_with first second order = map (car_by first second) order

abbrev pub car_lines : ReadSheet → ReadSheet → List ℕ → List Line
car_lines first second order = map c_line (cars_with first second order)

-- what is asked for to write them from `at` on in so many bytes
pub record CarsReady (first second : ReadSheet) (order : List ℕ) (at room : ℕ) : Type 0 where
  pub places : Each (λ entry. Stands (place_of entry)) order
  pub each : Each CarNumbers (cars_with first second order)
  pub space : at + length (text_of (car_lines first second order)) ≤ room

-- Tables.

-- how many bytes table k of a sheet has, its T line and its R lines, and how many stand before it
abbrev pub table_bytes : List ℕ → ℕ → ℕ
table_bytes rows k = width_of T + width_of R * get_or rows k 0

abbrev pub start_of : List ℕ → ℕ → ℕ
start_of rows zero = 0
start_of rows (suc k) = start_of rows k + table_bytes rows k

-- those bytes
abbrev pub table_text : ReadSheet → ℕ → List ℕ
table_text s k = take (table_bytes s.tables.rows k) (drop (start_of s.tables.rows k) s.text.now)

-- table k ends within the text, and it and those before it have no more rows than a table may
pub record Within (s : ReadSheet) (k : ℕ) : Type 0 where
  pub rows : (j : ℕ) → j ≤ k → get_or s.tables.rows j 0 ≤ most_rows
  pub ends : start_of s.tables.rows k + table_bytes s.tables.rows k ≤ length s.text.now

-- of the table at a place, the first sheet's from 0 on, the second's from 4 on
abbrev pub text_place : ReadSheet → ReadSheet → ℕ → List ℕ
text_place first second p = cond (ltb p most_tables) (table_text first p) (table_text second (p - most_tables))

pub record WithinPlace (first second : ReadSheet) (p : ℕ) : Type 0 where
  pub place : p < most_tables + most_tables
  pub ours : p < most_tables → Within first p
  pub theirs : most_tables ≤ p → Within second (p - most_tables)

-- of all tables of entries, one after another
abbrev pub tables_text : ReadSheet → ReadSheet → List ℕ → List ℕ
tables_text first second [] = []
tables_text first second (entry ∷ order) = text_place first second (place_of entry) ++ tables_text first second order

-- what is asked for to copy those of the entries to the place `at` of so many bytes
pub record TablesReady (first second : ReadSheet) (order : List ℕ) (at room : ℕ) : Type 0 where
  pub within : Each (λ entry. WithinPlace first second (place_of entry)) order
  pub space : at + length (tables_text first second order) ≤ room
