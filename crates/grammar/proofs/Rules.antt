-- What a line of each letter brings, by its tests; the last table of a list, and the C and K lines of a history.
use Prim.Native.Nat.{ℕ, ◌+◌, ◌-◌}
use mathlib.Core.Path.{◌≡◌, refl, ap}
use mathlib.Core.Bool.{true, false}
use mathlib.Core.List.{List, [], ◌∷◌, ◌++◌}
use native.Mathlib.Omega.{arith}
use lib.Dec.{leb, eqb}
use lib.ListN.{length}
use Rattle.reading.specs.declared.letter.Letter.TheVariants.{Table as T, Row as R, Car as C, Strike as K}
use Rattle.base.specs.Limits.{most_car_lines, most_strikes}
use Rattle.table.specs.Table.{Row, Table, table_line_bad, row_bad}
use Rattle.grammar.specs.Grammar.{TrainLine, enters, strikes, cars_in, strikes_in, kinds, last_rows}
use Rattle.grammar.specs.Sheet.{State, refused_here, past, with_row, table_line, row_line, car_line, strike_line, end_line}

module _ (st : State) where
  pub table_refused : (kind rows : ℕ) → table_line_bad (kinds st.tables) kind rows ≡ true → refused_here st 7 ≡ table_line st kind rows
  unfolding table_line
  table_refused kind rows e = rw e

  pub table_taken : (kind rows : ℕ) (ts : List Table) → table_line_bad (kinds st.tables) kind rows ≡ false → ts ≡ st.tables ++ (record { kind = kind; rows = [] } ∷ [])
      → past T st rows ts st.cars st.struck st.history ≡ table_line st kind rows
  unfolding table_line
  table_taken kind rows ts e p = rw (e, p)

  pub row_refused : (row : Row) → row_bad (last_rows st.tables) row ≡ true → refused_here st 8 ≡ row_line st row
  unfolding row_line
  row_refused row e = rw e

  pub row_taken : (row : Row) (ts : List Table) → row_bad (last_rows st.tables) row ≡ false → ts ≡ with_row st.tables row
      → past R st (st.owed - 1) ts st.cars st.struck st.history ≡ row_line st row
  unfolding row_line
  row_taken row ts e p = rw (e, p)

  pub car_refused : (numbers : List ℕ) → leb most_car_lines st.cars ≡ true → refused_here st 9 ≡ car_line st numbers
  unfolding car_line
  car_refused numbers e = rw e

  pub car_taken : (numbers : List ℕ) (more : List TrainLine) → leb most_car_lines st.cars ≡ false → more ≡ st.history ++ (enters numbers ∷ [])
      → past C st st.owed st.tables (st.cars + 1) st.struck more ≡ car_line st numbers
  unfolding car_line
  car_taken numbers more e p = rw (e, p)

  pub strike_refused : (number : ℕ) → leb most_strikes st.struck ≡ true → refused_here st 9 ≡ strike_line st number
  unfolding strike_line
  strike_refused number e = rw e

  pub strike_taken : (number : ℕ) (more : List TrainLine) → leb most_strikes st.struck ≡ false → more ≡ st.history ++ (strikes number ∷ [])
      → past K st st.owed st.tables st.cars (st.struck + 1) more ≡ strike_line st number
  unfolding strike_line
  strike_taken number more e p = rw (e, p)

  pub end_refused : (bytes count : ℕ) → eqb count st.cars ≡ false → refused_here st 9 ≡ end_line bytes st count
  unfolding end_line
  end_refused bytes count e = rw e

-- The last of a list.

pub with_row_last : (ts : List Table) (t : Table) (row : Row) → with_row (ts ++ (t ∷ [])) row ≡ ts ++ (record { kind = t.kind; rows = t.rows ++ (row ∷ []) } ∷ [])
with_row_last [] t row = refl
with_row_last (u ∷ []) t row = refl
with_row_last (u ∷ v ∷ ts) t row = ap (λ (x : List Table). u ∷ x) (with_row_last (v ∷ ts) t row)

pub last_rows_last : (ts : List Table) (t : Table) → last_rows (ts ++ (t ∷ [])) ≡ t.rows
last_rows_last [] t = refl
last_rows_last (u ∷ []) t = refl
last_rows_last (u ∷ v ∷ ts) t = last_rows_last (v ∷ ts) t

-- The C and K lines of a history.

-- every line is one or the other
pub lines_all : (history : List TrainLine) → cars_in history + strikes_in history ≡ length history
lines_all [] = refl
lines_all (enters numbers ∷ history) = omega (arith, lines_all history)
lines_all (strikes number ∷ history) = omega (arith, lines_all history)

pub cars-append : (a b : List TrainLine) → cars_in (a ++ b) ≡ cars_in a + cars_in b
cars-append [] b = omega arith
cars-append (enters numbers ∷ a) b = omega (arith, cars-append a b)
cars-append (strikes number ∷ a) b = cars-append a b

pub strikes-append : (a b : List TrainLine) → strikes_in (a ++ b) ≡ strikes_in a + strikes_in b
strikes-append [] b = omega arith
strikes-append (enters numbers ∷ a) b = strikes-append a b
strikes-append (strikes number ∷ a) b = omega (arith, strikes-append a b)

-- one line more, of either letter
pub cars_more : (history : List TrainLine) (numbers : List ℕ) → cars_in (history ++ (enters numbers ∷ [])) ≡ cars_in history + 1
cars_more history numbers = cars-append history (enters numbers ∷ [])

pub cars_kept : (history : List TrainLine) (number : ℕ) → cars_in (history ++ (strikes number ∷ [])) ≡ cars_in history
cars_kept history number = omega (arith, cars-append history (strikes number ∷ []))

pub strikes_kept : (history : List TrainLine) (numbers : List ℕ) → strikes_in (history ++ (enters numbers ∷ [])) ≡ strikes_in history
strikes_kept history numbers = omega (arith, strikes-append history (enters numbers ∷ []))

pub strikes_more : (history : List TrainLine) (number : ℕ) → strikes_in (history ++ (strikes number ∷ [])) ≡ strikes_in history + 1
strikes_more history number = strikes-append history (strikes number ∷ [])
