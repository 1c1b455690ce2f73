-- What is kept while a sheet is read; it is no part of what a sheet means.
use Rattle.std.specs.Prelude.{ℕ, ◌+◌, ◌≤◌, ◌<◌, ◌≡◌, List, [], length, take}
use Rattle.base.specs.Limits.{most_car_lines, most_strikes}
use Rattle.table.specs.Table.{Table}
use Rattle.grammar.specs.Text.{text_of}
use Rattle.grammar.specs.Grammar.{cars_in, strikes_in, EachLine, lines_begun, Passed}
use Rattle.grammar.specs.Sheet.{State, read_from}

-- a place in a sheet of so many bytes
pub record Sound (bytes at line owed : ℕ) (tables : List Table) (cars struck : ℕ) : Type 0 where
  pub within : at ≤ bytes
  pub number : line ≤ at + 1
  pub passed : Passed [] tables owed
  pub few_cars : cars ≤ most_car_lines
  pub few_strikes : struck ≤ most_strikes

abbrev pub SoundState : ℕ → State → Type 0
SoundState bytes st = Sound bytes st.at st.line st.owed st.tables st.cars st.struck

-- the C lines and the K lines behind the tables are counted
pub record Counted (st : State) : Type 0 where
  pub cars : st.cars ≡ cars_in st.history
  pub struck : st.struck ≡ strikes_in st.history

-- each line there is as it must be, and they are counted
pub record Recorded (st : State) : Type 0 where
  pub each : EachLine st.history
  pub counted : Counted st

-- the bytes before the place are the lines that were read, and these are the beginning of a sheet
pub record LinesRead (s : List ℕ) (st : State) : Type 0 where
  pub bytes : take st.at s ≡ text_of (lines_begun st.tables st.owed st.history)
  pub number : st.line ≡ 1 + length (lines_begun st.tables st.owed st.history)
  pub behind : 0 < length st.history → (st.owed ≡ 0) × (0 < length st.tables)
  pub recorded : Recorded st

-- from a to b the reading only went on: what the lines from b on bring is what those from a on do
pub record Onward (s : List ℕ) (a b : State) : Type 0 where
  pub sound : SoundState (length s) b
  pub further : a.at ≤ b.at
  pub same : read_from s b ≡ read_from s a
  pub read : LinesRead s a → LinesRead s b
