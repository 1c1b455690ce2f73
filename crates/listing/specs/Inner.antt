-- What inner functions of the listing ask for; it is no part of what a listing means.
use Rattle.std.specs.Prelude.{ℕ, ◌+◌, ◌≤◌, List}
use Rattle.base.specs.Limits.{most_car_lines, most_strikes}
use Rattle.table.specs.declared.Tables.{Tables}
use Rattle.table.specs.Inner.{GoodTables}
use Rattle.table.specs.Table.{Table}
use Rattle.consist.specs.Book.{Item}
use Rattle.holding.specs.Layout.{line_in, line_numbers, history_of}
use Rattle.grammar.specs.Grammar.{cars_in, strikes_in, EachLine}
use Rattle.answers.specs.Listing.{item_of, least_buffer}

-- the item that line i behind the tables is
abbrev pub item_at : List Table → List ℕ → ℕ → Item
item_at ts fields i = item_of ts (line_in (line_numbers fields i))

-- tables to which neither 7 nor 8 applies, at most 120 C lines and sixty K lines behind them, each of numbers that a field holds, and room for their listing
pub record Ready (t : Tables) (fields : List ℕ) (lines room : ℕ) : Type 0 where
  pub good : GoodTables t
  pub few : lines ≤ most_car_lines + most_strikes
  pub few_cars : cars_in (history_of fields lines) ≤ most_car_lines
  pub few_strikes : strikes_in (history_of fields lines) ≤ most_strikes
  pub each : EachLine (history_of fields lines)
  pub space : least_buffer ≤ room
