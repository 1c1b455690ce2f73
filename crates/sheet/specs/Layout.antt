-- What reading a sheet hands back, and what is held in the arrays then.
use Rattle.std.specs.Prelude.{ℕ, Ok, Err, ◌+◌, ◌≤◌, ◌≡◌, List}
use Rattle.base.specs.Limits.{most_car_lines, most_strikes}
use Rattle.table.specs.Layout.{tables_of}
use Rattle.table.specs.Inner.{Good}
use Rattle.grammar.specs.Grammar.{cars_in, strikes_in, EachLine}
use Rattle.grammar.specs.Sheet.{SheetRead}
use Rattle.grammar.specs.ByGrammar.{Refusal}
use Rattle.base.specs.Refusal.{refusal_number}
use Rattle.holding.specs.declared.LineRefusal.{LineRefusal}
use Rattle.holding.specs.Layout.{history_of, outcome_told}
use Rattle.sheet.specs.declared.Contents.{Contents}

-- what the contents tell
abbrev pub read_in : Contents → List ℕ → List ℕ → List ℕ → SheetRead
read_in r levels capacities fields = outcome_told r.outcome (tables_of r.directory levels capacities) (history_of fields (r.cars + r.struck))

-- What is held once s was read. Of a whole sheet: its tables and the lines behind them, as they must be. Beside a refusal: those that were read before it.
-- Places of the arrays that none of these have are free.
pub record Held (s : List ℕ) (r : Contents) (levels capacities fields : List ℕ) : Type 0 where
  pub good : r.outcome ≡ Ok tt → Good r.directory levels capacities
  pub few_cars : r.outcome ≡ Ok tt → cars_in (history_of fields (r.cars + r.struck)) ≤ most_car_lines
  pub few_strikes : r.outcome ≡ Ok tt → strikes_in (history_of fields (r.cars + r.struck)) ≤ most_strikes
  pub each : r.outcome ≡ Ok tt → EachLine (history_of fields (r.cars + r.struck))
  pub before : (why : LineRefusal) → r.outcome ≡ Err why → Refusal s why.line (refusal_number why.refusal) (tables_of r.directory levels capacities) (history_of fields (r.cars + r.struck))
