-- How tables, a car and given errors lie in lent slices, the lengths that these must have, and how the permitted error is handed over.
use Rattle.std.specs.Prelude.{ℕ, ◌≡◌, Bool, true, ◌&&◌, List, Float}
use Rattle.base.specs.Limits.{most_tables}
use Rattle.base.specs.Answer.{Answer}
use Rattle.table.specs.declared.Directory.{Directory}
use Rattle.table.specs.Table.{Table}
use Rattle.table.specs.Layout.{places, tables_of}
use Rattle.probe_spec.specs.declared.ProbeSet.{ProbeSet}
use Rattle.car.specs.Car.{Intake}
use Rattle.accuracy.specs.declared.Errors.{Errors}
use Rattle.accuracy.specs.Permitted.{OnlyAnswer}
use Rattle.marshalling.specs.Handed.{length_is, sized, Handed, figures_left}

abbrev pub directory_of : ℕ → List ℕ → List ℕ → Directory
directory_of count types rows = record { count = count; types = types; rows = rows }

-- so many tables, by their types, how many rows each has, and the places of levels and capacities
abbrev pub tables_lent : ℕ → List ℕ → List ℕ → List ℕ → List ℕ → List Table
tables_lent count types rows levels capacities = tables_of (directory_of count types rows) levels capacities

unfoldable pub tables_sized : List ℕ → List ℕ → List ℕ → List ℕ → Bool
tables_sized types rows levels capacities =
    length_is most_tables types && length_is most_tables rows && length_is places levels && length_is places capacities

-- a probe's set by three floats
abbrev pub set_of : Float → Float → Float → ProbeSet
set_of level temperature density = record { level = level; temperature = temperature; density = density }

-- A car by so many numbers, with its tables, and its six figures in the order of an A line.

-- of a probe's car
abbrev pub probe_fields : ℕ
probe_fields = 7

abbrev pub figure_count : ℕ
figure_count = 6

unfoldable pub car_sized : ℕ → List ℕ → List ℕ → List ℕ → List ℕ → List ℕ → List ℕ → Bool
car_sized fields types rows levels capacities car figures =
    length_is fields car && length_is figure_count figures && tables_sized types rows levels capacities

-- The same with the six errors, and the six figures, the limit, and 1 where it is within, 0 where not.

abbrev pub error_count : ℕ
error_count = 6

abbrev pub permitted_count : ℕ
permitted_count = 8

unfoldable pub permitted_sized : ℕ → List ℕ → List ℕ → List ℕ → List ℕ → List ℕ → List ℕ → List ℕ → Bool
permitted_sized fields types rows levels capacities car errors figures =
    length_is fields car && length_is error_count errors && length_is permitted_count figures && tables_sized types rows levels capacities

-- where every length is right, the only answer there is, handed over by the number r and in the lent figures; else the number of a wrong length,
-- and the figures as they were lent
pub record PermittedHanded (right : Bool) (ts : List Table) (c : Intake) (e : Errors) (r : ℕ) (lent left : List ℕ) : Type 0 where
  pub answer : Answer
  pub only : right ≡ true → OnlyAnswer ts c e answer
  pub handed : Handed figures_left (sized right answer) r lent left
