-- What the tests of the lengths of tables, of a car and of given errors tell, and tables by what was copied of them.
use Prim.Native.Nat.{ℕ}
use mathlib.Core.Path.{◌≡◌}
use mathlib.Core.Bool.{true}
use mathlib.Core.List.{List}
use lib.ListN.{length}
use borrow.Author.Tests.{eqb-true}
use Rattle.base.specs.Limits.{most_tables}
use Rattle.base.proofs.Choice.{both_hold}
use Rattle.table.specs.declared.Directory.{Directory}
use Rattle.table.specs.Layout.{places, tables_of}
use Rattle.marshalling.specs.Layout.{directory_of, tables_lent, tables_sized, figure_count, car_sized, error_count, permitted_count, permitted_sized}

-- the lengths of tables
abbrev pub TablesRight : List ℕ → List ℕ → List ℕ → List ℕ → Type 0
TablesRight types rows levels capacities =
    (length types ≡ most_tables) × (length rows ≡ most_tables) × (length levels ≡ places) × (length capacities ≡ places)

pub tables_right : (types rows levels capacities : List ℕ) → tables_sized types rows levels capacities ≡ true → TablesRight types rows levels capacities
unfolding tables_sized
tables_right types rows levels capacities e =
    let last = both_hold _ _ e in
    let third = both_hold _ _ last.0 in
    let first = both_hold _ _ third.0 in
    (eqb-true _ _ first.0, eqb-true _ _ first.1, eqb-true _ _ third.1, eqb-true _ _ last.1)

-- the lengths of a car of so many numbers with its tables
abbrev pub CarRight : ℕ → List ℕ → List ℕ → List ℕ → List ℕ → List ℕ → List ℕ → Type 0
CarRight fields types rows levels capacities car figures =
    (length car ≡ fields) × (length figures ≡ figure_count) × TablesRight types rows levels capacities

pub car_right : (fields : ℕ) (types rows levels capacities car figures : List ℕ) → car_sized fields types rows levels capacities car figures ≡ true
    → CarRight fields types rows levels capacities car figures
unfolding car_sized
car_right fields types rows levels capacities car figures e =
    let last = both_hold _ _ e in
    let first = both_hold _ _ last.0 in
    (eqb-true _ _ first.0, eqb-true _ _ first.1, tables_right types rows levels capacities last.1)

-- the same with given errors
abbrev pub PermittedRight : ℕ → List ℕ → List ℕ → List ℕ → List ℕ → List ℕ → List ℕ → List ℕ → Type 0
PermittedRight fields types rows levels capacities car errors figures =
    (length car ≡ fields) × (length errors ≡ error_count) × (length figures ≡ permitted_count) × TablesRight types rows levels capacities

pub permitted_lengths : (fields : ℕ) (types rows levels capacities car errors figures : List ℕ) → permitted_sized fields types rows levels capacities car errors figures ≡ true
    → PermittedRight fields types rows levels capacities car errors figures
unfolding permitted_sized
permitted_lengths fields types rows levels capacities car errors figures e =
    let last = both_hold _ _ e in
    let third = both_hold _ _ last.0 in
    let first = both_hold _ _ third.0 in
    (eqb-true _ _ first.0, eqb-true _ _ first.1, eqb-true _ _ third.1, tables_right types rows levels capacities last.1)
