-- Worked examples, computed: the lengths of the slices of a car, dipped and probed, alone and with given errors, right and wrong by one in each.
use Prim.Native.Nat.{ℕ}
use mathlib.Core.Path.{◌≡◌, refl}
use mathlib.Core.Bool.{Bool, true, false}
use lib.ListN.{replicate}
use Rattle.reading.specs.Letter.{most_fields}
use Rattle.marshalling.specs.Layout.{tables_sized, probe_fields, car_sized, permitted_sized}

-- whether these lengths of types, levels, car and figures, and of errors, are taken of a car of so many numbers
abbrev taken : ℕ → ℕ → ℕ → ℕ → ℕ → Bool
taken fields types levels car figures =
    car_sized fields (replicate types 0) (replicate 4 0) (replicate levels 0) (replicate 1_600 0) (replicate car 0) (replicate figures 0)

abbrev taken_with : ℕ → ℕ → ℕ → ℕ → ℕ → ℕ → Bool
taken_with fields types levels car errors figures =
    permitted_sized fields (replicate types 0) (replicate 4 0) (replicate levels 0) (replicate 1_600 0) (replicate car 0) (replicate errors 0) (replicate figures 0)

car_right : (taken most_fields 4 1_600 14 6 ≡ true) × (taken probe_fields 4 1_600 7 6 ≡ true)
unfolding car_sized tables_sized
car_right = (refl, refl)

car_wrong : (taken most_fields 4 1_600 13 6 ≡ false) × (taken most_fields 4 1_600 14 7 ≡ false) × (taken probe_fields 4 1_600 14 6 ≡ false) × (taken probe_fields 4 1_600 8 6 ≡ false)
unfolding car_sized tables_sized
car_wrong = (refl, refl, refl, refl)

permitted_right : (taken_with most_fields 4 1_600 14 6 8 ≡ true) × (taken_with probe_fields 4 1_600 7 6 8 ≡ true)
unfolding permitted_sized tables_sized
permitted_right = (refl, refl)

permitted_wrong : (taken_with most_fields 4 1_600 13 6 8 ≡ false) × (taken_with most_fields 4 1_600 14 7 8 ≡ false) × (taken_with most_fields 4 1_600 14 6 9 ≡ false) × (taken_with most_fields 5 1_600 14 6 8 ≡ false) × (taken_with most_fields 4 1_599 14 6 8 ≡ false) × (taken_with probe_fields 4 1_600 14 6 8 ≡ false)
unfolding permitted_sized tables_sized
permitted_wrong = (refl, refl, refl, refl, refl, refl)
