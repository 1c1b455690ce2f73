-- What the tests of the lengths of a train and of a car with its tables tell: of which one is wrong, or all are right.
use Prim.Native.Nat.{ℕ}
use mathlib.Core.Path.{◌≡◌, ap, ◌∙◌}
use mathlib.Core.Bool.{Bool, true, false, ◌&&◌}
use mathlib.Core.List.{List}
use Rattle.marshalling.specs.Handed.{length_is}
use Rattle.marshalling.specs.Layout.{car_sized}
use Rattle.trainslice.specs.Layout.{train_places, train_sized}

module _ (fields : ℕ) (train types rows levels capacities car figures : List ℕ) where
  pub train_wrong : length_is train_places train ≡ false → train_sized fields train types rows levels capacities car figures ≡ false
  unfolding train_sized
  train_wrong e = ap (λ (b : Bool). b && car_sized fields types rows levels capacities car figures) e

  pub train_sized_lem : {b : Bool} → length_is train_places train ≡ true → car_sized fields types rows levels capacities car figures ≡ b
      → train_sized fields train types rows levels capacities car figures ≡ b
  unfolding train_sized
  train_sized_lem e f = ap (λ (b : Bool). b && car_sized fields types rows levels capacities car figures) e ∙ f
