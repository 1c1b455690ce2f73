-- A worked example, computed: a train as a caller finds it in the lent numbers.
use Prim.Native.Nat.{ℕ}
use mathlib.Core.Path.{◌≡◌, refl}
use mathlib.Core.List.{List, [], ◌∷◌, ◌++◌}
use lib.ListN.{replicate}
use Rattle.consist.specs.Train.{Train}
use Rattle.trainslice.specs.Layout.{train_numbers, train_of, train_places}

-- of all cars 5 · 2³² + 7 kg and 2³² + 6 kg, each as a low and a high half; each grade's totals in their place
abbrev example : Train
example = record {
  sums = record {
    all = record { accepted = 3; gross = 21_474_836_487; net = 4_294_967_302 };
    grades = record { accepted = 1; gross = 13; net = 12 } ∷ record { accepted = 2; gross = 23; net = 22 } ∷ record { accepted = 3; gross = 33; net = 32 }
        ∷ record { accepted = 4; gross = 43; net = 8_589_934_634 } ∷ [];
  };
  held = 2;
  numbers = 11 ∷ 12 ∷ replicate 58 0;
  grades = 3 ∷ 0 ∷ replicate 58 0;
  grosses = 33 ∷ 0 ∷ replicate 58 0;
  nets = 32 ∷ 0 ∷ replicate 58 0;
}

abbrev example_numbers : List ℕ
example_numbers =
    3 ∷ 7 ∷ 5 ∷ 6 ∷ 1
    ∷ 1 ∷ 13 ∷ 0 ∷ 12 ∷ 0
    ∷ 2 ∷ 23 ∷ 0 ∷ 22 ∷ 0
    ∷ 3 ∷ 33 ∷ 0 ∷ 32 ∷ 0
    ∷ 4 ∷ 43 ∷ 0 ∷ 42 ∷ 2
    ∷ 2
    ∷ 11 ∷ 12 ∷ (replicate 58 0 ++ (3 ∷ 0 ∷ (replicate 58 0 ++ (33 ∷ 0 ∷ (replicate 58 0 ++ (32 ∷ 0 ∷ replicate 58 0))))))

train_lent : train_numbers example ≡ example_numbers
train_lent = refl

train_read : train_of example_numbers ≡ example
train_read = refl

train_places_lem : train_places ≡ 266
train_places_lem = refl
