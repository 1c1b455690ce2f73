-- What inner functions ask for and answer; it is no part of what a train means.
use Rattle.std.specs.Prelude.{ℕ, ◌≤◌, ◌≡◌, false, List, [], ◌∷◌, ◌++◌, Result, Ok, Err, leb, length, take}
use Rattle.base.specs.Limits.{most_cars}
use Rattle.base.specs.Answer.{Test, refuse_if}
use Rattle.base.specs.Numbers.{member}
use Rattle.table.specs.Table.{Table, tables_tests}
use Rattle.base.specs.declared.refusal.Refusal.{Refusal}
use Rattle.car.specs.declared.Figures.{Figures}
use Rattle.car.specs.Car.{number_tests}
use Rattle.summing.specs.declared.Sums.{Sums}
use Rattle.summing.specs.Sums.{sums_of, sums_with}
use Rattle.summing.specs.Inner.{Sound, shown_as}
use Rattle.consist.specs.Train.{Train, empty_train, held_by, Held, refused, weighed, cars_of, shown_in, twice, unsound, with_number, with_masses}
use Rattle.consist.specs.Book.{Item}
use Rattle.consist.specs.Demand3.{train_from}

-- 9 to 11 of a train whose sums are sound
abbrev pub place_tests : ℕ → List ℕ → ℕ → List Test
place_tests held numbers number = refuse_if 9 (leb most_cars held) ∷ (number_tests number ++ (refuse_if 11 (member number (take held numbers)) ∷ []))

-- 7 and 8, and what 9 says of a train but for its sixty numbers
abbrev pub bar_tests : List Table → Train → List Test
bar_tests ts t = tables_tests ts ++ (refuse_if 9 (unsound t) ∷ [])

-- a train with sixty places
pub record Sixty (t : Train) : Type 0 where
  pub numbers : length t.numbers ≡ most_cars
  pub grades : length t.grades ≡ most_cars
  pub grosses : length t.grosses ≡ most_cars
  pub nets : length t.nets ≡ most_cars

-- what is known of a train that 9 does not turn away
pub record SoundTrain (t : Train) : Type 0 where
  pub place : t.held ≤ most_cars
  pub once : twice (held_by t) ≡ false
  pub sums : Sound t.sums
  pub made : t.sums ≡ sums_of (shown_in (cars_of t))

-- the sums with a held car
abbrev pub sums_more : Sums → Held → Sums
sums_more sums (refused number) = sums
sums_more sums (weighed number s) = sums_with sums s

-- a train that some list of cars and strikes hands back
pub record Reached (t : Train) : Type 0 where
  pub items : List Item
  pub is : t ≡ train_from empty_train items

-- the train with a car's answer added, once no refusal up to 11 applies
abbrev pub with_answer : Train → ℕ → ℕ → Result Figures Refusal → Train
with_answer t number grade (Ok f) = with_masses t number (shown_as grade f.gross f.net)
with_answer t number grade (Err r) = with_number t number
