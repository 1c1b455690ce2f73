-- Trains that are handed in, with a car and with a strike: what 9 says of them, which of two faults is given first, and what a strike leaves.
use Rattle.std.specs.Prelude.{ℕ, zero, suc, ◌≡◌, List, [], ◌∷◌}
use Rattle.base.specs.Limits.{most_cars}
use Rattle.base.specs.Answer.{Answer, figures, refusal}
use Rattle.base.specs.Lists.{Each}
use Rattle.table.specs.Table.{Table}
use Rattle.car.specs.Card.{card_tables}
use Rattle.car.specs.Car.{Intake}
use Rattle.summing.specs.declared.Totals.{Totals}
use Rattle.summing.specs.declared.Sums.{Sums}
use Rattle.summing.specs.Sums.{totals_from, no_totals}
use Rattle.consist.specs.Train.{Train, empty_train, enter_answer, enter_train, strike_answer, strike_train}
use Rattle.consist.specs.Examples.{example_car, bad_tables, sums_from}
use Rattle.consist.specs.StrikeExamples.{train_of}

abbrev no_cars : Sums
no_cars = sums_from no_totals no_totals no_totals no_totals no_totals

-- all cars of grade 3
abbrev of_three : Totals → Sums
of_three t = sums_from t no_totals no_totals t no_totals

-- so many refused cars, the first of this number
abbrev pub of_number : ℕ → ℕ → Train
of_number held number = train_of no_cars held (number ∷ []) [] [] []

-- the numbers from n down to 1
abbrev up_to : ℕ → List ℕ
up_to zero = []
up_to (suc n) = suc n ∷ up_to n

-- sixty refused cars
abbrev pub sixty : Train
sixty = train_of no_cars most_cars (up_to most_cars) [] [] []

-- an accepted car 1 of grade 3 and a refused car 2, with sums
abbrev two : Sums → Train
two sums = train_of sums 2 (1 ∷ 2 ∷ []) (3 ∷ 0 ∷ []) (100 ∷ 7 ∷ []) (90 ∷ 7 ∷ [])

abbrev sound_two : Train
sound_two = two (of_three (totals_from 1 100 90))

-- totals of exactly 12,000,000 kg
abbrev heaviest : Train
heaviest = train_of (of_three (totals_from 1 12_000_000 12_000_000)) 1 (1 ∷ []) (3 ∷ []) (12_000_000 ∷ []) (12_000_000 ∷ [])

-- trains that are not sound
unfoldable pub unsound_trains : List Train
unsound_trains =
    -- more than sixty numbers, a number twice
    train_of no_cars 61 (up_to most_cars) [] [] []
    ∷ train_of no_cars 3 (5 ∷ 6 ∷ 5 ∷ []) [] [] []
    -- more than sixty accepted cars, which so few held cars do not make either; a total above 12,000,000 kg
    ∷ two (of_three (totals_from 61 100 90))
    ∷ train_of (of_three (totals_from 1 12_000_001 90)) 1 (1 ∷ []) (3 ∷ []) (12_000_001 ∷ []) (90 ∷ [])
    ∷ train_of (of_three (totals_from 1 90 12_000_001)) 1 (1 ∷ []) (3 ∷ []) (90 ∷ []) (12_000_001 ∷ [])
    -- a count, a gross and a net that its held cars do not make; no sums beside an accepted car
    ∷ two (of_three (totals_from 2 100 90))
    ∷ two (of_three (totals_from 1 101 90))
    ∷ two (of_three (totals_from 1 100 91))
    ∷ two no_cars
    -- those of a grade: the totals of all are the held cars', and are the grades' together, but a count, a gross, a net, or all stand with another grade
    ∷ two (sums_from (totals_from 1 100 90) no_totals no_totals (totals_from 0 100 90) (totals_from 1 0 0))
    ∷ two (sums_from (totals_from 1 100 90) no_totals no_totals (totals_from 1 0 90) (totals_from 0 100 0))
    ∷ two (sums_from (totals_from 1 100 90) no_totals no_totals (totals_from 1 100 0) (totals_from 0 0 90))
    ∷ two (sums_from (totals_from 1 100 90) no_totals no_totals no_totals (totals_from 1 100 90))
    -- a held car of no grade that there is: the totals of all are not the grades' together
    ∷ train_of (sums_from (totals_from 1 100 90) no_totals no_totals no_totals no_totals) 1 (1 ∷ []) (5 ∷ []) (100 ∷ []) (90 ∷ [])
    -- masses that make the gross, and totals of grades that make those of all, only where 2³² or 2⁶⁴ is left out
    ∷ train_of (of_three (totals_from 2 104 90)) 2 (1 ∷ 2 ∷ []) (3 ∷ 3 ∷ []) (4_294_967_295 ∷ 105 ∷ []) (45 ∷ 45 ∷ [])
    ∷ two (sums_from (totals_from 1 100 90) (totals_from 0 9_223_372_036_854_775_808 0) (totals_from 0 9_223_372_036_854_775_808 0) (totals_from 1 100 90) no_totals)
    ∷ []

pub record Entered : Type 0 where
  pub answer : Answer
  pub expected : ℕ

abbrev on : List Table → Train → Intake → ℕ → Entered
on ts t c n = record { answer = enter_answer ts t c; expected = n }

unfoldable pub entered_cars : List Entered
entered_cars =
    -- 8 before 9, 9 before 10, 10 before 11 (of numbers that no list of cars holds), 11 before 12
    on bad_tables sixty (example_car 0 1 600) 8
    ∷ on card_tables sixty (example_car 0 1 600) 9
    ∷ on card_tables (of_number 1 0) (example_car 0 1 600) 10
    ∷ on card_tables (of_number 1 100_000_000) (example_car 100_000_000 1 600) 10
    ∷ on card_tables (of_number 1 5) (example_car 5 2 600) 11
    -- 9 at sixty numbers, also for one that it holds; a sound train goes on to 12, also at exactly 12,000,000 kg
    ∷ on card_tables sixty (example_car 5 2 600) 9
    ∷ on card_tables sound_two (example_car 5 2 600) 12
    ∷ on card_tables heaviest (example_car 5 2 600) 12
    ∷ []

pub record EnterOrder : Type 0 where
  pub each : Each (λ e. e.answer ≡ refusal e.expected) entered_cars
  pub nine : Each (λ t. (enter_answer card_tables t (example_car 0 2 600) ≡ refusal 9) × (enter_train card_tables t (example_car 0 2 600) ≡ t)) unsound_trains

pub record StrikeOrder : Type 0 where
  -- 9 before 30, and the train as it was
  pub nine : Each (λ t. (strike_answer t 77 ≡ refusal 9) × (strike_train t 77 ≡ t)) unsound_trains
  -- 30, also for the number 0 of free places and one that no line can show, and the train as it was
  pub thirty : Each (λ n. (strike_answer sound_two n ≡ refusal 30) × (strike_train sound_two n ≡ sound_two)) (77 ∷ 0 ∷ 4_000_000_000 ∷ [])
  pub empty : strike_answer empty_train 0 ≡ refusal 30
  -- sixty numbers do not bar a strike, nor do totals of exactly 12,000,000 kg
  pub full : strike_answer sixty 60 ≡ figures (60 ∷ [])
  pub most : strike_answer heaviest 1 ≡ figures (1 ∷ [])
  -- numbers that no car may have, where a train handed in holds them
  pub none : strike_answer (of_number 1 0) 0 ≡ figures (0 ∷ [])
  pub long : strike_answer (of_number 1 100_000_000) 100_000_000 ≡ figures (100_000_000 ∷ [])
  -- an accepted car leaves with its masses, a refused one alone; later places move up, those past the held ones too, and the last becomes 0
  pub accepted : strike_train sound_two 1 ≡ train_of no_cars 1 (2 ∷ []) [] (7 ∷ []) (7 ∷ [])
  pub refused : strike_train sound_two 2 ≡ train_of (of_three (totals_from 1 100 90)) 1 (1 ∷ []) (3 ∷ []) (100 ∷ []) (90 ∷ [])
  pub past : strike_train (train_of no_cars 1 (up_to most_cars) [] [] []) 60 ≡ train_of no_cars 0 (up_to 59) [] [] []
