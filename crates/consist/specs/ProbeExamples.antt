-- Cars that a probe read, beside dipped ones: in one list, with its answers, its book, its history and its train; in trains that are handed in; and in the
-- filling order. Levels stand by their bit patterns.
use Rattle.std.specs.Prelude.{ℕ, ◌≡◌, List, [], ◌∷◌}
use Rattle.base.specs.Answer.{Answer, figures, refusal}
use Rattle.base.specs.Lists.{Each}
use Rattle.table.specs.Table.{Table}
use Rattle.car.specs.Car.{Intake, probe_car_of, probed, measured_of, alone_answer}
use Rattle.car.specs.Card.{card_tables}
use Rattle.car.specs.ProbedCard.{with_number, at_level}
use Rattle.summing.specs.Sums.{totals_from, no_totals}
use Rattle.consist.specs.Train.{Train, empty_train, enter_answer, enter_train}
use Rattle.consist.specs.Book.{Item, car, strike, Entry, alone, loaded, load_of, book_from}
use Rattle.consist.specs.Demand3.{train_from, answers_from, Standing, standing, Comparable}
use Rattle.consist.specs.Examples.{example_car, bad_tables, sums_from, ordinary, other_tables, four_readings}
use Rattle.consist.specs.StrikeExamples.{train_of}
use Rattle.consist.specs.HandedInExamples.{of_number, sixty, unsound_trains}

-- the first car of document 01's sheet as a probe reads it, with a number and a level
abbrev example_probe : ℕ → ℕ → Intake
example_probe number level = probed (probe_car_of (with_number number) (at_level level))

abbrev probe_item : ℕ → ℕ → Item
probe_item number level = car card_tables (example_probe number level)

-- 1. In a list.

unfoldable pub probes : List Item
probes =
    -- 1,500 mm; -1 mm and 10,000,000 mm leave no entry; the number 1 is held, 2 is free
    probe_item 1 0x44bb8000 ∷ probe_item 2 0xbf800000 ∷ probe_item 2 0x4b189680 ∷ ordinary 1 ∷ ordinary 2
    -- minus zero is 0 mm, and the number 3 is held; bad tables
    ∷ probe_item 3 0x80000000 ∷ probe_item 3 0x44bb8000 ∷ car bad_tables (example_probe 4 0x44bb8000)
    -- the first is struck, and its number comes again at 1,500.25 mm
    ∷ strike 1 ∷ probe_item 1 0x44bb8800
    ∷ []

unfoldable pub probes_answers : List Answer
probes_answers =
    figures (1 ∷ 15_000 ∷ 3_500_000 ∷ 3_392_515 ∷ 32_229 ∷ 32_003 ∷ []) ∷ refusal 31 ∷ refusal 32 ∷ refusal 11
    ∷ figures (2 ∷ 15_000 ∷ 3_500_000 ∷ 3_392_515 ∷ 32_229 ∷ 32_003 ∷ [])
    ∷ refusal 16 ∷ refusal 11 ∷ refusal 8
    ∷ figures (1 ∷ []) ∷ figures (1 ∷ 15_003 ∷ 3_500_900 ∷ 3_393_387 ∷ 32_237 ∷ 32_011 ∷ [])
    ∷ []

unfoldable pub probes_book : List Entry
probes_book = loaded (load_of card_tables (example_car 2 1 600)) ∷ alone 3 ∷ loaded (load_of card_tables (example_probe 1 0x44bb8800)) ∷ []

unfoldable pub probes_standing : List Standing
probes_standing =
    record { tables = card_tables; car = example_car 2 1 600; values = 2 ∷ 15_000 ∷ 3_500_000 ∷ 3_392_515 ∷ 32_229 ∷ 32_003 ∷ [] }
    ∷ record { tables = card_tables; car = example_probe 1 0x44bb8800; values = 1 ∷ 15_003 ∷ 3_500_900 ∷ 3_393_387 ∷ 32_237 ∷ 32_011 ∷ [] }
    ∷ []

unfoldable pub probes_train : Train
probes_train =
    train_of (sums_from (totals_from 2 64_466 64_014) no_totals no_totals (totals_from 2 64_466 64_014) no_totals)
    3 (2 ∷ 3 ∷ 1 ∷ []) (3 ∷ 0 ∷ 3 ∷ []) (32_229 ∷ 0 ∷ 32_237 ∷ []) (32_003 ∷ 0 ∷ 32_011 ∷ [])

-- the book, the answers, the history and the train, as they are written out here
pub record ProbesExample : Type 0 where
  pub book : book_from [] probes ≡ probes_book
  pub answers : answers_from empty_train probes ≡ probes_answers
  pub history : standing probes probes_answers ≡ probes_standing
  pub train : train_from empty_train probes ≡ probes_train

-- 2. In a train that is handed in: the refusal, and the train as it was.

pub record Turned : Type 0 where
  pub tables : List Table
  pub train : Train
  pub car : Intake
  pub by : ℕ

abbrev turned : List Table → Train → Intake → ℕ → Turned
turned ts t h n = record { tables = ts; train = t; car = h; by = n }

unfoldable pub turned_away : List Turned
turned_away =
    -- 31 and 32 before 8, 9, 10 and 11; else these
    turned bad_tables sixty (example_probe 0 0xbf800000) 31
    ∷ turned bad_tables sixty (example_probe 0 0x4b189680) 32
    ∷ turned card_tables sixty (example_probe 0 0x7fc00000) 31
    ∷ turned card_tables sixty (example_probe 5 0x4b189680) 32
    ∷ turned card_tables (of_number 1 0) (example_probe 0 0xff800000) 31
    ∷ turned card_tables (of_number 1 5) (example_probe 5 0x4b189680) 32
    ∷ turned bad_tables sixty (example_probe 0 0x44bb8000) 8
    ∷ turned card_tables sixty (example_probe 0 0x44bb8000) 9
    ∷ turned card_tables (of_number 1 0) (example_probe 0 0x44bb8000) 10
    ∷ turned card_tables (of_number 1 5) (example_probe 5 0x44bb8000) 11
    ∷ []

pub record ProbeOrder : Type 0 where
  pub each : Each (λ w. (enter_answer w.tables w.train w.car ≡ refusal w.by) × (enter_train w.tables w.train w.car ≡ w.train)) turned_away
  -- 9 of every train that is not sound, behind 31
  pub nine : Each (λ t. (enter_answer card_tables t (example_probe 0 0x44bb8000) ≡ refusal 9) × (enter_train card_tables t (example_probe 0 0x44bb8000) ≡ t)) unsound_trains
  pub thirty_one : Each (λ t. (enter_answer card_tables t (example_probe 0 0xbf800000) ≡ refusal 31) × (enter_train card_tables t (example_probe 0 0xbf800000) ≡ t)) unsound_trains

-- 3. In the filling order: a probe's car at 1,500 mm below a dipped one of four readings, and one at 1,500.25 mm level with it, of which the same is measured.

pub record ProbeBeside : Type 0 where
  pub comparable : Comparable card_tables other_tables (measured_of (example_probe 1 0x44bb8000)) (measured_of four_readings)
      (alone_answer card_tables (example_probe 1 0x44bb8000)) (alone_answer other_tables four_readings)
  pub level_with : Comparable other_tables card_tables (measured_of four_readings) (measured_of (example_probe 1 0x44bb8800))
      (alone_answer other_tables four_readings) (alone_answer card_tables (example_probe 1 0x44bb8800))
  pub lower : (measured_of (example_probe 1 0x44bb8000)).level ≡ 15_000
  pub higher : (measured_of (example_probe 1 0x44bb8800)).level ≡ 15_003
  pub same : measured_of (example_probe 1 0x44bb8800) ≡ measured_of four_readings
