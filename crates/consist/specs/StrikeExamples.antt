-- A list with strikes written out, with its answers, its book, its history and its train; and a train that is full.
use Rattle.std.specs.Prelude.{ℕ, zero, suc, ◌+◌, ◌-◌, ◌≡◌, List, [], ◌∷◌, ◌++◌, length, replicate}
use Rattle.base.specs.Limits.{most_cars}
use Rattle.base.specs.Answer.{Answer, figures, refusal}
use Rattle.car.specs.Card.{card_tables}
use Rattle.summing.specs.declared.Sums.{Sums}
use Rattle.summing.specs.Sums.{totals_from, no_totals}
use Rattle.consist.specs.Train.{Train, empty_train}
use Rattle.consist.specs.Book.{Item, strike, Entry, alone, loaded, load_of, book_from}
use Rattle.consist.specs.Demand3.{train_from, answers_from, Standing, standing}
use Rattle.consist.specs.Examples.{example_car, grade_car, sums_from, ordinary, too_cold, of_grade, cold_from, numbers_from}

-- a row of sixty places, the last of them free
abbrev pub padded : List ℕ → List ℕ
padded ns = ns ++ replicate (most_cars - length ns) 0

-- a train of these sums, and of cars by their numbers, grades, gross and net
abbrev pub train_of : Sums → ℕ → List ℕ → List ℕ → List ℕ → List ℕ → Train
train_of sums held numbers grades grosses nets =
    record { sums = sums; held = held; numbers = padded numbers; grades = padded grades; grosses = padded grosses; nets = padded nets }

-- 1. Accepted and refused cars struck, and their numbers used again.

unfoldable pub shunted : List Item
shunted =
    -- three cars, the second too cold
    ordinary 1 ∷ too_cold 2 ∷ of_grade 3 1 1_500
    -- the refused car is struck, then the first, and its number comes again with other masses and another grade
    ∷ strike 2 ∷ strike 1 ∷ of_grade 1 4 1_000
    -- a number typed a second time does not alter the held car; it is struck, which leaves nothing to strike, and its number is free
    ∷ ordinary 3 ∷ strike 3 ∷ strike 3 ∷ ordinary 3
    -- of two more cars the first, alone of its grade, goes; a number that was struck before, and the number 0, are not held
    ∷ of_grade 4 2 800 ∷ of_grade 5 4 1_200 ∷ strike 4 ∷ strike 2 ∷ strike 0 ∷ too_cold 2
    ∷ []

unfoldable pub shunted_answers : List Answer
shunted_answers =
    figures (1 ∷ 15_000 ∷ 3_500_000 ∷ 3_392_515 ∷ 32_229 ∷ 32_003 ∷ []) ∷ refusal 18 ∷ figures (3 ∷ 15_000 ∷ 3_500_000 ∷ 3_392_515 ∷ 32_229 ∷ 32_100 ∷ [])
    ∷ figures (2 ∷ []) ∷ figures (1 ∷ []) ∷ figures (1 ∷ 10_000 ∷ 2_000_000 ∷ 1_938_580 ∷ 18_417 ∷ 18_343 ∷ [])
    ∷ refusal 11 ∷ figures (3 ∷ []) ∷ refusal 30 ∷ figures (3 ∷ 15_000 ∷ 3_500_000 ∷ 3_392_515 ∷ 32_229 ∷ 32_003 ∷ [])
    ∷ figures (4 ∷ 8_000 ∷ 1_600_000 ∷ 1_550_864 ∷ 14_733 ∷ 14_674 ∷ []) ∷ figures (5 ∷ 12_000 ∷ 2_600_000 ∷ 2_520_154 ∷ 23_941 ∷ 23_845 ∷ [])
    ∷ figures (4 ∷ []) ∷ refusal 30 ∷ refusal 30 ∷ refusal 18
    ∷ []

-- three accepted cars and a refused one are left
unfoldable pub shunted_book : List Entry
shunted_book =
    loaded (load_of card_tables (grade_car 1 4 1_000)) ∷ loaded (load_of card_tables (example_car 3 1 600)) ∷ loaded (load_of card_tables (grade_car 5 4 1_200)) ∷ alone 2 ∷ []

-- the accepted ones, read off the lines and their answers
unfoldable pub shunted_standing : List Standing
shunted_standing =
    record { tables = card_tables; car = grade_car 1 4 1_000; values = 1 ∷ 10_000 ∷ 2_000_000 ∷ 1_938_580 ∷ 18_417 ∷ 18_343 ∷ [] }
    ∷ record { tables = card_tables; car = example_car 3 1 600; values = 3 ∷ 15_000 ∷ 3_500_000 ∷ 3_392_515 ∷ 32_229 ∷ 32_003 ∷ [] }
    ∷ record { tables = card_tables; car = grade_car 5 4 1_200; values = 5 ∷ 12_000 ∷ 2_600_000 ∷ 2_520_154 ∷ 23_941 ∷ 23_845 ∷ [] }
    ∷ []

unfoldable pub shunted_train : Train
shunted_train =
    train_of (sums_from (totals_from 3 74_587 74_191) no_totals no_totals (totals_from 1 32_229 32_003) (totals_from 2 42_358 42_188))
    4 (1 ∷ 3 ∷ 5 ∷ 2 ∷ []) (4 ∷ 3 ∷ 4 ∷ []) (18_417 ∷ 32_229 ∷ 23_941 ∷ []) (18_343 ∷ 32_003 ∷ 23_845 ∷ [])

-- 2. A full train: cars of a new number, of a held one and of no number are refused by 9, and the new number stays free; a strike makes room for one car.

unfoldable pub crowded : List Item
crowded = cold_from 101 60 ++ (ordinary 4 ∷ ordinary 101 ∷ ordinary 0 ∷ strike 4 ∷ strike 130 ∷ ordinary 4 ∷ ordinary 130 ∷ strike 160 ∷ [])

unfoldable pub crowded_answers : List Answer
crowded_answers =
    replicate 60 (refusal 18)
    ++ (refusal 9 ∷ refusal 9 ∷ refusal 9 ∷ refusal 30 ∷ figures (130 ∷ []) ∷ figures (4 ∷ 15_000 ∷ 3_500_000 ∷ 3_392_515 ∷ 32_229 ∷ 32_003 ∷ []) ∷ refusal 9 ∷ figures (160 ∷ []) ∷ [])

unfoldable pub crowded_book : List Entry
crowded_book = numbers_from 101 29 ++ numbers_from 131 29 ++ (loaded (load_of card_tables (example_car 4 1 600)) ∷ [])

-- n numbers from `from` on
abbrev count_from : ℕ → ℕ → List ℕ
count_from from zero = []
count_from from (suc n) = from ∷ count_from (from + 1) n

unfoldable pub crowded_train : Train
crowded_train =
    train_of (sums_from (totals_from 1 32_229 32_003) no_totals no_totals (totals_from 1 32_229 32_003) no_totals)
    59 (count_from 101 29 ++ count_from 131 29 ++ (4 ∷ [])) (replicate 58 0 ++ (3 ∷ [])) (replicate 58 0 ++ (32_229 ∷ [])) (replicate 58 0 ++ (32_003 ∷ []))

-- the book, the answers, the history and the train, as they are written out here
pub record StrikesExample : Type 0 where
  pub book : book_from [] shunted ≡ shunted_book
  pub answers : answers_from empty_train shunted ≡ shunted_answers
  pub history : standing shunted shunted_answers ≡ shunted_standing
  pub train : train_from empty_train shunted ≡ shunted_train
  pub crowded_book_lem : book_from [] crowded ≡ crowded_book
  pub crowded_answers_lem : answers_from empty_train crowded ≡ crowded_answers
  pub crowded_train_lem : train_from empty_train crowded ≡ crowded_train
