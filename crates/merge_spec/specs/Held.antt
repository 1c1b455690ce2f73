-- The cars that a sheet holds behind its last line, read off its lines and the answers to them.
use Rattle.std.specs.Prelude.{ℕ, Bool, false, cond, ◌||◌, ◌&&◌, List, [], ◌∷◌, map, leb}
use Rattle.base.specs.Answer.{Answer, figures, refusal}
use Rattle.table.specs.Table.{Table}
use Rattle.car.specs.Car.{car_of}
use Rattle.consist.specs.Train.{empty_train}
use Rattle.consist.specs.Demand3.{answers_from, struck_in}
use Rattle.grammar.specs.Grammar.{TrainLine, enters, strikes}
use Rattle.answers.specs.Listing.{items_of}

-- A car is given by the fourteen numbers of its C line.

abbrev pub number_of : List ℕ → ℕ
number_of car = (car_of car).number

abbrev pub kind_of : List ℕ → ℕ
kind_of car = (car_of car).kind

-- a car that is held, with the answer that its line got
pub record HeldCar : Type 0 where
  pub car : List ℕ
  pub answer : Answer

abbrev pub held_number : HeldCar → ℕ
held_number h = number_of h.car

-- 9, 10 and 11 keep a car out of the train; with any other answer it is held
abbrev pub kept_out : Answer → Bool
kept_out (figures values) = false
kept_out (refusal n) = leb 9 n && leb n 11

-- the C lines, in sheet order, whose cars were not kept out and whose numbers no later line strikes
abbrev pub held_in : List Table → List TrainLine → List Answer → List HeldCar
held_in ts [] answers = []
held_in ts (line ∷ history) [] = []
held_in ts (strikes number ∷ history) (a ∷ answers) = held_in ts history answers
held_in ts (enters car ∷ history) (a ∷ answers) =
    cond (kept_out a || struck_in (items_of ts history) (number_of car)) (held_in ts history answers) (record { car = car; answer = a } ∷ held_in ts history answers)

-- those of a sheet, with the answers of its listing
abbrev pub held_on : List Table → List TrainLine → List HeldCar
held_on ts history = held_in ts history (answers_from empty_train (items_of ts history))

-- those cars alone
abbrev pub cars_held : List Table → List TrainLine → List (List ℕ)
cars_held ts history = map (λ (h : HeldCar). h.car) (held_on ts history)
