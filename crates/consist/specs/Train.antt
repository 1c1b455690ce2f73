-- The running train: a car or a strike is handed in with it, and it is handed back with the car entered or taken out. Refusals 9 and 11 of document 01,
-- and 30 of request (h).
use Rattle.std.specs.Prelude.{ℕ, zero, suc, ◌+◌, ◌-◌, Bool, false, cond, not, ◌||◌, List, [], ◌∷◌, ◌++◌, leb, ltb, eqb, get_or, take, set, replicate}
use Rattle.base.specs.Limits.{most_cars}
use Rattle.base.specs.Answer.{Test, refuse_if, Verdict, accepts, refuses, first, Answer, answer}
use Rattle.base.specs.Numbers.{member}
use Rattle.table.specs.Table.{Table, tables_tests}
use Rattle.car.specs.Measured.{gross, net, mass}
use Rattle.car.specs.Car.{number_tests, Intake, intake_number, before_tests, measured_of, car_tests, figures_of}
use Rattle.summing.specs.declared.Sums.{Sums}
use Rattle.summing.specs.Sums.{Shown, sums_of, no_sums, most_in_train, together, same_totals, same_sums, sums_with, sums_without}

-- its sums, and the cars that it holds in the first `held` places: the number of each, and its grade, gross and net in kg; grade 0 is a car that
-- was refused, and has no masses
pub record Train : Type 0 where
  pub sums : Sums
  pub held : ℕ
  pub numbers : List ℕ
  pub grades : List ℕ
  pub grosses : List ℕ
  pub nets : List ℕ

-- no accepted cars, no totals, no numbers
abbrev pub empty_train : Train
empty_train = record {
  sums = no_sums;
  held = 0;
  numbers = replicate most_cars 0;
  grades = replicate most_cars 0;
  grosses = replicate most_cars 0;
  nets = replicate most_cars 0;
}

-- What a train holds.

-- the car numbers
abbrev pub held_by : Train → List ℕ
held_by t = take t.held t.numbers

-- a held car: its number alone where it was refused, else with what it adds to the sums
pub data Held : Type 0 where
  refused : ℕ → Held
  weighed : ℕ → Shown → Held

abbrev pub held_number : Held → ℕ
held_number (refused number) = number
held_number (weighed number s) = number

abbrev pub held_as : ℕ → ℕ → ℕ → ℕ → Held
held_as number grade grossKg netKg = cond (eqb grade 0) (refused number) (weighed number (record { grade = grade; gross = grossKg; net = netKg }))

abbrev pub car_at : Train → ℕ → Held
car_at t i = held_as (get_or t.numbers i 0) (get_or t.grades i 0) (get_or t.grosses i 0) (get_or t.nets i 0)

-- n cars from place i on
abbrev pub cars_from : Train → ℕ → ℕ → List Held
cars_from t i zero = []
cars_from t i (suc n) = car_at t i ∷ cars_from t (i + 1) n

abbrev pub cars_of : Train → List Held
cars_of t = cars_from t 0 t.held

-- the accepted ones
abbrev pub shown_in : List Held → List Shown
shown_in [] = []
shown_in (refused number ∷ cars) = shown_in cars
shown_in (weighed number s ∷ cars) = s ∷ shown_in cars

-- A train handed in.

-- a number stands twice
abbrev pub twice : List ℕ → Bool
twice [] = false
twice (n ∷ ns) = member n ns || twice ns

-- it holds more than sixty numbers or one twice, counts more than sixty accepted cars, has a total above 12,000,000 kg, or a count or totals, by grade too,
-- that its held cars do not make or that are not the sums of its grades'
unfoldable pub unsound : Train → Bool
unsound t =
    ltb most_cars t.held
    || twice (held_by t)
    || ltb most_cars t.sums.all.accepted
    || ltb most_in_train t.sums.all.gross
    || ltb most_in_train t.sums.all.net
    || not (same_sums t.sums (sums_of (shown_in (cars_of t))))
    || not (same_totals t.sums.all (together t.sums.grades))

-- Entering a car.

-- 9: it is so, or holds sixty numbers
unfoldable pub full : Train → Bool
full t = unsound t || leb most_cars t.held

-- 9 to 11, for a car of this number
abbrev pub train_tests : Train → ℕ → List Test
train_tests t number = refuse_if 9 (full t) ∷ (number_tests number ++ (refuse_if 11 (member number (held_by t)) ∷ []))

-- the tests before all others, and 7 to 11: a car turned away by one of these leaves the train unchanged
unfoldable pub admission_tests : List Table → Train → Intake → List Test
admission_tests ts t c = before_tests c ++ (tables_tests ts ++ train_tests t (intake_number c))

-- all that test a car entered in a train
unfoldable pub enter_tests : List Table → Train → Intake → List Test
enter_tests ts t c = admission_tests ts t c ++ car_tests ts c

unfoldable pub enter_answer : List Table → Train → Intake → Answer
enter_answer ts t c = answer (first (enter_tests ts t c)) (figures_of ts c)

-- with one car more, and these sums
abbrev pub with_held : Train → Sums → ℕ → ℕ → ℕ → ℕ → Train
with_held t sums number grade grossKg netKg = record {
  sums = sums;
  held = t.held + 1;
  numbers = set t.numbers t.held number;
  grades = set t.grades t.held grade;
  grosses = set t.grosses t.held grossKg;
  nets = set t.nets t.held netKg;
}

-- with the car's number held alone
abbrev pub with_number : Train → ℕ → Train
with_number t number = with_held t t.sums number 0 0 0

-- with the number held, and the masses of an accepted car beside it and in the sums
abbrev pub with_masses : Train → ℕ → Shown → Train
with_masses t number s = with_held t (sums_with t.sums s) number s.grade s.gross s.net

-- what an accepted car adds to the sums
abbrev pub car_shown : List Table → Intake → Shown
car_shown ts c = record { grade = (measured_of c).grade; gross = mass gross ts (measured_of c); net = mass net ts (measured_of c) }

-- the train handed back, by the verdict of those and that of the car's own tests
abbrev pub after_by : Verdict → Verdict → List Table → Train → Intake → Train
after_by (refuses k) own ts t c = t
after_by accepts (refuses k) ts t c = with_number t (intake_number c)
after_by accepts accepts ts t c = with_masses t (intake_number c) (car_shown ts c)

unfoldable pub enter_train : List Table → Train → Intake → Train
enter_train ts t c = after_by (first (admission_tests ts t c)) (first (car_tests ts c)) ts t c

-- Striking a car.

-- 9, which sixty numbers do not bring, and 30; no other car test is made
unfoldable pub strike_tests : Train → ℕ → List Test
strike_tests t number = refuse_if 9 (unsound t) ∷ refuse_if 30 (not (member number (held_by t))) ∷ []

-- the number that its K line shows
unfoldable pub strike_answer : Train → ℕ → Answer
strike_answer t number = answer (first (strike_tests t number)) (number ∷ [])

-- the first place of a number
abbrev pub position : ℕ → List ℕ → ℕ
position n [] = 0
position n (m ∷ ms) = cond (eqb m n) 0 (suc (position n ms))

-- without what stands in place k
abbrev pub remove_at : {A : Type 0} → ℕ → List A → List A
remove_at k [] = []
remove_at zero (a ∷ l) = l
remove_at (suc k) (a ∷ l) = a ∷ remove_at k l

-- later places move up by one, and the last becomes free
abbrev pub closed : ℕ → List ℕ → List ℕ
closed k l = remove_at k l ++ (0 ∷ [])

-- the sums without a held car
abbrev pub sums_less : Sums → Held → Sums
sums_less sums (refused number) = sums
sums_less sums (weighed number s) = sums_without sums s

abbrev pub without_at : Train → ℕ → Train
without_at t k = record {
  sums = sums_less t.sums (car_at t k);
  held = t.held - 1;
  numbers = closed k t.numbers;
  grades = closed k t.grades;
  grosses = closed k t.grosses;
  nets = closed k t.nets;
}

-- the train handed back
abbrev pub struck_by : Verdict → Train → ℕ → Train
struck_by (refuses n) t k = t
struck_by accepts t k = without_at t k

unfoldable pub strike_train : Train → ℕ → Train
strike_train t number = struck_by (first (strike_tests t number)) t (position number (held_by t))
