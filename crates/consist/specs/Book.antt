-- The book of a train: a row of entries, fed what is handed in only; nothing of it is taken from answers or from the train.
use Rattle.std.specs.Prelude.{ℕ, not, List, [], ◌∷◌, ◌++◌, map, leb, eqb, length}
use Rattle.base.specs.Limits.{most_cars}
use Rattle.base.specs.Answer.{Test, refuse_if, Verdict, accepts, refuses, first}
use Rattle.base.specs.Fraction.{Frac}
use Rattle.base.specs.Numbers.{member}
use Rattle.base.specs.Total.{selected}
use Rattle.table.specs.Table.{Table, tables_tests}
use Rattle.heating.specs.Exact.{Power}
use Rattle.car.specs.declared.Measured.{Measured}
use Rattle.car.specs.Measured.{Mass, gross, net}
use Rattle.car.specs.Car.{number_tests, Intake, intake_number, before_tests, measured_of, car_tests}
use Rattle.car.specs.Exact.{massˣ}

-- what is handed in, one after another: a car with whatever tables, or the number of a car that is struck
pub data Item : Type 0 where
  car : List Table → Intake → Item
  strike : ℕ → Item

-- an accepted car, by its number and what is measured of it, with its exact gross and net in kg, the series taken to either power
pub record Load : Type 0 where
  pub number : ℕ
  pub measured : Measured
  pub gross : Power → Frac
  pub net : Power → Frac

abbrev pub exact_mass : Mass → Power → Load → Frac
exact_mass gross p l = l.gross p
exact_mass net p l = l.net p

-- an entry: a number alone, or a car with its masses
pub data Entry : Type 0 where
  alone : ℕ → Entry
  loaded : Load → Entry

abbrev pub number_in : Entry → ℕ
number_in (alone number) = number
number_in (loaded k) = k.number

-- the entries with masses
abbrev pub loads : List Entry → List Load
loads [] = []
loads (alone number ∷ b) = loads b
loads (loaded k ∷ b) = k ∷ loads b

-- those of a grade
abbrev pub loads_of_grade : ℕ → List Load → List Load
loads_of_grade g ls = selected (λ l. eqb l.measured.grade g) ls

-- the tests before all others, 7 and 8 of its tables, 9 at sixty entries, 10, and 11 where an entry has its number: no entry
unfoldable pub book_admission : List Entry → List Table → Intake → List Test
book_admission b ts c =
    before_tests c
    ++ (tables_tests ts ++ (refuse_if 9 (leb most_cars (length b)) ∷ (number_tests (intake_number c) ++ (refuse_if 11 (member (intake_number c) (map number_in b)) ∷ []))))

-- 30 where no entry has the number
unfoldable pub book_strike : List Entry → ℕ → List Test
book_strike b number = refuse_if 30 (not (member number (map number_in b))) ∷ []

-- accepted, or the book's refusal
abbrev pub book_verdict : List Entry → Item → Verdict
book_verdict b (car ts c) = first (book_admission b ts c ++ car_tests ts c)
book_verdict b (strike number) = first (book_strike b number)

abbrev pub load_of : List Table → Intake → Load
load_of ts c = record { number = intake_number c; measured = measured_of c; gross = λ p. massˣ gross p ts (measured_of c); net = λ p. massˣ net p ts (measured_of c) }

-- a later refusal enters the number alone, an accepted car its exact gross and net
abbrev pub entry_by : Verdict → Verdict → List Table → Intake → List Entry
entry_by (refuses n) own ts c = []
entry_by accepts (refuses n) ts c = alone (intake_number c) ∷ []
entry_by accepts accepts ts c = loaded (load_of ts c) ∷ []

-- without the entry of a number
abbrev pub without : ℕ → List Entry → List Entry
without number b = selected (λ e. not (eqb (number_in e) number)) b

-- a strike removes its number's entry, if there is one
abbrev pub book_step : List Entry → Item → List Entry
book_step b (car ts c) = b ++ entry_by (first (book_admission b ts c)) (first (car_tests ts c)) ts c
book_step b (strike number) = without number b

-- the book after a list of items, and its verdicts on them, from a book b
abbrev pub book_from : List Entry → List Item → List Entry
book_from b [] = b
book_from b (i ∷ is) = book_from (book_step b i) is

abbrev pub verdicts_from : List Entry → List Item → List Verdict
verdicts_from b [] = []
verdicts_from b (i ∷ is) = book_verdict b i ∷ verdicts_from (book_step b i) is
