-- Demand 3 of document 01: the distance of every accepted car, the book of every list of cars and strikes, and the filling order.
use Rattle.std.specs.Prelude.{ℕ, ◌*◌, ◌≤◌, ◌≡◌, Bool, false, cond, ◌||◌, List, [], ◌∷◌, ◌++◌, map, eqb, length, get_or}
use Rattle.base.specs.Answer.{Verdict, accepts, refuses, Answer, figures, refusal}
use Rattle.base.specs.Fraction.{Within}
use Rattle.base.specs.Total.{totalˣ}
use Rattle.table.specs.Table.{Table, rows_of}
use Rattle.heating.specs.Exact.{Power}
use Rattle.car.specs.declared.Measured.{Measured}
use Rattle.car.specs.Measured.{Mass, gross, net}
use Rattle.car.specs.Car.{Intake, measured_of, alone_answer, intake_number}
use Rattle.car.specs.Exact.{massˣ, distance, Uncut}
use Rattle.summing.specs.declared.Totals.{Totals}
use Rattle.summing.specs.Sums.{Shown, sums_of, total_in, grade_totals, together}
use Rattle.consist.specs.Train.{Train, empty_train, enter_answer, enter_train, strike_answer, strike_train}
use Rattle.consist.specs.Book.{Item, car, strike, Load, load_of, exact_mass, loads, loads_of_grade, book_from, verdicts_from}

-- What an answer says: whether the car is accepted, and the masses it shows, which stand fifth and sixth.

abbrev pub verdict_in : Answer → Verdict
verdict_in (figures values) = accepts
verdict_in (refusal number) = refuses number

abbrev pub place_of : Mass → ℕ
place_of gross = 4
place_of net = 5

abbrev pub mass_in : Mass → Answer → ℕ
mass_in k (figures values) = get_or values (place_of k) 0
mass_in k (refusal number) = 0

-- 1. The distance. An accepted car's gross is no further than 0.55 kg, nor its net further than 1.1 kg, from the exact value, which starts from the mean
-- level in tenths of a millimetre, for both powers; and no difference on the way to the exact value is cut off at 0.

pub record Close (ts : List Table) (m : Measured) (a : Answer) : Type 0 where
  pub near : verdict_in a ≡ accepts → (k : Mass) (p : Power) → Within 100 (distance k) (mass_in k a) (massˣ k p ts m)
  pub uncut : verdict_in a ≡ accepts → Uncut ts m

-- 2. The book. Cars, each with whatever tables, and strikes are handed in one after another from the empty train, refused ones among them.

-- the answer to an item, and the train handed back with it
abbrev pub answer_to : Train → Item → Answer
answer_to t (car ts c) = enter_answer ts t c
answer_to t (strike number) = strike_answer t number

abbrev pub train_with : Train → Item → Train
train_with t (car ts c) = enter_train ts t c
train_with t (strike number) = strike_train t number

-- the train after the items, and the answers to them, from a train t
abbrev pub train_from : Train → List Item → Train
train_from t [] = t
train_from t (i ∷ is) = train_from (train_with t i) is

abbrev pub answers_from : Train → List Item → List Answer
answers_from t [] = []
answers_from t (i ∷ is) = answer_to t i ∷ answers_from (train_with t i) is

-- The history of lines: an accepted car counts where no later strike takes its number.

-- a strike of the number is among the items
abbrev pub struck_in : List Item → ℕ → Bool
struck_in [] number = false
struck_in (car ts c ∷ is) number = struck_in is number
struck_in (strike n ∷ is) number = eqb number n || struck_in is number

-- an accepted car on its tables, with the figures answered for it
pub record Standing : Type 0 where
  pub tables : List Table
  pub car : Intake
  pub values : List ℕ

abbrev pub standing : List Item → List Answer → List Standing
standing [] answers = []
standing (car ts c ∷ is) [] = []
standing (car ts c ∷ is) (figures values ∷ answers) =
    cond (struck_in is (intake_number c)) (standing is answers) (record { tables = ts; car = c; values = values } ∷ standing is answers)
standing (car ts c ∷ is) (refusal number ∷ answers) = standing is answers
standing (strike n ∷ is) [] = []
standing (strike n ∷ is) (a ∷ answers) = standing is answers

-- the verdict on the first strike of the number among the items, by the answers they got; where there is none, nothing was refused
abbrev pub first_strike : ℕ → List Item → List Answer → Verdict
first_strike number [] answers = accepts
first_strike number (i ∷ is) [] = accepts
first_strike number (car ts c ∷ is) (a ∷ answers) = first_strike number is answers
first_strike number (strike n ∷ is) (a ∷ answers) = cond (eqb number n) (verdict_in a) (first_strike number is answers)

-- the first strike of its number behind an accepted car always finds it
abbrev pub Found : List Item → List Answer → Type 0
Found [] answers = Unit {0}
Found (i ∷ is) [] = Unit {0}
Found (car ts c ∷ is) (a ∷ answers) = (verdict_in a ≡ accepts → first_strike (intake_number c) is answers ≡ accepts) × Found is answers
Found (strike n ∷ is) (a ∷ answers) = Found is answers

-- its grade and the masses answered, and its entry in the book
abbrev pub shown_of : Standing → Shown
shown_of s = record { grade = (measured_of s.car).grade; gross = mass_in gross (figures s.values); net = mass_in net (figures s.values) }

abbrev pub load_in : Standing → Load
load_in s = load_of s.tables s.car

abbrev pub shown : List Item → List Answer → List Shown
shown items answers = map shown_of (standing items answers)

-- totals beside the book's entries with masses of the same cars: they count them, and lie within the distances, times the count, of the sums of the
-- exact values, all to power 7 and all to power 8
pub record Beside (t : Totals) (ls : List Load) : Type 0 where
  pub count : t.accepted ≡ length ls
  pub near : (k : Mass) (p : Power) → Within 100 (distance k * length ls) (total_in k t) (totalˣ (exact_mass k p) ls)

-- one claim about the whole list: the train and the book agree
pub record Reconciled (items : List Item) : Type 0 where
  -- each car is answered with figures, and each strike with its number, exactly when the book accepts it, else with the book's refusal
  pub answered : map verdict_in (answers_from empty_train items) ≡ verdicts_from [] items
  -- count and totals, of all cars and of each grade, are those of the accepted cars that no later strike takes, with the gross and net answered for them
  pub sums : (train_from empty_train items).sums ≡ sums_of (shown items (answers_from empty_train items))
  -- these cars, read off the history, are the book's entries with masses
  pub history : loads (book_from [] items) ≡ map load_in (standing items (answers_from empty_train items))
  -- the first strike of its number behind an accepted car always finds it, so that a car does not count exactly where a strike took it
  pub found : Found items (answers_from empty_train items)
  -- those of all cars are the sums of the grades'
  pub split : (train_from empty_train items).sums.all ≡ together (train_from empty_train items).sums.grades
  -- and they lie beside the book, as do those of each grade beside its entries of that grade
  pub all : Beside (train_from empty_train items).sums.all (loads (book_from [] items))
  pub grade : (g : ℕ) → Beside (grade_totals g (train_from empty_train items).sums) (loads_of_grade g (loads (book_from [] items)))

-- a train t that such a list handed back, with the item i handed in: the answer a and the train handed back next are the longer list's
pub record Continues (t : Train) (i : Item) (a : Answer) (next : Train) : Type 0 where
  pub train : (items : List Item) → t ≡ train_from empty_train items → next ≡ train_from empty_train (items ++ (i ∷ []))
  pub answers : (items : List Item) → t ≡ train_from empty_train items
      → answers_from empty_train (items ++ (i ∷ [])) ≡ answers_from empty_train items ++ (a ∷ [])
  pub reconciled : (items : List Item) → Reconciled (items ++ (i ∷ []))

-- 3. The filling order, by the mean level in tenths of a millimetre.

-- an answer that a car of which m was measured gets, alone or entered in any train
pub data Answered (ts : List Table) : Measured → Answer → Type 0 where
  alone : (c : Intake) → Answered ts (measured_of c) (alone_answer ts c)
  entered : (t : Train) (c : Intake) → Answered ts (measured_of c) (enter_answer ts t c)

-- the same capacity table: the same type and the same rows
pub record SameTable (ts us : List Table) (m n : Measured) : Type 0 where
  pub kind : m.kind ≡ n.kind
  pub rows : rows_of m.kind ts ≡ rows_of n.kind us

-- alike in all but car number and oil readings, two or four
pub record Alike (m n : Measured) : Type 0 where
  pub grade : m.grade ≡ n.grade
  pub stick : m.stick ≡ n.stick
  pub water_level : m.water_level ≡ n.water_level
  pub temperature : m.temperature ≡ n.temperature
  pub density : m.density.0 ≡ n.density.0
  pub water : m.water ≡ n.water
  pub impurities : m.impurities ≡ n.impurities

-- two accepted cars that the filling order compares
pub record Comparable (ts us : List Table) (m n : Measured) (a b : Answer) : Type 0 where
  pub first : verdict_in a ≡ accepts
  pub second : verdict_in b ≡ accepts
  pub table : SameTable ts us m n
  pub alike : Alike m n

-- of V0, V15, gross and net, which stand third to sixth, each in a is in the relation to that in b
abbrev pub Figurewise : (ℕ → ℕ → Type 0) → Answer → Answer → Type 0
Figurewise R (figures a) (figures b) =
    R (get_or a 2 0) (get_or b 2 0) × R (get_or a 3 0) (get_or b 3 0) × R (get_or a 4 0) (get_or b 4 0) × R (get_or a 5 0) (get_or b 5 0)
Figurewise R (figures a) (refusal n) = ⊥
Figurewise R (refusal m) b = ⊥

-- the car of which m was measured, answered by a, beside every other accepted car on the same capacity table that is alike
pub record InOrder (ts : List Table) (m : Measured) (a : Answer) : Type 0 where
  pub higher : (us : List Table) (n : Measured) (b : Answer) → Answered us n b → Comparable ts us m n a b → m.level ≤ n.level → Figurewise ◌≤◌ a b
  pub lower : (us : List Table) (n : Measured) (b : Answer) → Answered us n b → Comparable ts us m n a b → n.level ≤ m.level → Figurewise ◌≤◌ b a
  pub level_with : (us : List Table) (n : Measured) (b : Answer) → Answered us n b → Comparable ts us m n a b → m.level ≡ n.level → Figurewise ◌≡◌ a b
