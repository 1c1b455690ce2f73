-- The listing beside demand 3: the C and K lines of a whole sheet are such a list of cars on its tables and strikes, so that S and the G lines show the book's
-- counts and totals.
use Rattle.std.specs.Prelude.{ℕ, ◌+◌, ◌<◌, ◌≡◌, true, List, [], ◌∷◌, ◌++◌, length, get_or}
use Rattle.base.specs.Answer.{accepts, Answer}
use Rattle.base.specs.Lists.{Each}
use Rattle.base.specs.Total.{total}
use Rattle.reading.specs.declared.letter.Letter.TheVariants.{Totals as S, GradeTotals as G}
use Rattle.reading.specs.declared.letter.Line.{Line}
use Rattle.reading.specs.Letter.{count_of}
use Rattle.line.specs.Writing.{small_to}
use Rattle.table.specs.Table.{Table, tables_verdict}
use Rattle.car.specs.declared.Measured.{Measured}
use Rattle.car.specs.Measured.{gross, net}
use Rattle.car.specs.Car.{measured_of}
use Rattle.summing.specs.Sums.{Shown, shown_mass, of_grade}
use Rattle.consist.specs.Train.{empty_train}
use Rattle.consist.specs.Book.{Item, car, strike, Load, loads, loads_of_grade, book_from}
use Rattle.consist.specs.Demand3.{Close, answers_from, shown, Reconciled, InOrder}
use Rattle.grammar.specs.Sheet.{SheetRead, refused_at, whole}
use Rattle.grammar.specs.Text.{line_with}
use Rattle.answers.specs.Listing.{items_of, item_line, lines_from, answer_lines}

-- no number of the line exceeds 99,999,999, so that no field is cut
abbrev pub Small : Line → Type 0
Small l = small_to l.numbers (count_of l.letter) ≡ true

-- each item's line, with the answer it got
abbrev pub lines_with : List Item → List Answer → List Line
lines_with [] answers = []
lines_with (i ∷ is) [] = []
lines_with (i ∷ is) (a ∷ answers) = item_line i a ∷ lines_with is answers

-- what holds of each car, its tables and what is measured of it, with the answer it got
abbrev pub EachAnswered : (List Table → Measured → Answer → Type 0) → List Item → List Answer → Type 0
EachAnswered P [] answers = Unit {0}
EachAnswered P (i ∷ is) [] = ⊥
EachAnswered P (car ts c ∷ is) (a ∷ answers) = P ts (measured_of c) a × EachAnswered P is answers
EachAnswered P (strike number ∷ is) (a ∷ answers) = EachAnswered P is answers

-- The numbers of S and of a G line: how many entries with masses, and the sums of the masses shown, of all cars or of one grade.

abbrev pub numbers_shown : List Load → List Shown → List ℕ
numbers_shown ls ss = length ls ∷ total (shown_mass gross) ss ∷ total (shown_mass net) ss ∷ []

abbrev pub loads_of : List Item → List Load
loads_of items = loads (book_from [] items)

abbrev pub shown_of : List Item → List Shown
shown_of items = shown items (answers_from empty_train items)

abbrev pub totals_shown : List Item → Line
totals_shown items = line_with S (numbers_shown (loads_of items) (shown_of items))

abbrev pub grade_shown : List Item → ℕ → Line
grade_shown items g = line_with G (g ∷ numbers_shown (loads_of_grade g (loads_of items)) (of_grade g (shown_of items)))

abbrev pub grades_shown : List Item → List Line
grades_shown items = grade_shown items 1 ∷ grade_shown items 2 ∷ grade_shown items 3 ∷ grade_shown items 4 ∷ []

-- each number of an S line is the sum of those that stand one place further on G lines
pub record SumOf (s : Line) (gs : List Line) : Type 0 where
  pub field : (i : ℕ) → i < count_of S → get_or s.numbers i 0 ≡ total (λ g. get_or g.numbers (i + 1) 0) gs

-- a whole sheet: its tables are not refused, and its cars and strikes are answered as demand 3 has it
pub record Listed (ts : List Table) (items : List Item) : Type 0 where
  pub tables : tables_verdict ts ≡ accepts
  pub reconciled : Reconciled items
  -- the lines written: the answer to each car and strike, then S and the four G lines with the number of the book's entries with masses and the sums of the masses shown
  pub lines : lines_from empty_train items ≡ lines_with items (answers_from empty_train items) ++ (totals_shown items ∷ grades_shown items)
  -- the S figures are the sums of the G lines
  pub split : SumOf (totals_shown items) (grades_shown items)
  -- each car's answer keeps its distance and the filling order
  pub close : EachAnswered Close items (answers_from empty_train items)
  pub order : EachAnswered InOrder items (answers_from empty_train items)

abbrev pub SheetListed : SheetRead → Type 0
SheetListed (refused_at line number) = Unit {0}
SheetListed (whole ts history) = Listed ts (items_of ts history)

-- what holds of the answer to every sheet: it is listed so, and every number shown fits its field
pub record SheetReconciled (r : SheetRead) : Type 0 where
  pub listed : SheetListed r
  pub small : Each Small (answer_lines r)
