-- How many bytes the lines of a history and its totals take at most.
use Prim.Native.Nat.{ℕ, ◌+◌, ◌*◌, ◌≤◌}
use mathlib.Core.Path.{◌≡◌}
use mathlib.Core.List.{List, [], ◌∷◌}
use native.Mathlib.Omega.{arith}
use lib.ListN.{length, get_or, length-append}
use Rattle.base.specs.Limits.{largest, grade_count}
use Rattle.base.specs.Answer.{accepts}
use Rattle.reading.specs.declared.letter.Line.{Line}
use Rattle.reading.specs.declared.letter.Letter.TheVariants.{CarAccepted, CarRefused, Totals as S, GradeTotals as G}
use Rattle.reading.specs.Letter.{width_of}
use Rattle.line.specs.Writing.{line_of}
use Rattle.line.proofs.Bytes.{small_at, length_line_of}
use Rattle.table.specs.Table.{Table, tables_verdict}
use Rattle.car.specs.Car.{car_of, dipped}
use Rattle.consist.specs.Train.{Train}
use Rattle.consist.specs.Book.{Item}
use Rattle.consist.specs.Demand3.{answer_to, train_with}
use Rattle.consist.specs.Inner.{Reached}
use Rattle.consist.proofs.Book.{reached_next, reached_four}
use Rattle.grammar.specs.Grammar.{TrainLine, enters, strikes, cars_in, strikes_in, CarNumbers, Fitting, EachLine}
use Rattle.grammar.specs.Text.{text_of}
use Rattle.answers.specs.Listing.{item_of, items_of, item_line, lines_from}
use Rattle.answers.proofs.Lines.{Fit, car_fit, strike_fit, totals_length}

-- the bytes of the lines of items from a train on
abbrev text_from : Train → List Item → List ℕ
text_from t items = text_of (lines_from t items)

-- the car number is one of fourteen that a field holds
pub number_small : (ns : List ℕ) → CarNumbers ns → get_or ns 0 0 ≤ largest
number_small ns h = small_at ns 14 h.small 0 (omega arith)

-- the line that a line behind the tables gets
pub line_fit : (ts : List Table) → tables_verdict ts ≡ accepts → (t : Train) (l : TrainLine) → Fitting l → Fit (item_line (item_of ts l) (answer_to t (item_of ts l)))
line_fit ts good t (enters ns) h = car_fit ts t (dipped (car_of ns)) good (number_small ns h)
line_fit ts good t (strikes n) h = (strike_fit t n h).0

-- room for the lines of so many C lines and K lines, S and the G lines
abbrev pub room : ℕ → ℕ → ℕ
room cars struck = width_of CarAccepted * cars + width_of CarRefused * struck + width_of S + grade_count * width_of G

pub text_most : (ts : List Table) → tables_verdict ts ≡ accepts → (t : Train) → Reached t → (history : List TrainLine) → EachLine history
    → length (text_from t (items_of ts history)) ≤ room (cars_in history) (strikes_in history)
unfolding text_of
text_most ts good t r [] h = omega (arith, totals_length t.sums (reached_four r))
text_most ts good t r (enters ns ∷ history) (h, hs) =
    let i : Item = item_of ts (enters ns) in
    let l : Line = item_line i (answer_to t i) in
    let f = line_fit ts good t (enters ns) h in
    let later : List ℕ = text_from (train_with t i) (items_of ts history) in
    omega (arith, length-append (line_of l) later, length_line_of l f.fourteen, f.width, text_most ts good (train_with t i) (reached_next i r) history hs)
text_most ts good t r (strikes n ∷ history) (h, hs) =
    let i : Item = item_of ts (strikes n) in
    let l : Line = item_line i (answer_to t i) in
    let f = strike_fit t n h in
    let later : List ℕ = text_from (train_with t i) (items_of ts history) in
    omega (arith, length-append (line_of l) later, length_line_of l f.0.fourteen, f.1, text_most ts good (train_with t i) (reached_next i r) history hs)
