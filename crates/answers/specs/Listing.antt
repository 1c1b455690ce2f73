-- Answers written: the Z line of a refused sheet, or a line for each line behind the tables in sheet order, the S line and the four G lines; refusal 1 of document 01.
use Rattle.std.specs.Prelude.{ℕ, Option, Some, None, ◌+◌, ◌*◌, cond, List, [], ◌∷◌, map, length, ltb}
use Rattle.base.specs.Limits.{most_car_lines, most_strikes, grade_count}
use Rattle.base.specs.Answer.{Answer, figures, refusal}
use Rattle.base.specs.Buffer.{put}
use Rattle.base.specs.declared.refusal.Refusal.{Refusal}
use Rattle.base.specs.Refusal.{refusal_number}
use Rattle.reading.specs.declared.letter.Letter.TheVariants.{Strike as K, CarAccepted, CarRefused, Totals as S, GradeTotals as G, SheetRefused}
use Rattle.reading.specs.declared.letter.Line.{Line}
use Rattle.reading.specs.Letter.{width_of}
use Rattle.table.specs.Table.{Table}
use Rattle.car.specs.Car.{car_of, dipped, intake_number}
use Rattle.summing.specs.declared.Totals.{Totals}
use Rattle.summing.specs.declared.Sums.{Sums}
use Rattle.consist.specs.Train.{Train, empty_train}
use Rattle.consist.specs.Book.{Item, car, strike}
use Rattle.consist.specs.Demand3.{answer_to, train_with}
use Rattle.grammar.specs.Grammar.{TrainLine, enters, strikes}
use Rattle.grammar.specs.Text.{line_with, text_of}
use Rattle.grammar.specs.Sheet.{SheetRead, refused_at, whole, sheet_of}
use Rattle.answers.specs.declared.Reply.{Reply}

-- The lines behind a sheet's tables.

-- a C line is a car on the sheet's tables, a K line a strike
abbrev pub item_of : List Table → TrainLine → Item
item_of ts (enters numbers) = car ts (dipped (car_of numbers))
item_of ts (strikes number) = strike number

abbrev pub items_of : List Table → List TrainLine → List Item
items_of ts history = map (item_of ts) history

-- The lines of an answer.

-- A with the six figures, or X with the car number and the refusal number
abbrev pub answer_line : ℕ → Answer → Line
answer_line number (figures values) = line_with CarAccepted values
answer_line number (refusal n) = line_with CarRefused (number ∷ n ∷ [])

-- K with the number, or X with it and the refusal number
abbrev pub struck_line : ℕ → Answer → Line
struck_line number (figures values) = line_with K values
struck_line number (refusal n) = line_with CarRefused (number ∷ n ∷ [])

-- the line of an item that got this answer
abbrev pub item_line : Item → Answer → Line
item_line (car ts c) a = answer_line (intake_number c) a
item_line (strike number) a = struck_line number a

-- S: accepted cars, gross total, net total
abbrev pub totals_line : Totals → Line
totals_line t = line_with S (t.accepted ∷ t.gross ∷ t.net ∷ [])

-- G: grade, accepted cars, gross total, net total
abbrev pub grade_line : ℕ → Totals → Line
grade_line g t = line_with G (g ∷ t.accepted ∷ t.gross ∷ t.net ∷ [])

-- a G line for each, the first of them for the grade g
abbrev pub grade_lines : ℕ → List Totals → List Line
grade_lines g [] = []
grade_lines g (t ∷ ts) = grade_line g t ∷ grade_lines (g + 1) ts

-- Z: line number, refusal number
abbrev pub sheet_refused_line : ℕ → ℕ → Line
sheet_refused_line line number = line_with SheetRefused (line ∷ number ∷ [])

-- what stands behind the items' lines: S, then G for grades 1 to 4
abbrev pub totals_lines : Sums → List Line
totals_lines s = totals_line s.all ∷ grade_lines 1 s.grades

-- a line for each item, handed in one after another from a train, then its totals
abbrev pub lines_from : Train → List Item → List Line
lines_from t [] = totals_lines t.sums
lines_from t (i ∷ is) = item_line i (answer_to t i) ∷ lines_from (train_with t i) is

abbrev pub answer_lines : SheetRead → List Line
answer_lines (refused_at line number) = sheet_refused_line line number ∷ []
answer_lines (whole ts history) = lines_from empty_train (items_of ts history)

-- The answer.

abbrev pub sheet_number : SheetRead → ℕ
sheet_number (refused_at line number) = number
sheet_number (whole ts history) = 0

-- the longest answer, in bytes, and so the least buffer: 8,101
abbrev pub least_buffer : ℕ
least_buffer = most_car_lines * width_of CarAccepted + most_strikes * width_of CarRefused + width_of S + grade_count * width_of G

-- what a reply tells: the answer's length, and the number of the refusal, 0 where there is none
pub record Told : Type 0 where
  pub length : ℕ
  pub number : ℕ

abbrev pub refused_number : Option Refusal → ℕ
refused_number None = 0
refused_number (Some r) = refusal_number r

abbrev pub reply_told : Reply → Told
reply_told r = record { length = r.length; number = refused_number r.refusal }

-- 1: the answer buffer is shorter; the length is 0 and the number 1 is handed back
unfoldable pub reply_of : List ℕ → ℕ → Told
reply_of s room =
    cond (ltb room least_buffer)
    (record { length = 0; number = 1 })
    (record { length = length (text_of (answer_lines (sheet_of s))); number = sheet_number (sheet_of s) })

-- nothing is written for 1; else the answer, and every byte past it stays as lent
unfoldable pub after_answer : List ℕ → List ℕ → List ℕ
after_answer s lent = cond (ltb (length lent) least_buffer) lent (put lent 0 (text_of (answer_lines (sheet_of s))))
