-- What holds of a sheet made of two: promises about what is handed back and written.
use Rattle.std.specs.Prelude.{ℕ, ◌≤◌, ◌≡◌, true, List, [], ◌∷◌, map, length}
use Rattle.base.specs.Answer.{refuses, first}
use Rattle.base.specs.Buffer.{put}
use Rattle.table.specs.Table.{Table, unknown}
use Rattle.car.specs.Car.{car_of, dipped, car_tests}
use Rattle.summing.specs.declared.Sums.{Sums}
use Rattle.summing.specs.Sums.{grade_totals, together}
use Rattle.consist.specs.Train.{empty_train, held_by}
use Rattle.consist.specs.Book.{number_in, book_from}
use Rattle.consist.specs.Demand3.{train_from}
use Rattle.grammar.specs.Grammar.{TrainLine, enters, sheet_text}
use Rattle.grammar.specs.Sheet.{sheet_of, whole}
use Rattle.answers.specs.Listing.{items_of}
use Rattle.merge_spec.specs.Reply.{MergeReply}
use Rattle.merge_spec.specs.Order.{In, Joined}
use Rattle.merge_spec.specs.Held.{kind_of, held_number, held_on, cars_held}
use Rattle.merge_spec.specs.Merge.{table_kind, least_merge_buffer, Merges}

-- count, gross and net, of all cars and of each grade, as the S and G lines of a sheet's listing have them
abbrev pub sums_on : List Table → List TrainLine → Sums
sums_on ts history = (train_from empty_train (items_of ts history)).sums

-- each number of s is the sum of those of a and b
pub record AddUp (a b s : Sums) : Type 0 where
  pub all : s.all ≡ together (a.all ∷ b.all ∷ [])
  pub grade : (g : ℕ) → grade_totals g s ≡ together (grade_totals g a ∷ grade_totals g b ∷ [])

-- the bytes that merging the sheets s and r wrote
pub record MadeOf (s r text : List ℕ) : Type 0 where
  pub first_tables_lem : List Table
  pub first_lines : List TrainLine
  pub second_tables_lem : List Table
  pub second_lines : List TrainLine
  pub tables : List Table
  pub cars : List (List ℕ)
  -- both sheets are read whole, and so is what was written, which has no K line
  pub first_read : sheet_of s ≡ whole first_tables_lem first_lines
  pub second_read : sheet_of r ≡ whole second_tables_lem second_lines
  pub read : sheet_of text ≡ whole tables (map enters cars)
  -- each is the text of what was read, so that a car's line is the same bytes on its own sheet and here
  pub first_text : s ≡ sheet_text first_tables_lem first_lines
  pub second_text : r ≡ sheet_text second_tables_lem second_lines
  pub text_is : text ≡ sheet_text tables (map enters cars)
  pub short : length text ≤ least_merge_buffer
  -- each type of either once, with its rows
  pub types : Joined table_kind first_tables_lem second_tables_lem tables
  -- every car here is held
  pub all_held : cars_held tables (map enters cars) ≡ cars
  -- they are the cars held on either, each with the same answer as there: its six figures, or its refusal
  pub answers : Joined held_number (held_on first_tables_lem first_lines) (held_on second_tables_lem second_lines) (held_on tables (map enters cars))
  -- count and totals, of all and of each grade, are the sums of both
  pub sums : AddUp (sums_on first_tables_lem first_lines) (sums_on second_tables_lem second_lines) (sums_on tables (map enters cars))
  -- with a sheet of one of its tables and no cars it gives itself again
  pub again : (t : Table) → In t tables → (lent : List ℕ) (reply : MergeReply) (left : List ℕ) → least_merge_buffer ≤ length lent
      → Merges text (sheet_text (t ∷ []) []) lent reply left → (reply ≡ record { length = length text; number = 0; line = 0 }) × (left ≡ put lent 0 text)

-- The cars held on a sheet are those of its train, and those that have an entry in the book, in their order.
pub record HeldByTrain (ts : List Table) (history : List TrainLine) : Type 0 where
  pub train : held_by (train_from empty_train (items_of ts history)) ≡ map held_number (held_on ts history)
  pub book : map number_in (book_from [] (items_of ts history)) ≡ map held_number (held_on ts history)

-- Beside 33: a car's own tests refuse it by 12 exactly where its tables lack its type.
pub record ByTwelve (ts : List Table) (car : List ℕ) : Type 0 where
  pub lacking : unknown (kind_of car) ts ≡ true → first (car_tests ts (dipped (car_of car))) ≡ refuses 12
  pub refused : first (car_tests ts (dipped (car_of car))) ≡ refuses 12 → unknown (kind_of car) ts ≡ true

-- Laws of merging two sheets.
pub record MergeLaws (s r : List ℕ) : Type 0 where
  -- one answer and one contents of the buffer
  pub once : (lent : List ℕ) (a b : MergeReply) (left left' : List ℕ) → Merges s r lent a left → Merges s r lent b left' → (a ≡ b) × (left ≡ left')
  -- where it is not refused, the other way round does the same
  pub swapped : (lent : List ℕ) (reply : MergeReply) (left : List ℕ) → reply.number ≡ 0 → Merges s r lent reply left → Merges r s lent reply left
  pub first_held : (ts : List Table) (history : List TrainLine) → sheet_of s ≡ whole ts history → HeldByTrain ts history
  pub second_held : (us : List Table) (history : List TrainLine) → sheet_of r ≡ whole us history → HeldByTrain us history
  pub by_twelve : (ts : List Table) (car : List ℕ) → ByTwelve ts car
