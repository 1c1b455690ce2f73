-- Document 01's own sheet, the same with strikes, and the empty sheet, computed.
use Prim.Native.Nat.{ℕ}
use mathlib.Core.Path.{◌≡◌, refl}
use mathlib.Core.List.{List, [], ◌∷◌, ◌++◌, map}
use Rattle.field.specs.Field.{seen_to, field_at, justified, field_of}
use Rattle.reading.specs.declared.letter.Letter.{Letter}
use Rattle.reading.specs.declared.letter.Letter.TheVariants.{Table as T, Row as R, Car as C, Strike as K, End as E}
use Rattle.reading.specs.Reading.{letter_of, feed, feed_at, good, values, line_by, line_at}
use Rattle.line.specs.Writing.{fields_of, line_of}
use Rattle.table.specs.Table.{row_of, Table}
use Rattle.grammar.specs.Text.{text_of}
use Rattle.grammar.specs.Grammar.{TrainLine, enters, strikes, sheet_text}
use Rattle.grammar.specs.Sheet.{refused_at, whole, table_line, row_line, car_line, strike_line, end_line, step_of, lines, sheet_of}

text : Letter → List ℕ → List ℕ
text letter ns = line_of (record { letter = letter; numbers = ns })

cars : List (List ℕ)
cars =
    (50_000_001 ∷ 1 ∷ 3 ∷ 1 ∷ 2 ∷ 1_500 ∷ 1_500 ∷ 0 ∷ 0 ∷ 0 ∷ 600 ∷ 9_500 ∷ 50 ∷ 20 ∷ [])
    ∷ (50_000_002 ∷ 1 ∷ 3 ∷ 1 ∷ 2 ∷ 1_500 ∷ 1_501 ∷ 0 ∷ 0 ∷ 1_501 ∷ 600 ∷ 9_500 ∷ 50 ∷ 20 ∷ [])
    ∷ []

tables : List Table
tables = record { kind = 1; rows = row_of 0 0 ∷ row_of 1_000 20_000 ∷ row_of 2_000 50_000 ∷ row_of 3_000 70_000 ∷ [] } ∷ []

texts : List (List ℕ) → List ℕ
texts [] = []
texts (c ∷ cs) = text C c ++ texts cs

sheet : List ℕ
sheet =
    text T (1 ∷ 4 ∷ []) ++ text R (0 ∷ 0 ∷ []) ++ text R (1_000 ∷ 20_000 ∷ []) ++ text R (2_000 ∷ 50_000 ∷ []) ++ text R (3_000 ∷ 70_000 ∷ [])
    ++ texts cars
    ++ text E (2 ∷ [])

-- it is the text of its table and cars
sheet_text_lem : sheet_text tables (map enters cars) ≡ sheet
unfolding text cars tables texts sheet fields_of justified field_of line_of text_of
sheet_text_lem = refl

sheet_read : sheet_of sheet ≡ whole tables (map enters cars)
unfolding text cars tables texts sheet fields_of justified field_of line_of seen_to field_at letter_of feed feed_at good values line_by line_at table_line row_line car_line end_line step_of lines sheet_of
sheet_read = refl

-- strikes before, between and behind the cars, of a number that no car has too; E counts the C lines only
struck_history : List TrainLine
struck_history =
    strikes 50_000_001
    ∷ enters (50_000_001 ∷ 1 ∷ 3 ∷ 1 ∷ 2 ∷ 1_500 ∷ 1_500 ∷ 0 ∷ 0 ∷ 0 ∷ 600 ∷ 9_500 ∷ 50 ∷ 20 ∷ [])
    ∷ strikes 50_000_001
    ∷ []

table_text : List ℕ
table_text = text T (1 ∷ 2 ∷ []) ++ text R (0 ∷ 0 ∷ []) ++ text R (1_000 ∷ 20_000 ∷ [])

small : List Table
small = record { kind = 1; rows = row_of 0 0 ∷ row_of 1_000 20_000 ∷ [] } ∷ []

struck_read : sheet_of (sheet_text small struck_history) ≡ whole small struck_history
unfolding struck_history small fields_of justified field_of line_of text_of seen_to field_at letter_of feed feed_at good values line_by line_at table_line row_line car_line strike_line end_line step_of lines sheet_of
struck_read = refl

-- a K line before the tables, while rows are owed, and a T line behind a K line: each is 4 at its line
strike_first : sheet_of (text K (7 ∷ []) ++ table_text) ≡ refused_at 1 4
unfolding text table_text fields_of justified field_of line_of seen_to field_at letter_of feed feed_at good values line_by line_at table_line row_line step_of lines sheet_of
strike_first = refl

strike_among_rows : sheet_of (text T (1 ∷ 2 ∷ []) ++ text K (7 ∷ [])) ≡ refused_at 2 4
unfolding text fields_of justified field_of line_of seen_to field_at letter_of feed feed_at good values line_by line_at table_line row_line step_of lines sheet_of
strike_among_rows = refl

table_after_strike : sheet_of (table_text ++ text K (7 ∷ []) ++ table_text) ≡ refused_at 5 4
unfolding text table_text fields_of justified field_of line_of seen_to field_at letter_of feed feed_at good values line_by line_at table_line row_line strike_line step_of lines sheet_of
table_after_strike = refl

-- nothing at all: the first line is due
empty : sheet_of [] ≡ refused_at 1 3
unfolding feed feed_at line_at step_of lines sheet_of
empty = refl
