-- Examples: the cars that lines and their answers leave, the order, merges that are refused and which of two refusals is given first, and the most that passes.
use Rattle.std.specs.Prelude.{ℕ, zero, suc, ◌+◌, ◌*◌, ◌≡◌, List, [], ◌∷◌, map, length}
use Rattle.base.specs.Answer.{Answer, figures, refusal}
use Rattle.base.specs.Buffer.{put}
use Rattle.base.specs.Lists.{Each}
use Rattle.table.specs.Table.{row_of, Table}
use Rattle.grammar.specs.Grammar.{TrainLine, enters, strikes, sheet_text}
use Rattle.grammar.specs.Sheet.{whole}
use Rattle.merge_spec.specs.Held.{HeldCar, held_in}
use Rattle.merge_spec.specs.Merge.{Half, refused_at, holds, half_of, refused, together, merging_of, merging_in, least_merge_buffer, Done}

-- a table of this type up to a level in mm, with ten times as many dm³
abbrev pub table_to : ℕ → ℕ → Table
table_to kind level = record { kind = kind; rows = row_of 0 0 ∷ row_of level (10 * level) ∷ [] }

-- the first car of document 01's sheet, with a number and a type
abbrev pub car_of_type : ℕ → ℕ → List ℕ
car_of_type number kind = number ∷ kind ∷ 3 ∷ 1 ∷ 2 ∷ 1_500 ∷ 1_500 ∷ 0 ∷ 0 ∷ 0 ∷ 600 ∷ 9_500 ∷ 50 ∷ 20 ∷ []

-- n cars of type 1, with numbers from `from` on
abbrev cars_of_one : ℕ → ℕ → List (List ℕ)
cars_of_one from zero = []
cars_of_one from (suc n) = car_of_type from 1 ∷ cars_of_one (from + 1) n

-- Two sheets and the refusal of their merge.
pub record Turned : Type 0 where
  pub a : Half
  pub b : Half
  pub line : ℕ
  pub number : ℕ

abbrev turned : Half → Half → ℕ → ℕ → Turned
turned a b line number = record { a = a; b = b; line = line; number = number }

abbrev one : List Table
one = table_to 1 2_000 ∷ []

abbrev two : List Table
two = table_to 2 2_000 ∷ []

abbrev four : List Table
four = table_to 4 2_000 ∷ table_to 2 2_000 ∷ table_to 3 2_000 ∷ table_to 1 2_000 ∷ []

-- type 1 with a higher last level; with another last capacity; with a row more between
abbrev higher : List Table
higher = table_to 1 2_001 ∷ []

abbrev fuller : List Table
fuller = record { kind = 1; rows = row_of 0 0 ∷ row_of 2_000 20_001 ∷ [] } ∷ []

abbrev longer : List Table
longer = record { kind = 1; rows = row_of 0 0 ∷ row_of 1_000 10_000 ∷ row_of 2_000 20_000 ∷ [] } ∷ []

unfoldable pub refused_merges : List Turned
refused_merges =
    -- a sheet's own refusal with its line, the first's before the second's, and before 33
    turned (refused_at 3 8) (refused_at 5 6) 3 8
    ∷ turned (refused_at 0 2) (holds one []) 0 2
    ∷ turned (holds one []) (refused_at 5 6) 5 6
    -- 33 by rows: a level, a capacity, a row more on either
    ∷ turned (holds one []) (holds higher []) 0 33
    ∷ turned (holds one []) (holds fuller []) 0 33
    ∷ turned (holds one []) (holds longer []) 0 33
    ∷ turned (holds longer []) (holds one []) 0 33
    -- 33 by a held car: its type is on the other sheet, the second or the first
    ∷ turned (holds one (car_of_type 5 2 ∷ [])) (holds two []) 0 33
    ∷ turned (holds two []) (holds one (car_of_type 5 2 ∷ [])) 0 33
    ∷ turned (holds one (car_of_type 4 9 ∷ car_of_type 5 1 ∷ [])) (holds two (car_of_type 6 2 ∷ car_of_type 7 1 ∷ [])) 0 33
    -- 33, of either kind, before 34 and 35
    ∷ turned (holds one (car_of_type 5 1 ∷ [])) (holds (table_to 2 2_000 ∷ higher) (car_of_type 5 1 ∷ [])) 0 33
    ∷ turned (holds one (car_of_type 5 2 ∷ [])) (holds two (car_of_type 5 2 ∷ [])) 0 33
    ∷ turned (holds four (cars_of_one 1 60)) (holds (table_to 4 2_001 ∷ table_to 5 2_000 ∷ []) (cars_of_one 60 2)) 0 33
    ∷ turned (holds four (car_of_type 5 6 ∷ [])) (holds (table_to 6 2_000 ∷ []) []) 0 33
    -- 34: also of cars that no table knows, and before 35
    ∷ turned (holds one (cars_of_one 1 2)) (holds one (cars_of_one 2 2)) 0 34
    ∷ turned (holds one (car_of_type 7 9 ∷ [])) (holds two (car_of_type 7 8 ∷ [])) 0 34
    ∷ turned (holds four (cars_of_one 1 60)) (holds (table_to 1 2_000 ∷ table_to 5 2_000 ∷ []) (cars_of_one 60 2)) 0 34
    -- 35: five types, with one in common or with none; sixty-one cars
    ∷ turned (holds four []) (holds (table_to 5 2_000 ∷ []) []) 0 35
    ∷ turned (holds four []) (holds (table_to 3 2_000 ∷ table_to 5 2_000 ∷ []) []) 0 35
    ∷ turned (holds one (cars_of_one 1 60)) (holds one (cars_of_one 61 1)) 0 35
    ∷ turned (holds one (cars_of_one 1 1)) (holds one (cars_of_one 2 60)) 0 35
    ∷ []

-- Lines behind a table and their answers: car 50; car 8, struck and entered again; the number 0; 50 again; 20, refused by 12; 31, struck; 30, refused by 17; 60, met
-- while sixty are held; 77 is struck, which is not there.
abbrev lines : List TrainLine
lines =
    enters (car_of_type 50 1) ∷ enters (car_of_type 8 1) ∷ enters (car_of_type 0 1) ∷ enters (car_of_type 50 2) ∷ strikes 8 ∷ enters (car_of_type 8 3)
    ∷ enters (car_of_type 20 5) ∷ enters (car_of_type 31 1) ∷ enters (car_of_type 30 1) ∷ strikes 31 ∷ enters (car_of_type 60 1) ∷ strikes 77 ∷ []

abbrev answered : List Answer
answered =
    figures (50 ∷ []) ∷ figures (8 ∷ []) ∷ refusal 10 ∷ refusal 11 ∷ figures (8 ∷ []) ∷ figures (8 ∷ [])
    ∷ refusal 12 ∷ figures (31 ∷ []) ∷ refusal 17 ∷ figures (31 ∷ []) ∷ refusal 9 ∷ refusal 30 ∷ []

abbrev stays : List ℕ → Answer → HeldCar
stays car a = record { car = car; answer = a }

-- Types 7 and 3 beside 3 and 1, cars 50, 8 and 20 beside 9 and 1; and what is made of them.
abbrev pub front_tables : List Table
front_tables = table_to 7 3_000 ∷ table_to 3 2_000 ∷ []

abbrev pub front_cars : List (List ℕ)
front_cars = car_of_type 50 7 ∷ car_of_type 8 3 ∷ car_of_type 20 5 ∷ []

abbrev pub rear_tables : List Table
rear_tables = table_to 3 2_000 ∷ table_to 1 1_000 ∷ []

abbrev pub rear_cars : List (List ℕ)
rear_cars = car_of_type 9 1 ∷ car_of_type 1 3 ∷ []

abbrev pub both_tables : List Table
both_tables = table_to 1 1_000 ∷ table_to 3 2_000 ∷ table_to 7 3_000 ∷ []

abbrev pub both_cars : List (List ℕ)
both_cars = car_of_type 1 3 ∷ car_of_type 8 3 ∷ car_of_type 9 1 ∷ car_of_type 20 5 ∷ car_of_type 50 7 ∷ []

abbrev pub both_text : List ℕ
both_text = sheet_text both_tables (map enters both_cars)

pub record MergeExamples : Type 0 where
  pub held : held_in one lines answered
      ≡ stays (car_of_type 50 1) (figures (50 ∷ [])) ∷ stays (car_of_type 8 3) (figures (8 ∷ [])) ∷ stays (car_of_type 20 5) (refusal 12) ∷ stays (car_of_type 30 1) (refusal 17) ∷ []
  -- tables that no car uses are there
  pub no_cars_lem : half_of (whole four []) ≡ holds four []
  -- a refused merge leaves the buffer as lent
  pub nothing : (lent : List ℕ) → Done (merging_of (refused_at 3 8) (holds one [])) lent (record { length = 0; number = 8; line = 3 }) lent
  -- the text is put into the buffer, and what was behind it stays, either way round
  pub order : (lent : List ℕ)
      → Done (merging_of (holds front_tables front_cars) (holds rear_tables rear_cars)) lent (record { length = length both_text; number = 0; line = 0 }) (put lent 0 both_text)
  pub swapped : (lent : List ℕ)
      → Done (merging_of (holds rear_tables rear_cars) (holds front_tables front_cars)) lent (record { length = length both_text; number = 0; line = 0 }) (put lent 0 both_text)
  pub turned_away_lem : Each (λ t. merging_of t.a t.b ≡ refused t.line t.number) refused_merges
  -- four types and sixty cars remain
  pub full : merging_of (holds four (cars_of_one 31 30)) (holds four (cars_of_one 1 30)) ≡ together four (cars_of_one 31 30) four (cars_of_one 1 30)
  pub full_with_none : merging_of (holds one (cars_of_one 1 60)) (holds four []) ≡ together one (cars_of_one 1 60) four []
  -- a car of a type that neither sheet has
  pub nowhere : merging_of (holds one (car_of_type 5 9 ∷ [])) (holds two []) ≡ together one (car_of_type 5 9 ∷ []) two []
  -- 1 before a sheet's own refusal, and by the size of every merged sheet, not by that of this one
  pub least : least_merge_buffer ≡ 39_771
  pub short : merging_in 39_770 (refused_at 3 8) (refused_at 5 6) ≡ refused 0 1
  pub short_for_little : merging_in 39_770 (holds one []) (holds one []) ≡ refused 0 1
  pub long_enough : merging_in 39_771 (refused_at 3 8) (refused_at 5 6) ≡ refused 3 8
