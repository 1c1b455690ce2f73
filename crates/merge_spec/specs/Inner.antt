-- How the sheet made of two is worked out, and what is known of the two; it is no part of what it is.
use Rattle.std.specs.Prelude.{ℕ, ◌≤◌, ◌≡◌, Bool, false, cond, not, ◌||◌, List, [], ◌∷◌, ◌++◌, map, ltb, leb, eqb, length}
use Rattle.base.specs.Answer.{Test, refuse_if, Verdict, accepts, refuses, first}
use Rattle.base.specs.Buffer.{put}
use Rattle.base.specs.Limits.{largest, most_tables, most_cars}
use Rattle.base.specs.Lists.{Each}
use Rattle.base.specs.Numbers.{outside, member}
use Rattle.base.specs.Total.{selected}
use Rattle.table.specs.Table.{Table, tables_verdict}
use Rattle.grammar.specs.Grammar.{TrainLine, enters, strikes, CarNumbers, sheet_text}
use Rattle.merge_spec.specs.Reply.{MergeReply}
use Rattle.merge_spec.specs.Order.{In}
use Rattle.merge_spec.specs.Held.{number_of}
use Rattle.merge_spec.specs.Merge.{Half, refused_at, holds, table_kind, rows_differ, type_elsewhere, held_on_both}

-- no two elements have the same key
abbrev pub Distinct : {A : Type 0} → (A → ℕ) → List A → Type 0
Distinct key [] = Unit {0}
Distinct key (a ∷ l) = Each (λ b. key a ≡ key b → ⊥) l × Distinct key l

-- where a key of `xs` stands in `ys` too, the elements are the same
pub record Agree {A : Type 0} (key : A → ℕ) (xs ys : List A) : Type 0 where
  pub same : (x y : A) → In x xs → In y ys → key x ≡ key y → x ≡ y

-- an element put in its place among those of a rising list; the list itself where its key is there
abbrev pub inserted : {A : Type 0} → (A → ℕ) → A → List A → List A
inserted key x [] = x ∷ []
inserted key x (y ∷ l) = cond (ltb (key x) (key y)) (x ∷ y ∷ l) (cond (eqb (key x) (key y)) (y ∷ l) (y ∷ inserted key x l))

-- the elements of `xs`, one after another
abbrev pub inserted_all : {A : Type 0} → (A → ℕ) → List A → List A → List A
inserted_all key [] l = l
inserted_all key (x ∷ xs) l = inserted key x (inserted_all key xs l)

-- the list that is `Joined`, where elements of the same key are the same
unfoldable pub joined : {A : Type 0} → (A → ℕ) → List A → List A → List A
joined key xs ys = inserted_all key xs (inserted_all key ys [])

abbrev pub joined_tables : List Table → List Table → List Table
joined_tables ts us = joined table_kind ts us

abbrev pub joined_cars : List (List ℕ) → List (List ℕ) → List (List ℕ)
joined_cars cs ds = joined number_of cs ds

-- What is known of a sheet that is not refused and of the cars that it holds: one table at least, to which neither 7 nor 8 applies; at most sixty cars,
-- each of fourteen numbers that a field holds, with a number in 10's range, and no number twice.
pub record Holds (ts : List Table) (cars : List (List ℕ)) : Type 0 where
  pub some : 1 ≤ length ts
  pub accepted : tables_verdict ts ≡ accepts
  pub each : Each CarNumbers cars
  pub numbered : Each (λ car. outside 1 largest (number_of car) ≡ false) cars
  pub distinct : Distinct number_of cars
  pub sixty : length cars ≤ most_cars

-- The cars held, kept line by line.

-- behind cars of these numbers a car is turned away by 9, 10 or 11
abbrev pub turned_away : List ℕ → List ℕ → Bool
turned_away before car = leb most_cars (length before) || outside 1 largest (number_of car) || member (number_of car) before

-- the cars but for that of a number
abbrev pub cars_without : ℕ → List (List ℕ) → List (List ℕ)
cars_without number cars = selected (λ car. not (eqb (number_of car) number)) cars

abbrev pub kept_behind : List (List ℕ) → TrainLine → List (List ℕ)
kept_behind kept (enters car) = cond (turned_away (map number_of kept) car) kept (kept ++ (car ∷ []))
kept_behind kept (strikes number) = cars_without number kept

abbrev pub kept_from : List (List ℕ) → List TrainLine → List (List ℕ)
kept_from kept [] = kept
kept_from kept (line ∷ history) = kept_from (kept_behind kept line) history

-- The sheet made of two, by lists put in their order.

pub data Merged : Type 0 where
  refused : ℕ → ℕ → Merged
  sheet : List Table → List (List ℕ) → Merged

-- 33 and 34
abbrev pub conflict_tests : List Table → List (List ℕ) → List Table → List (List ℕ) → List Test
conflict_tests ts cs us ds = refuse_if 33 (rows_differ ts us || type_elsewhere ts us cs || type_elsewhere us ts ds) ∷ refuse_if 34 (held_on_both cs ds) ∷ []

-- 35, of the tables and cars together
abbrev pub size_tests : List Table → List (List ℕ) → List Test
size_tests ms es = refuse_if 35 (ltb most_tables (length ms) || ltb most_cars (length es)) ∷ []

abbrev pub merged_by : Verdict → List Table → List (List ℕ) → Merged
merged_by accepts ms es = sheet ms es
merged_by (refuses number) ms es = refused 0 number

abbrev pub merged_of : Half → Half → Merged
merged_of (refused_at line number) b = refused line number
merged_of (holds ts cs) (refused_at line number) = refused line number
merged_of (holds ts cs) (holds us ds) = merged_by (first (conflict_tests ts cs us ds ++ size_tests (joined_tables ts us) (joined_cars cs ds))) (joined_tables ts us) (joined_cars cs ds)

abbrev pub merged_text : List Table → List (List ℕ) → List ℕ
merged_text ms es = sheet_text ms (map enters es)

abbrev pub reply_to : Merged → MergeReply
reply_to (refused line number) = record { length = 0; number = number; line = line }
reply_to (sheet ms es) = record { length = length (merged_text ms es); number = 0; line = 0 }

abbrev pub written_for : Merged → List ℕ → List ℕ
written_for (refused line number) lent = lent
written_for (sheet ms es) lent = put lent 0 (merged_text ms es)
