-- Two sheets become one (request (k)): refusals 33 to 35, the sheet that is made, and what merging hands back and writes.
use Rattle.std.specs.Prelude.{ℕ, ◌+◌, ◌*◌, ◌≡◌, Bool, true, false, cond, ◌||◌, ◌&&◌, not, List, [], ◌∷◌, map, ltb, eqb, length}
use Rattle.base.specs.Answer.{Test, refuse_if, Verdict, accepts, refuses, first}
use Rattle.base.specs.Buffer.{put}
use Rattle.base.specs.Limits.{most_tables, most_rows, most_cars}
use Rattle.base.specs.Numbers.{any, member}
use Rattle.base.specs.Total.{selected}
use Rattle.reading.specs.declared.letter.Letter.TheVariants.{Table as T, Row as R, Car as C, End as E}
use Rattle.reading.specs.Letter.{width_of}
use Rattle.table.specs.Table.{Row, Table, unknown, rows_of}
use Rattle.grammar.specs.Grammar.{enters, sheet_text}
use Rattle.grammar.specs.Sheet.{SheetRead, sheet_of}
use Rattle.grammar.specs.Sheet as reading
use Rattle.merge_spec.specs.Reply.{MergeReply}
use Rattle.merge_spec.specs.Order.{Joined}
use Rattle.merge_spec.specs.Held.{number_of, kind_of, cars_held}

-- What is to be merged: a sheet that is itself refused, at a line by a number; or its tables, and the cars that it holds.
pub data Half : Type 0 where
  refused_at : ℕ → ℕ → Half
  holds : List Table → List (List ℕ) → Half

abbrev pub half_of : SheetRead → Half
half_of (reading.refused_at line number) = refused_at line number
half_of (reading.whole ts history) = holds ts (cars_held ts history)

-- 33: a type has different rows on the two sheets.

abbrev pub same_row : Row → Row → Bool
same_row a b = eqb a.level b.level && eqb a.capacity b.capacity

abbrev pub same_rows : List Row → List Row → Bool
same_rows [] [] = true
same_rows [] (b ∷ k) = false
same_rows (a ∷ l) [] = false
same_rows (a ∷ l) (b ∷ k) = same_row a b && same_rows l k

abbrev pub rows_differ : List Table → List Table → Bool
rows_differ [] us = false
rows_differ (t ∷ ts) us = (not (unknown t.kind us) && not (same_rows t.rows (rows_of t.kind us))) || rows_differ ts us

-- 33: a car held on a sheet with the tables ts is refused by 12, which is to say that they lack its type (ByTwelve), and the other, with us, has it
abbrev pub type_elsewhere : List Table → List Table → List (List ℕ) → Bool
type_elsewhere ts us [] = false
type_elsewhere ts us (car ∷ cars) = (unknown (kind_of car) ts && not (unknown (kind_of car) us)) || type_elsewhere ts us cars

-- 34: a car number is held on both
abbrev pub held_on_both : List (List ℕ) → List (List ℕ) → Bool
held_on_both cs ds = any (λ (n : ℕ). member n (map number_of ds)) (map number_of cs)

-- how many types there are on both: those of us, and of ts those that us lacks
abbrev pub types_together : List Table → List Table → ℕ
types_together ts us = length us + length (selected (λ (t : Table). unknown t.kind us) ts)

-- 33 to 35, in the listed order, of sheets with the tables ts and us that hold the cars cs and ds
abbrev pub merge_tests : List Table → List (List ℕ) → List Table → List (List ℕ) → List Test
merge_tests ts cs us ds =
    refuse_if 33 (rows_differ ts us || type_elsewhere ts us cs || type_elsewhere us ts ds)
    ∷ refuse_if 34 (held_on_both cs ds)
    -- 35: more than four types or sixty cars remain
    ∷ refuse_if 35 (ltb most_tables (types_together ts us) || ltb most_cars (length cs + length ds))
    ∷ []

-- What becomes of two sheets: a refusal, with its line; or one sheet of the tables ts and us and the cars cs and ds.
pub data Merging : Type 0 where
  refused : ℕ → ℕ → Merging
  together : List Table → List (List ℕ) → List Table → List (List ℕ) → Merging

-- a refusal of merging itself has line 0
abbrev pub merging_by : Verdict → List Table → List (List ℕ) → List Table → List (List ℕ) → Merging
merging_by (refuses number) ts cs us ds = refused 0 number
merging_by accepts ts cs us ds = together ts cs us ds

-- a sheet's own refusal, the first's before the second's; then 33 to 35
abbrev pub merging_of : Half → Half → Merging
merging_of (refused_at line number) b = refused line number
merging_of (holds ts cs) (refused_at line number) = refused line number
merging_of (holds ts cs) (holds us ds) = merging_by (first (merge_tests ts cs us ds)) ts cs us ds

-- the longest merged sheet, in bytes, and so the least buffer: 39,771
abbrev pub least_merge_buffer : ℕ
least_merge_buffer = most_tables * (width_of T + most_rows * width_of R) + most_cars * width_of C + width_of E

-- 1: the buffer is shorter, before all others
abbrev pub merging_in : ℕ → Half → Half → Merging
merging_in room a b = cond (ltb room least_merge_buffer) (refused 0 1) (merging_of a b)

abbrev pub table_kind : Table → ℕ
table_kind t = t.kind

-- The sheet that is made: each type of either once with its rows, rising by type; each car held on either once, by its line, rising by number; E.
pub record OneText (ts : List Table) (cs : List (List ℕ)) (us : List Table) (ds : List (List ℕ)) (text : List ℕ) : Type 0 where
  pub tables : List Table
  pub cars : List (List ℕ)
  pub types_joined : Joined table_kind ts us tables
  pub cars_joined : Joined number_of cs ds cars
  pub is : text ≡ sheet_text tables (map enters cars)

-- its text is written, and every byte past it stays as lent
pub record Written (ts : List Table) (cs : List (List ℕ)) (us : List Table) (ds : List (List ℕ)) (lent : List ℕ) (reply : MergeReply) (left : List ℕ) : Type 0 where
  pub text : List ℕ
  pub made : OneText ts cs us ds text
  pub handed : reply ≡ record { length = length text; number = 0; line = 0 }
  pub bytes : left ≡ put lent 0 text

-- what is handed back, and what is left in the lent buffer; a refused merge writes nothing
abbrev pub Done : Merging → List ℕ → MergeReply → List ℕ → Type 0
Done (refused line number) lent reply left = (reply ≡ record { length = 0; number = number; line = line }) × (left ≡ lent)
Done (together ts cs us ds) lent reply left = Written ts cs us ds lent reply left

-- the merging of two sheets by their bytes
abbrev pub Merges : List ℕ → List ℕ → List ℕ → MergeReply → List ℕ → Type 0
Merges s r lent reply left = Done (merging_in (length lent) (half_of (sheet_of s)) (half_of (sheet_of r))) lent reply left
