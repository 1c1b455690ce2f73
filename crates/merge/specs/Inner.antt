-- The entries of the cars that a sheet holds and of its tables, and the sheet that entries in two orders stand for; it is no part of what a merged sheet means.
use Rattle.std.specs.Prelude.{ℕ, ◌≤◌, ◌<◌, ◌≡◌, List, [], ◌∷◌, ◌++◌, map, length, take}
use Rattle.base.specs.Limits.{most_cars}
use Rattle.base.specs.Lists.{Each}
use Rattle.table.specs.declared.Tables.{Tables}
use Rattle.grammar.specs.Text.{text_of}
use Rattle.grammar.specs.Grammar.{e_line}
use Rattle.grammar.specs.Sheet.{sheet_of}
use Rattle.merge_spec.specs.Held.{number_of}
use Rattle.merge_spec.specs.Merge.{half_of}
use Rattle.merge_spec.specs.Reply.{MergeReply}
use Rattle.merge_spec.specs.Inner.{Merged, merged_of, reply_to, written_for}
use Rattle.merge_order.specs.Inner.{entries_of}
use Rattle.merge_lines.specs.declared.read.ReadSheet.{ReadSheet}
use Rattle.merge_held.specs.declared.Held.{Held}
use Rattle.merge_held.specs.Inner.{most_lines, cars_at}
use Rattle.merge_write.specs.Inner.{car_lines, CarsReady, tables_text, TablesReady}

-- what becomes of two sheets by their bytes
abbrev pub merged_sheets : List ℕ → List ℕ → Merged
merged_sheets s r = merged_of (half_of (sheet_of s)) (half_of (sheet_of r))

-- what is handed back of it, and what is left in the lent buffer
abbrev pub Gives : Merged → List ℕ → MergeReply → List ℕ → Type 0
Gives m lent reply left = (reply ≡ reply_to m) × (left ≡ written_for m lent)

abbrev pub car_entries : ℕ → Held → List ℕ
car_entries offset h = entries_of offset (take h.count h.numbers) (take h.count h.places)

abbrev pub table_entries : ℕ → Tables → List ℕ
table_entries offset t = entries_of offset (take t.count t.types) (take t.count (0 ∷ 1 ∷ 2 ∷ 3 ∷ []))

-- what is known of cars held at places
pub record HeldAt (s : ReadSheet) (h : Held) : Type 0 where
  pub few : h.count ≤ most_cars
  pub numbers : take h.count h.numbers ≡ map number_of (cars_at s h)
  pub places : Each (λ p. p < most_lines) (take h.count h.places)

-- the sheet that entries in two orders stand for: bytes of tables copied from either sheet, then C lines and E
module _ (first second : ReadSheet) (tables cars : List ℕ) where
  abbrev pub text_for : List ℕ
  text_for = tables_text first second tables ++ text_of (car_lines first second cars ++ (e_line (length cars) ∷ []))

  -- what is asked for to write it from the start of so many bytes
  pub record SheetReady (room : ℕ) : Type 0 where
    pub front : TablesReady first second tables 0 room
    pub rear : CarsReady first second cars (length (tables_text first second tables)) room
    pub sixty : length cars ≤ most_cars
    pub space : length text_for ≤ room
