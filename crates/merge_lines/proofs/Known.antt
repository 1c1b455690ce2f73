-- What is known of a sheet that was read whole.
use Prim.Native.Nat.{ℕ, zero, suc, ◌+◌, ◌≤◌}
use mathlib.Core.Path.{◌≡◌, refl, ap}
use mathlib.Core.List.{List}
use native.Mathlib.Omega.{arith}
use lib.ListN.{length}
use Rattle.base.specs.Limits.{most_tables, most_car_lines, most_strikes}
use Rattle.table.specs.Layout.{tables_from, tables_in}
use Rattle.table.specs.Inner.{GoodTables}
use Rattle.grammar.specs.Grammar.{sheet_text, WholeSheet}
use Rattle.grammar.proofs.ByGrammar.{by_grammar}
use Rattle.holding.specs.Layout.{history_of}
use Rattle.holding.proofs.Arrays.{few_lines}
use Rattle.merge_lines.specs.declared.read.ReadSheet.{ReadSheet}

length_tables : (types rows l c : List ℕ) (k n : ℕ) → length (tables_from types rows l c k n) ≡ n
length_tables types rows l c k zero = refl
length_tables types rows l c k (suc n) = ap suc (length_tables types rows l c (k + 1) n)

module _ (s : ReadSheet) where
  pub its_parts : WholeSheet (tables_in s.tables) (history_of s.fields.now s.lines)
  its_parts = (by_grammar s.text.now).good (tables_in s.tables) (history_of s.fields.now s.lines) s.read

  pub its_text : s.text.now ≡ sheet_text (tables_in s.tables) (history_of s.fields.now s.lines)
  its_text = (by_grammar s.text.now).only (tables_in s.tables) (history_of s.fields.now s.lines) s.read

  pub its_tables : GoodTables s.tables
  its_tables = record { accepted = its_parts.accepted }

  pub its_lines : s.lines ≤ most_car_lines + most_strikes
  its_lines = few_lines s.fields.now s.lines its_parts.few_cars its_parts.few_strikes

  pub its_count : s.tables.count ≤ most_tables
  its_count =
      let t = s.tables in
      omega (arith, its_parts.four, length_tables t.types t.rows t.levels.now t.capacities.now 0 t.count)
