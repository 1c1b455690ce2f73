-- The bytes of a sheet's tables are found where their numbers of rows say.
use Prim.Native.Nat.{ℕ, zero, suc, ◌+◌, ◌-◌, ◌*◌, ◌≤◌, ◌<◌}
use mathlib.Core.Path.{◌≡◌, refl, ap, ap₂, sym, ◌∙◌}
use mathlib.Core.List.{List, [], ◌∷◌, ◌++◌, map, append_assoc}
use native.Mathlib.Numerals.{add-one}
use native.Mathlib.Omega.{arith}
use lib.ListN.{length, get_or, take, drop, length-append, length-drop}
use lib.Seq.{drop-drop, take_at, drop_at}
use Rattle.base.specs.Limits.{most_rows}
use Rattle.reading.specs.declared.letter.Letter.TheVariants.{Row as R}
use Rattle.reading.specs.declared.letter.Line.{Line}
use Rattle.reading.specs.Letter.{width_of}
use Rattle.line.specs.Writing.{line_of}
use Rattle.line.proofs.Bytes.{length_line_of}
use Rattle.table.specs.Table.{Table}
use Rattle.table.specs.declared.Tables.{Tables}
use Rattle.table.specs.Layout.{table_at, tables_from}
use Rattle.table.proofs.Arrays.{length_rows, tables_step, good_table}
use Rattle.grammar.specs.Text.{text_of}
use Rattle.grammar.specs.Grammar.{TrainLine, as_line, cars_in, t_line, r_line, e_line, table_lines, tables_lines}
use Rattle.grammar.proofs.Text.{text-append, rows-length}
use Rattle.holding.specs.Layout.{history_of}
use Rattle.merge_lines.specs.declared.read.ReadSheet.{ReadSheet}
use Rattle.merge_lines.proofs.Known.{its_text, its_tables}
use Rattle.merge_write.specs.Inner.{table_bytes, start_of, table_text, Within}

module _ (s : ReadSheet) where
  abbrev t : Tables
  t = s.tables

  abbrev history : List TrainLine
  history = history_of s.fields.now s.lines

  abbrev text : List ℕ
  text = s.text.now

  abbrev pub table : ℕ → Table
  table k = table_at t.types t.rows t.levels.now t.capacities.now k

  -- the tables from k on, and the lines behind them
  abbrev tables : ℕ → List Line
  tables k = tables_lines (tables_from t.types t.rows t.levels.now t.capacities.now k (t.count - k))

  abbrev behind : List Line
  behind = map as_line history ++ (e_line (cars_in history) ∷ [])

  table-length : (k : ℕ) → length (text_of (table_lines (table k))) ≡ table_bytes t.rows k
  unfolding text_of
  table-length k =
      let rows = (table k).rows in
      length-append (line_of (t_line (table k).kind (length rows))) (text_of (map r_line rows))
      ∙ ap₂ (λ (m n : ℕ). m + n) (length_line_of (t_line (table k).kind (length rows)) refl)
      (rows-length rows ∙ ap (λ (n : ℕ). width_of R * n) (length_rows t.levels.now t.capacities.now (most_rows * k) (get_or t.rows k 0)))

  next : (k : ℕ) → k < t.count → text_of (tables k ++ behind) ≡ text_of (table_lines (table k)) ++ text_of (tables (k + 1) ++ behind)
  next k h =
      ap (λ (ts : List Table). text_of (tables_lines ts ++ behind)) (tables_step t.types t.rows t.levels.now t.capacities.now k t.count h)
      ∙ ap text_of (append_assoc (table_lines (table k)) (tables (k + 1)) behind)
      ∙ text-append (table_lines (table k)) (tables (k + 1) ++ behind)

  from : (k : ℕ) → k ≤ t.count → drop (start_of t.rows k) text ≡ text_of (tables k ++ behind)
  from zero h = let e : t.count - 0 ≡ t.count = omega arith in its_text s ∙ ap (λ (n : ℕ). text_of (tables_lines (tables_from t.types t.rows t.levels.now t.capacities.now 0 n) ++ behind)) (sym e)
  from (suc k) h =
      sym (drop-drop (table_bytes t.rows k) (start_of t.rows k) text)
      ∙ ap (drop (table_bytes t.rows k)) (from k (omega arith) ∙ next k (omega arith))
      ∙ drop_at (text_of (table_lines (table k))) (text_of (tables (k + 1) ++ behind)) (table_bytes t.rows k) (table-length k)
      ∙ ap (λ (n : ℕ). text_of (tables n ++ behind)) (add-one k)

  pub table_copied : (k : ℕ) → k < t.count → table_text s k ≡ text_of (table_lines (table k))
  table_copied k h =
      ap (take (table_bytes t.rows k)) (from k (omega arith) ∙ next k h)
      ∙ take_at (text_of (table_lines (table k))) (text_of (tables (k + 1) ++ behind)) (table_bytes t.rows k) (table-length k)

  pub table_within : (k : ℕ) → k < t.count → Within s k
  table_within k h =
      let left = ap length (from k (omega arith) ∙ next k h) ∙ length-append (text_of (table_lines (table k))) (text_of (tables (k + 1) ++ behind)) in
      record {
        rows = λ j i. (good_table (its_tables s) j (omega arith)).most;
        ends = omega (arith, left, table-length k, length-drop (start_of t.rows k) text);
      }
