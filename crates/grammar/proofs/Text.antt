-- Laws of a sheet's text: lines joined, and its length.
use Prim.Native.Nat.{ℕ, ◌+◌, ◌*◌, ◌≤◌}
use mathlib.Core.Path.{◌≡◌, refl, ap, sym, ◌∙◌}
use mathlib.Core.List.{List, [], ◌∷◌, ◌++◌, map, append_assoc, append-nil}
use native.Mathlib.Nat.{add-zero}
use native.Mathlib.Omega.{arith}
use lib.ListN.{length, length-append}
use Rattle.base.specs.Answer.{accepts, first}
use Rattle.base.specs.Limits.{most_rows}
use Rattle.reading.specs.declared.letter.Letter.TheVariants.{Table as T, Row as R, Car as C, Strike as K, End as E}
use Rattle.reading.specs.declared.letter.Line.{Line}
use Rattle.reading.specs.Letter.{width_of, most_fields}
use Rattle.line.specs.Writing.{line_of}
use Rattle.line.proofs.Bytes.{length_line_of}
use Rattle.table.specs.Table.{Row, Table, tables_tests_after}
use Rattle.table.proofs.Table.{next_table}
use Rattle.grammar.specs.Text.{text_of}
use Rattle.grammar.specs.Grammar.{t_line, r_line, c_line, k_line, e_line, table_lines, tables_lines, TrainLine, enters, strikes, as_line, cars_in, strikes_in, sheet_text, CarNumbers, EachLine, WholeSheet, tables_begun}
use Rattle.grammar.specs.Sheet.{longest}

pub text-append : (a b : List Line) → text_of (a ++ b) ≡ text_of a ++ text_of b
unfolding text_of
text-append [] b = refl
text-append (l ∷ a) b = ap (λ (x : List ℕ). line_of l ++ x) (text-append a b) ∙ sym (append_assoc (line_of l) (text_of a) (text_of b))

pub text_snoc : (a : List Line) (l : Line) → text_of (a ++ (l ∷ [])) ≡ text_of a ++ line_of l
unfolding text_of
text_snoc a l = text-append a (l ∷ []) ∙ ap (λ (x : List ℕ). text_of a ++ x) (append-nil (line_of l))

-- a beginning that lacks nothing is the tables' lines
pub begun_all : (ts : List Table) → tables_begun ts 0 ≡ tables_lines ts
begun_all [] = refl
begun_all (t ∷ []) = ap (λ (n : ℕ). t_line t.kind n ∷ map r_line t.rows) (add-zero (length t.rows)) ∙ sym (append-nil (table_lines t))
begun_all (t ∷ u ∷ ts) = ap (λ (x : List Line). table_lines t ++ x) (begun_all (u ∷ ts))

-- Its length.

text-length : (a b : List Line) → length (text_of (a ++ b)) ≡ length (text_of a) + length (text_of b)
text-length a b = ap length (text-append a b) ∙ length-append (text_of a) (text_of b)

pub rows-length : (rows : List Row) → length (text_of (map r_line rows)) ≡ width_of R * length rows
unfolding text_of
rows-length [] = refl
rows-length (row ∷ rows) = rw (length-append, length_line_of (r_line row) refl, rows-length rows) (omega arith)

tables-length : (used : List ℕ) (ts : List Table) → first (tables_tests_after used ts) ≡ accepts
    → length (text_of (tables_lines ts)) ≤ (width_of T + most_rows * width_of R) * length ts
unfolding text_of
tables-length used [] e = omega arith
tables-length used (t ∷ ts) e =
    let n = next_table used t ts e in
    let line : length (line_of (t_line t.kind (length t.rows))) ≡ width_of T = length_line_of (t_line t.kind (length t.rows)) refl in
    let one : length (text_of (table_lines t)) ≡ length (line_of (t_line t.kind (length t.rows))) + length (text_of (map r_line t.rows)) = length-append (line_of (t_line t.kind (length t.rows))) (text_of (map r_line t.rows)) in
    omega (arith, text-length (table_lines t) (tables_lines ts), rows-length t.rows, n.line.most, tables-length (used ++ (t.kind ∷ [])) ts n.rest)

pub car_places : (car : List ℕ) → CarNumbers car → length (c_line car).numbers ≡ most_fields
car_places car h = ap length (append-nil car) ∙ h.fourteen

history-length : (history : List TrainLine) → EachLine history → length (text_of (map as_line history)) ≡ width_of C * cars_in history + width_of K * strikes_in history
unfolding text_of
history-length [] e = refl
history-length (enters car ∷ history) (e, es) = rw (length-append, length_line_of (c_line car) (car_places car e), history-length history es) (omega arith)
history-length (strikes number ∷ history) (e, es) = rw (length-append, length_line_of (k_line number) refl, history-length history es) (omega arith)

-- by how many tables, C lines and K lines there are
pub text_within : (ts : List Table) (history : List TrainLine) → first (tables_tests_after [] ts) ≡ accepts → EachLine history
    → length (sheet_text ts history) ≤ (width_of T + most_rows * width_of R) * length ts + width_of C * cars_in history + width_of K * strikes_in history + width_of E
unfolding text_of
text_within ts history good each =
    let end : length (text_of (e_line (cars_in history) ∷ [])) ≡ width_of E = ap length (append-nil (line_of (e_line (cars_in history)))) ∙ length_line_of (e_line (cars_in history)) refl in
    omega (
      arith,
      text-length (tables_lines ts) (map as_line history ++ (e_line (cars_in history) ∷ [])),
      text-length (map as_line history) (e_line (cars_in history) ∷ []),
      tables-length [] ts good,
      history-length history each,
    )

pub text_short : (ts : List Table) (history : List TrainLine) → WholeSheet ts history → length (sheet_text ts history) ≤ longest
text_short ts history w = omega (arith, text_within ts history w.accepted w.each, w.four, w.few_cars, w.few_strikes)
