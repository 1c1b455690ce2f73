-- The text of the beginning of a sheet is read line after line, and that of a whole sheet is read whole.
use Prim.Native.Nat.{ℕ, ◌+◌, ◌-◌, ◌≤◌, ◌<◌}
use mathlib.Core.Path.{◌≡◌, refl, ap, ap₂, sym, ◌∙◌}
use mathlib.Core.Bool.{true, false, cond, ◌&&◌, ◌||◌}
use mathlib.Core.List.{List, [], ◌∷◌, ◌++◌, map, append_assoc, append-nil}
use mathlib.Core.Logic.{⊎_elim}
use Rattle.std.specs.Prelude.{Some}
use native.Mathlib.Omega.{arith}
use lib.Dec.{ltb, leb, eqb}
use lib.ListN.{length, take, drop, length-append, length-drop}
use lib.Seq.{append_snoc, take_at, take_all, drop_at, drop-drop}
use borrow.Author.Tests.{eqb-true, ltb-false, eq-eqb, ne_eqb, lt-ltb, lt-leb, le-leb, not-false}
use Rattle.base.specs.Answer.{accepts, first}
use Rattle.base.specs.Limits.{largest, most_car_lines, most_strikes, highest_level, greatest_capacity}
use Rattle.base.proofs.Choice.{same, neither}
use Rattle.base.proofs.Lists.{map-append}
use Rattle.base.proofs.Numbers.{inside}
use Rattle.reading.specs.declared.letter.Letter.TheVariants.{Car as C, Strike as K, End as E}
use Rattle.reading.specs.declared.letter.Line.{Line}
use Rattle.reading.specs.Letter.{byte_of, count_of, width_of, most_fields}
use Rattle.reading.specs.Reading.{letter_of, filled}
use Rattle.line.specs.Writing.{line_of, small_to}
use Rattle.line.specs.RoundTrip.{read_as}
use Rattle.line.proofs.Bytes.{length_line_of}
use Rattle.line.proofs.RoundTrip.{bytes_read}
use Rattle.table.specs.Table.{Row, Table, table_line_bad, first_row_bad, later_row_bad, row_bad, later_tests, rows_tests}
use Rattle.table.proofs.Table.{passing, table_line_good}
use Rattle.grammar.specs.Text.{text_of}
use Rattle.grammar.specs.Grammar.{t_line, r_line, c_line, k_line, e_line, TrainLine, enters, strikes, as_line, cars_in, strikes_in, sheet_lines, sheet_text, CarNumbers, EachLine, WholeSheet, tables_begun, lines_begun, Passed, Begun, kinds}
use Rattle.grammar.specs.Faults.{line_faults}
use Rattle.grammar.specs.Sheet.{longest, SheetRead, refused_at, whole, State, over, past, due_by, due_of, car_line, end_line, by_letter, step_of, read_from, start, sheet_of}
use Rattle.grammar.specs.ByGrammar.{Fault, Refusal, too_long, fault, bytes_after}
use Rattle.grammar.specs.Inner.{Sound}
use Rattle.grammar.proofs.Rules.{with_row_last, last_rows_last, cars_more, cars_kept, strikes_kept, strikes_more, table_taken, row_taken, car_taken, strike_taken}
use Rattle.grammar.proofs.Passed.{verdict_passed}
use Rattle.grammar.proofs.Steps.{both_first, both_last, step_read}
use Rattle.grammar.proofs.Turns.{sheet_long, sheet_short, sound_start, went_on, is_over}
use Rattle.grammar.proofs.Faults.{step_refused}
use Rattle.grammar.proofs.Text.{begun_all, car_places, text_short}

-- Numbers that fit their fields.

record Fits (l : Line) : Type 0 where
  fourteen : length l.numbers ≡ most_fields
  small : small_to l.numbers (count_of l.letter) ≡ true

two_small : (a b : ℕ) (ns : List ℕ) → a ≤ largest → b ≤ largest → small_to (a ∷ b ∷ ns) 2 ≡ true
unfolding small_to
two_small a b ns h g = simp (le-leb a largest h, le-leb b largest g)

kind_small : (used : List ℕ) (kind rows : ℕ) → table_line_bad used kind rows ≡ false → kind ≤ 9_999
kind_small used kind rows e = (inside 1 9_999 kind (neither _ _ (neither _ _ (neither _ _ e).0).0).0).1

row_small : (rows : List Row) (row : Row) → row_bad rows row ≡ false → (row.level ≤ highest_level) × (row.capacity ≤ greatest_capacity)
row_small [] row e =
    let p = not-false (eqb row.level 0 && eqb row.capacity 0) e in
    let l = eqb-true row.level 0 (both_first (eqb row.level 0) (eqb row.capacity 0) p) in
    let c = eqb-true row.capacity 0 (both_last (eqb row.level 0) (eqb row.capacity 0) p) in
    (omega arith, omega arith)
row_small (before ∷ []) row e =
    let a = neither (leb row.level before.level || leb row.capacity before.capacity || ltb highest_level row.level) _ e in
    (ltb-false highest_level row.level (neither (leb row.level before.level || leb row.capacity before.capacity) _ a.0).1, ltb-false greatest_capacity row.capacity a.1)
row_small (first ∷ second ∷ rows) row e = row_small (second ∷ rows) row e

-- of rows that are accepted each may follow those before it
later_good : (before : Row) (rows : List Row) (row : Row) (todo : List Row) → first (later_tests before (rows ++ (row ∷ todo))) ≡ accepts → row_bad (before ∷ rows) row ≡ false
later_good before [] row todo e = (passing 8 (later_row_bad before row) _ e).0
later_good before (next ∷ rows) row todo e = later_good next rows row todo (passing 8 (later_row_bad before next) _ e).1

row_good : (rows : List Row) (row : Row) (todo : List Row) → first (rows_tests (rows ++ (row ∷ todo))) ≡ accepts → row_bad rows row ≡ false
row_good [] row todo e = (passing 8 (first_row_bad row) _ e).0
row_good (before ∷ rows) row todo e = later_good before rows row todo (passing 8 (first_row_bad before) _ e).1

-- the numbers that a line is read with
abbrev read_numbers : Line → List ℕ
read_numbers l = filled (take (count_of l.letter) l.numbers) (count_of l.letter)

-- the fourteen numbers of a C line, as reading gives them
car_read : (car : List ℕ) → CarNumbers car → read_numbers (c_line car) ≡ car
car_read car h = append-nil (take most_fields (car ++ [])) ∙ ap (λ (x : List ℕ). take most_fields x) (append-nil car) ∙ take_all most_fields car (omega (arith, h.fourteen))

-- Where the reading of s stands: before the lines `more` and the bytes `tail`, with tables and history of which the last table lacks `owed` rows. The lines from
-- there on bring what the whole sheet does; behind `more` the line numbered `end` is due.

module _ (s tail : List ℕ) (end : ℕ) where
  pub record At (owed : ℕ) (ts : List Table) (history : List TrainLine) (more : List Line) : Type 0 where
    pub at : ℕ
    pub line : ℕ
    pub sound : Sound (length s) at line owed ts (cars_in history) (strikes_in history)
    pub rest : drop at s ≡ text_of more ++ tail
    pub count : line + length more ≡ end
    pub same : read_from s (record { at = at; line = line; owed = owed; tables = ts; cars = cars_in history; struck = strikes_in history; history = history }) ≡ read_from s start

  abbrev pub here : {owed : ℕ} {ts : List Table} {history : List TrainLine} {more : List Line} → At owed ts history more → State
  here {owed = owed} {ts = ts} {history = history} a = record { at = a.at; line = a.line; owed = owed; tables = ts; cars = cars_in history; struck = strikes_in history; history = history }

  -- a line that may come next
  module _ (owed : ℕ) (ts : List Table) (history : List TrainLine) (l : Line) (more : List Line) (a : At owed ts history (l ∷ more)) (fits : Fits l)
      (due : letter_of (byte_of l.letter) (due_by owed (length ts) (cars_in history + strikes_in history)) ≡ Some l.letter) where
    rest_here : drop a.at s ≡ line_of l ++ (text_of more ++ tail)
    unfolding text_of
    rest_here = a.rest ∙ append_assoc (line_of l) (text_of more) tail

    bytes : take (width_of l.letter) (drop a.at s) ≡ line_of l
    bytes = ap (λ (x : List ℕ). take (width_of l.letter) x) rest_here ∙ take_at (line_of l) (text_of more ++ tail) (width_of l.letter) (length_line_of l fits.fourteen)

    read_on : by_letter (length s) (here a) l.letter (read_numbers l) ≡ step_of s (here a)
    read_on = step_read s (here a) (read_as l) (sym (bytes_read s a.at (due_of (here a)) l due fits.small fits.fourteen bytes))

    -- it is taken, and the reading goes on behind it
    go_on : (owed' : ℕ) (ts' : List Table) (history' : List TrainLine) → past l.letter (here a) owed' ts' (cars_in history') (strikes_in history') history' ≡ by_letter (length s) (here a) l.letter (read_numbers l)
        → At owed' ts' history' more
    go_on owed' ts' history' e =
        let w = went_on s (here a) (past l.letter (here a) owed' ts' (cars_in history') (strikes_in history') history') (e ∙ read_on) a.sound _ refl in
        record {
          at = a.at + width_of l.letter;
          line = a.line + 1;
          sound = w.0;
          rest =
              sym (drop-drop (width_of l.letter) a.at s)
              ∙ ap (λ (x : List ℕ). drop (width_of l.letter) x) rest_here
              ∙ drop_at (line_of l) (text_of more ++ tail) (width_of l.letter) (length_line_of l fits.fourteen);
          count = omega (arith, a.count);
          same = w.2 ∙ a.same;
        }

    -- or it ends the reading
    end_on : (r : SheetRead) → over (here a) r ≡ by_letter (length s) (here a) l.letter (read_numbers l) → read_from s start ≡ r
    end_on r e = sym a.same ∙ sym (is_over s (here a) (over (here a) r) (e ∙ read_on) a.sound (here a) r refl)

  -- Tables.

  table_on : (ts : List Table) (kind rows : ℕ) (more : List Line) → table_line_bad (kinds ts) kind rows ≡ false → At 0 ts [] (t_line kind rows ∷ more)
      → At rows (ts ++ (record { kind = kind; rows = [] } ∷ [])) [] more
  unfolding letter_of
  table_on ts kind rows more e a =
      let ts' : List Table = ts ++ (record { kind = kind; rows = [] } ∷ []) in
      go_on 0 ts [] (t_line kind rows) more a
      (record { fourteen = refl; small = two_small kind rows _ (omega (arith, kind_small (kinds ts) kind rows e)) (omega (arith, (table_line_good (kinds ts) kind rows e).most)) })
      refl rows ts' [] (table_taken (here a) kind rows ts' e refl)

  row_on : (ts : List Table) (t : Table) (owed : ℕ) (row : Row) (more : List Line) → 0 < owed → row_bad t.rows row ≡ false → At owed (ts ++ (t ∷ [])) [] (r_line row ∷ more)
      → At (owed - 1) (ts ++ (record { kind = t.kind; rows = t.rows ++ (row ∷ []) } ∷ [])) [] more
  unfolding letter_of
  row_on ts t owed row more h e a =
      let m = row_small t.rows row e in
      let ts' : List Table = ts ++ (record { kind = t.kind; rows = t.rows ++ (row ∷ []) } ∷ []) in
      go_on owed (ts ++ (t ∷ [])) [] (r_line row) more a
      (record { fourteen = refl; small = two_small row.level row.capacity _ (omega (arith, m.0)) (omega (arith, m.1)) })
      (simp (ne_eqb owed 0 (λ z. omega arith)))
      (owed - 1) ts' []
      (row_taken (here a) row ts' (ap (λ (x : List Row). row_bad x row) (last_rows_last ts t) ∙ e) (sym (with_row_last ts t row)))

  rows_on : (ts : List Table) (t : Table) (todo : List Row) (owed left : ℕ) (more : List Line) → owed ≡ length todo + left → first (rows_tests (t.rows ++ todo)) ≡ accepts
      → At owed (ts ++ (t ∷ [])) [] (map r_line todo ++ more) → At left (ts ++ (record { kind = t.kind; rows = t.rows ++ todo } ∷ [])) [] more
  rows_on ts t [] owed left more n e a = let z : owed ≡ left = omega arith in rw append-nil (rw z at a)
  rows_on ts t (row ∷ todo) owed left more n e a =
      let p : t.rows ++ (row ∷ []) ++ todo ≡ t.rows ++ (row ∷ todo) = append_snoc t.rows row todo in
      rw p at (rows_on ts (record { kind = t.kind; rows = t.rows ++ (row ∷ []) }) todo (owed - 1) left more (omega arith) (rw p e)
      (row_on ts t owed row (map r_line todo ++ more) (omega arith) (row_good t.rows row todo e) a))

  tables_on : (ts todo : List Table) (owed : ℕ) (more : List Line) → Passed (kinds ts) todo owed → At 0 ts [] (tables_begun todo owed ++ more) → At owed (ts ++ todo) [] more
  tables_on ts [] owed more p a = rw (append-nil ts, p) a
  tables_on ts (t ∷ []) owed more p a =
      rows_on ts (record { kind = t.kind; rows = [] }) t.rows (length t.rows + owed) owed more refl p.1
      (table_on ts t.kind (length t.rows + owed) (map r_line t.rows ++ more) p.0 a)
  tables_on ts (t ∷ u ∷ todo) owed more p a =
      let more' : List Line = tables_begun (u ∷ todo) owed ++ more in
      let b = table_on ts t.kind (length t.rows) (map r_line t.rows ++ more') p.0 (rw (append_assoc (map r_line t.rows) (tables_begun (u ∷ todo) owed) more) at a) in
      let c = rows_on ts (record { kind = t.kind; rows = [] }) t.rows (length t.rows) 0 more' (omega arith) p.1 b in
      rw (append_snoc ts t (u ∷ todo)) at (tables_on (ts ++ (t ∷ [])) (u ∷ todo) owed more (rw (map-append (λ (v : Table). v.kind) ts (t ∷ [])) p.2) c)

  -- Lines behind the tables.

  car_on : (ts : List Table) (history : List TrainLine) (car : List ℕ) (more : List Line) → 0 < length ts → cars_in history < most_car_lines → CarNumbers car → At 0 ts history (c_line car ∷ more)
      → At 0 ts (history ++ (enters car ∷ [])) more
  unfolding letter_of
  car_on ts history car more some few h a =
      go_on 0 ts history (c_line car) more a
      (record { fourteen = car_places car h; small = ap (λ (x : List ℕ). small_to x most_fields) (append-nil car) ∙ h.small })
      (simp (lt-ltb 0 (length ts) some))
      0 ts (history ++ (enters car ∷ []))
      (ap₂ (λ (n k : ℕ). past C (here a) 0 ts n k (history ++ (enters car ∷ []))) (cars_more history car) (strikes_kept history car)
      ∙ car_taken (here a) car (history ++ (enters car ∷ [])) (lt-leb most_car_lines (cars_in history) few) refl
      ∙ ap (car_line (here a)) (sym (car_read car h)))

  strike_on : (ts : List Table) (history : List TrainLine) (number : ℕ) (more : List Line) → 0 < length ts → strikes_in history < most_strikes → number ≤ largest → At 0 ts history (k_line number ∷ more)
      → At 0 ts (history ++ (strikes number ∷ [])) more
  unfolding letter_of small_to
  strike_on ts history number more some few h a =
      go_on 0 ts history (k_line number) more a
      (record { fourteen = refl; small = simp (le-leb number largest h) })
      (simp (lt-ltb 0 (length ts) some))
      0 ts (history ++ (strikes number ∷ []))
      (ap₂ (λ (n k : ℕ). past K (here a) 0 ts n k (history ++ (strikes number ∷ []))) (cars_kept history number) (strikes_more history number)
      ∙ strike_taken (here a) number (history ++ (strikes number ∷ [])) (lt-leb most_strikes (strikes_in history) few) refl)

  history_on : (ts : List Table) (history todo : List TrainLine) (more : List Line) → 0 < length ts → cars_in history + cars_in todo ≤ most_car_lines → strikes_in history + strikes_in todo ≤ most_strikes
      → EachLine todo → At 0 ts history (map as_line todo ++ more) → At 0 ts (history ++ todo) more
  history_on ts history [] more some few less h a = rw (append-nil history) a
  history_on ts history (enters car ∷ todo) more some few less (h, hs) a =
      rw (append_snoc history (enters car) todo) at (history_on ts (history ++ (enters car ∷ [])) todo more some (omega (arith, cars_more history car)) (omega (arith, strikes_kept history car)) hs
      (car_on ts history car (map as_line todo ++ more) some (omega arith) h a))
  history_on ts history (strikes number ∷ todo) more some few less (h, hs) a =
      rw (append_snoc history (strikes number) todo) at (history_on ts (history ++ (strikes number ∷ [])) todo more some (omega (arith, cars_kept history number)) (omega (arith, strikes_more history number)) hs
      (strike_on ts history number (map as_line todo ++ more) some (omega arith) h a))

  -- The beginning of a sheet, and its end.

  pub begun_on : (ts : List Table) (owed : ℕ) (history : List TrainLine) (more : List Line) → Begun ts owed history → At 0 [] [] (lines_begun ts owed history ++ more) → At owed ts history more
  begun_on ts owed [] more b a = tables_on [] ts owed more b.passed (rw (append-nil (tables_begun ts owed)) at a)
  begun_on ts owed (line ∷ history) more b a =
      let h = b.behind (omega arith) in
      let c = tables_on [] ts owed (map as_line (line ∷ history) ++ more) b.passed (rw (append_assoc (tables_begun ts owed) (map as_line (line ∷ history)) more) at a) in
      rw h.0 (history_on ts [] (line ∷ history) more h.1 (omega (arith, b.few_cars)) (omega (arith, b.few_strikes)) b.each (rw h.0 at c))

  -- whole, or bytes follow
  pub end_read : (ts : List Table) (history : List TrainLine) → 0 < length ts → cars_in history ≤ most_car_lines → At 0 ts history (e_line (cars_in history) ∷ [])
      → read_from s start ≡ cond (eqb (length tail) 0) (whole ts history) (refused_at end 9)
  unfolding letter_of end_line small_to text_of
  end_read ts history some few a =
      let text : List ℕ = line_of (e_line (cars_in history)) in
      let left : length s - a.at ≡ width_of E + length tail =
      sym (length-drop a.at s) ∙ ap length (a.rest ∙ ap (λ (x : List ℕ). x ++ tail) (append-nil text)) ∙ length-append text tail ∙ ap (λ (n : ℕ). n + length tail) (length_line_of (e_line (cars_in history)) refl) in
      let count : a.line + 1 ≡ end = a.count in
      end_on 0 ts history (e_line (cars_in history)) [] a
      (record { fourteen = refl; small = simp (le-leb (cars_in history) largest (omega arith)) })
      (simp (lt-ltb 0 (length ts) some))
      (cond (eqb (a.at + width_of E) (length s)) (whole ts history) (refused_at (a.line + 1) 9))
      (sym (simp (eq-eqb (cars_in history) (cars_in history) refl)))
      ∙ ⊎_elim
      (λ (z : length tail ≡ 0). simp (eq-eqb (length tail) 0 z, eq-eqb (a.at + width_of E) (length s) (omega (arith, a.sound.within))))
      (λ (z : length tail ≡ 0 → ⊥). simp (ne_eqb (length tail) 0 z, ne_eqb (a.at + width_of E) (length s) (λ e. z (omega (arith, a.sound.within))), count))
      (same (length tail) 0)

module _ (s tail : List ℕ) where
  pub first_line : (ls : List Line) (end : ℕ) → s ≡ text_of ls ++ tail → 1 + length ls ≡ end → At s tail end 0 [] [] ls
  first_line ls end e n = record { at = 0; line = 1; sound = sound_start (length s) start refl; rest = e; count = n; same = refl }

  -- the lines of a whole sheet
  pub sheet_read : (ts : List Table) (history : List TrainLine) → WholeSheet ts history → s ≡ sheet_text ts history ++ tail → length s ≤ longest
      → sheet_of s ≡ cond (eqb (length tail) 0) (whole ts history) (refused_at (1 + length (sheet_lines ts history)) 9)
  sheet_read ts history w e short =
      let begun : Begun ts 0 history = record { passed = verdict_passed [] ts w.accepted; behind = λ _. (refl, w.some); few_cars = w.few_cars; few_strikes = w.few_strikes; each = w.each } in
      let lines : sheet_lines ts history ≡ lines_begun ts 0 history ++ (e_line (cars_in history) ∷ []) =
      sym (append_assoc (tables_begun ts 0) (map as_line history) (e_line (cars_in history) ∷ []) ∙ ap (λ (x : List Line). x ++ (map as_line history ++ (e_line (cars_in history) ∷ []))) (begun_all ts)) in
      let end : ℕ = 1 + length (sheet_lines ts history) in
      let a = first_line (lines_begun ts 0 history ++ (e_line (cars_in history) ∷ [])) end (rw lines at e) (ap (λ (x : List Line). 1 + length x) (sym lines)) in
      sym (sheet_short s short)
      ∙ end_read s tail end ts history w.some w.few_cars (begun_on s tail end ts 0 history (e_line (cars_in history) ∷ []) begun a)

pub every_text : (ts : List Table) (history : List TrainLine) → WholeSheet ts history → sheet_of (sheet_text ts history) ≡ whole ts history
every_text ts history w = sheet_read (sheet_text ts history) [] ts history w (sym (append-nil (sheet_text ts history))) (text_short ts history w)

-- A sheet that is to be refused is.

module _ (s : List ℕ) (line number : ℕ) (ts : List Table) (history : List TrainLine) where
  fault_read : Fault s line number ts history → sheet_of s ≡ refused_at line number
  unfolding text_of
  fault_read f =
      let lines : List Line = lines_begun ts f.owed history in
      let a =
      begun_on s f.rest line ts f.owed history [] f.begun
      (first_line s f.rest (lines ++ []) line (f.text ∙ ap (λ (x : List Line). text_of x ++ f.rest) (sym (append-nil lines))) (ap (λ (x : List Line). 1 + length x) (append-nil lines) ∙ sym f.due)) in
      let e = step_refused s (here s f.rest line a) (record { cars = refl; struck = refl }) (λ h. (f.begun.behind h).1) (ap (λ (x : List ℕ). first (line_faults ts f.owed history x)) a.rest ∙ f.fault) in
      let n : a.line ≡ line = omega (arith, a.count) in
      sym (sheet_short s f.short)
      ∙ sym a.same
      ∙ sym (is_over s (here s f.rest line a) _ e a.sound _ (refused_at a.line number) refl)
      ∙ ap (λ (i : ℕ). refused_at i number) n

  pub refused_read : Refusal s line number ts history → sheet_of s ≡ refused_at line number
  refused_read (too_long h) = sym (sheet_long s h.long) ∙ ap₂ refused_at (sym h.nought) (sym h.two)
  refused_read (fault h) = fault_read h
  refused_read (bytes_after h) =
      sheet_read s h.rest ts history h.good h.text h.short
      ∙ simp (ne_eqb (length h.rest) 0 (λ z. omega (arith, h.some)))
      (ap₂ refused_at (sym h.due) (sym h.nine))
