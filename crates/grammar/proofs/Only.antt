-- At every place the bytes before it are the lines that were read; so a sheet that is read whole is the text of what was read, and one that is refused is so by
-- the tests on the rest.
use Prim.Native.Nat.{ℕ, zero, suc, ◌+◌, ◌-◌, ◌≤◌, ◌<◌}
use mathlib.Core.Path.{◌≡◌, refl, ap, ap₂, sym, ◌∙◌}
use mathlib.Core.Bool.{Bool, true, cond, not}
use mathlib.Core.List.{List, [], ◌∷◌, ◌++◌, map, append_assoc, append-nil}
use mathlib.Core.Logic.{⊎_elim}
use Rattle.std.specs.Prelude.{Result, Ok, Err}
use native.Mathlib.Nat.{add-zero, zero-add}
use native.Mathlib.Omega.{arith}
use lib.Dec.{ltb, leb, eqb}
use lib.ListN.{length, get_or, take, drop, length-append, length-drop, take-append-drop}
use lib.Seq.{take-add, take_all}
use borrow.Author.Tests.{eqb-true, eqb-false, ltb-true, ltb-false}
use Rattle.base.specs.Answer.{accepts, refuses, first}
use Rattle.base.specs.declared.refusal.Refusal.{Refusal as Number}
use Rattle.base.specs.Limits.{most_car_lines, most_strikes}
use Rattle.base.proofs.Choice.{below, cond_either}
use Rattle.base.proofs.Lists.{map-append}
use Rattle.reading.specs.declared.letter.Letter.{Letter}
use Rattle.reading.specs.declared.letter.Letter.TheVariants.{Table as T, Row as R, Car as C, Strike as K, End as E}
use Rattle.reading.specs.declared.letter.Line.{Line}
use Rattle.reading.specs.Letter.{width_of}
use Rattle.reading.specs.Reading.{values, line_at}
use Rattle.reading.proofs.Letters.{found}
use Rattle.reading.proofs.Lines.{IsLine, is_line}
use Rattle.line.proofs.RoundTrip.{read_bytes}
use Rattle.table.specs.Table.{Row, row_of, Table, table_line_bad, row_bad}
use Rattle.grammar.specs.Text.{text_of}
use Rattle.grammar.specs.Grammar.{t_line, r_line, c_line, k_line, e_line, table_lines, TrainLine, enters, strikes, as_line, cars_in, sheet_lines, sheet_text, tables_begun, lines_begun, Passed, kinds, last_rows}
use Rattle.grammar.specs.Faults.{line_faults}
use Rattle.grammar.specs.Sheet.{longest, SheetRead, refused_at, whole, State, Step, next, over, due_of, with_row, table_line, row_line, car_line, strike_line, end_line, by_letter, by_reading, step_of, after, lines, start, sheet_of}
use Rattle.grammar.specs.ByGrammar.{Refusal, too_long, fault, bytes_after, RefusedSheet}
use Rattle.grammar.specs.Inner.{SoundState, Recorded, LinesRead}
use Rattle.grammar.proofs.Rules.{lines_all}
use Rattle.grammar.proofs.Text.{text_snoc, begun_all}
use Rattle.grammar.proofs.Steps.{both_last, settled, lacking, some_tables, whole_good, After, after_step}
use Rattle.grammar.proofs.Turns.{sound_start, start_recorded}
use Rattle.grammar.proofs.Faults.{letter_verdict, verdict_of, line_verdict, numbers_are}

-- One more line of a beginning.

begun_table : (ts : List Table) (kind rows : ℕ) → tables_begun (ts ++ (record { kind = kind; rows = [] } ∷ [])) rows ≡ tables_begun ts 0 ++ (t_line kind rows ∷ [])
begun_table [] kind rows = ap (λ (n : ℕ). t_line kind n ∷ []) (zero-add rows)
begun_table (t ∷ []) kind rows =
    ap (λ (n : ℕ). table_lines t ++ (t_line kind n ∷ [])) (zero-add rows)
    ∙ ap (λ (n : ℕ). (t_line t.kind n ∷ map r_line t.rows) ++ (t_line kind rows ∷ [])) (sym (add-zero (length t.rows)))
begun_table (t ∷ u ∷ ts) kind rows =
    ap (λ (x : List Line). table_lines t ++ x) (begun_table (u ∷ ts) kind rows) ∙ sym (append_assoc (table_lines t) (tables_begun (u ∷ ts) 0) (t_line kind rows ∷ []))

begun_row : (used : List ℕ) (ts : List Table) (owed : ℕ) (row : Row) → 0 < owed → Passed used ts owed → tables_begun (with_row ts row) (owed - 1) ≡ tables_begun ts owed ++ (r_line row ∷ [])
begun_row used [] owed row h p = absurd (omega arith)
begun_row used (t ∷ []) owed row h p =
    let n : length (t.rows ++ (row ∷ [])) + (owed - 1) ≡ length t.rows + owed = rw length-append (omega arith) in
    ap (λ (i : ℕ). t_line t.kind i ∷ map r_line (t.rows ++ (row ∷ []))) n
    ∙ ap (λ (x : List Line). t_line t.kind (length t.rows + owed) ∷ x) (map-append r_line t.rows (row ∷ []))
begun_row used (t ∷ u ∷ []) owed row h p =
    ap (λ (x : List Line). table_lines t ++ x) (begun_row (used ++ (t.kind ∷ [])) (u ∷ []) owed row h p.2) ∙ sym (append_assoc (table_lines t) (tables_begun (u ∷ []) owed) (r_line row ∷ []))
begun_row used (t ∷ u ∷ v ∷ ts) owed row h p =
    ap (λ (x : List Line). table_lines t ++ x) (begun_row (used ++ (t.kind ∷ [])) (u ∷ v ∷ ts) owed row h p.2) ∙ sym (append_assoc (table_lines t) (tables_begun (u ∷ v ∷ ts) owed) (r_line row ∷ []))

-- the same with the lines behind the tables
more_table : (ts : List Table) (owed : ℕ) (history : List TrainLine) (kind rows : ℕ) → owed ≡ 0 → length history ≡ 0
    → lines_begun ts owed history ++ (t_line kind rows ∷ []) ≡ lines_begun (ts ++ (record { kind = kind; rows = [] } ∷ [])) rows history
more_table ts owed [] kind rows e n =
    ap (λ (x : List Line). x ++ (t_line kind rows ∷ [])) (append-nil (tables_begun ts owed))
    ∙ ap (λ (i : ℕ). tables_begun ts i ++ (t_line kind rows ∷ [])) e
    ∙ sym (begun_table ts kind rows)
    ∙ sym (append-nil (tables_begun (ts ++ (record { kind = kind; rows = [] } ∷ [])) rows))
more_table ts owed (line ∷ history) kind rows e n = absurd (omega arith)

more_row : (ts : List Table) (owed : ℕ) (history : List TrainLine) (row : Row) → 0 < owed → length history ≡ 0 → Passed [] ts owed
    → lines_begun ts owed history ++ (r_line row ∷ []) ≡ lines_begun (with_row ts row) (owed - 1) history
more_row ts owed [] row h n p =
    ap (λ (x : List Line). x ++ (r_line row ∷ [])) (append-nil (tables_begun ts owed))
    ∙ sym (begun_row [] ts owed row h p)
    ∙ sym (append-nil (tables_begun (with_row ts row) (owed - 1)))
more_row ts owed (line ∷ history) row h n p = absurd (omega arith)

more_behind : (ts : List Table) (owed : ℕ) (history : List TrainLine) (line : TrainLine) → lines_begun ts owed history ++ (as_line line ∷ []) ≡ lines_begun ts owed (history ++ (line ∷ []))
more_behind ts owed history line =
    append_assoc (tables_begun ts owed) (map as_line history) (as_line line ∷ [])
    ∙ ap (λ (x : List Line). tables_begun ts owed ++ x) (sym (map-append as_line history (line ∷ [])))

more_end : (ts : List Table) (owed : ℕ) (history : List TrainLine) → owed ≡ 0 → lines_begun ts owed history ++ (e_line (cars_in history) ∷ []) ≡ sheet_lines ts history
more_end ts owed history e =
    append_assoc (tables_begun ts owed) (map as_line history) (e_line (cars_in history) ∷ [])
    ∙ ap (λ (x : List Line). x ++ (map as_line history ++ (e_line (cars_in history) ∷ []))) (ap (tables_begun ts) e ∙ begun_all ts)

-- What is known where the reading stands, and once it is over.

abbrev before : State → List Line
before st = lines_begun st.tables st.owed st.history

-- what was read, with the tables and lines behind them where it ended
abbrev pub Explained : List ℕ → List Table → List TrainLine → SheetRead → Type 0
Explained s ts history (refused_at line number) = length s ≤ longest → Refusal s line number ts history
Explained s ts history (whole ts' history') = s ≡ sheet_text ts' history'

abbrev Goes : List ℕ → Step → Type 0
Goes s (next st) = Recorded st → LinesRead s st
Goes s (over st r) = Explained s st.tables st.history r

module _ (s : List ℕ) (st : State) (sound : SoundState (length s) st) (told : LinesRead s st) where
  -- one more line that was read, and the lines with it
  module _ {l : Letter} {ns : List ℕ} (h : IsLine s st.at (due_of st) l ns) (line : Line) (lines : List Line) (e : record { letter = l; numbers = ns } ≡ line)
      (more : before st ++ (line ∷ []) ≡ lines) where
    bytes_more : take (st.at + width_of l) s ≡ text_of lines
    bytes_more =
        take-add st.at (width_of l) s
        ∙ ap₂ (λ (x y : List ℕ). x ++ y) told.bytes (read_bytes s st.at (due_of st) (record { letter = l; numbers = ns }) h)
        ∙ sym (text_snoc (before st) (record { letter = l; numbers = ns }))
        ∙ ap (λ (x : Line). text_of (before st ++ (x ∷ []))) e
        ∙ ap text_of more

    number_more : st.line + 1 ≡ 1 + length lines
    number_more = omega (arith, told.number, sym (length-append (before st) (line ∷ [])) ∙ ap length more)

  -- the line due is at fault
  at_fault : {k : ℕ} → first (line_faults st.tables st.owed st.history (drop st.at s)) ≡ refuses k → Explained s st.tables st.history (refused_at st.line k)
  at_fault e short =
      fault (record {
        owed = st.owed;
        rest = drop st.at s;
        begun = record { passed = sound.passed; behind = told.behind; few_cars = omega (arith, sound.few_cars, told.recorded.counted.cars); few_strikes = omega (arith, sound.few_strikes, told.recorded.counted.struck); each = told.recorded.each };
        text = sym (take-append-drop st.at s) ∙ ap (λ (x : List ℕ). x ++ drop st.at s) told.bytes;
        short = short;
        due = told.number;
        fault = e;
      })

  module _ (ns : List ℕ) where
    -- the tests 3 to 6 pass, and leave it to those of the letter
    abbrev ByNumbers : Letter → Type 0
    ByNumbers l = first (line_faults st.tables st.owed st.history (drop st.at s)) ≡ letter_verdict s st l

    told_table : (due_of st).table ≡ true → ByNumbers T → IsLine s st.at (due_of st) T ns → Goes s (table_line st (get_or ns 0 0) (get_or ns 1 0))
    unfolding table_line values
    told_table d v h =
        let none = settled st.owed _ d in
        let none-behind = eqb-true (st.cars + st.struck) 0 (both_last (eqb st.owed 0) (eqb (st.cars + st.struck) 0) d) in
        let empty : length st.history ≡ 0 = omega (arith, told.recorded.counted.cars, told.recorded.counted.struck, lines_all st.history) in
        let line : record { letter = T; numbers = ns } ≡ t_line (get_or ns 0 0) (get_or ns 1 0) = ap (λ (x : List ℕ). record { letter = T; numbers = x }) h.are ∙ ap (λ (x : List ℕ). t_line (get_or x 0 0) (get_or x 1 0)) (sym h.are) in
        let more = more_table st.tables st.owed st.history (get_or ns 0 0) (get_or ns 1 0) none empty in
        cond_either (Goes s) (table_line_bad (kinds st.tables) (get_or ns 0 0) (get_or ns 1 0)) _ _
        (λ bad.
        at_fault (v ∙ ap (λ (b : Bool). cond b (refuses 7) accepts) (ap₂ (table_line_bad (kinds st.tables)) (sym (numbers_are s st h 0 (omega arith))) (sym (numbers_are s st h 1 (omega arith))) ∙ bad)))
        (λ _ kept. record { bytes = bytes_more h _ _ line more; number = number_more h _ _ line more; behind = λ o. absurd (omega arith); recorded = kept })

    told_row : (due_of st).row ≡ true → ByNumbers R → IsLine s st.at (due_of st) R ns → Goes s (row_line st (row_of (get_or ns 0 0) (get_or ns 1 0)))
    unfolding row_line values
    told_row d v h =
        let some = lacking st.owed d in
        let empty : length st.history ≡ 0 = ⊎_elim (λ (o : 0 < length st.history). absurd (omega (arith, (told.behind o).0))) (λ (o : length st.history ≤ 0). omega arith) (below 0 (length st.history)) in
        let row = row_of (get_or ns 0 0) (get_or ns 1 0) in
        let line : record { letter = R; numbers = ns } ≡ r_line row = ap (λ (x : List ℕ). record { letter = R; numbers = x }) h.are ∙ ap (λ (x : List ℕ). r_line (row_of (get_or x 0 0) (get_or x 1 0))) (sym h.are) in
        let more = more_row st.tables st.owed st.history row some empty sound.passed in
        cond_either (Goes s) (row_bad (last_rows st.tables) row) _ _
        (λ bad.
        at_fault (v ∙ ap (λ (b : Bool). cond b (refuses 8) accepts) (ap₂ (λ (a b : ℕ). row_bad (last_rows st.tables) (row_of a b)) (sym (numbers_are s st h 0 (omega arith))) (sym (numbers_are s st h 1 (omega arith))) ∙ bad)))
        (λ _ kept. record { bytes = bytes_more h _ _ line more; number = number_more h _ _ line more; behind = λ o. absurd (omega arith); recorded = kept })

    told_car : (due_of st).car ≡ true → ByNumbers C → IsLine s st.at (due_of st) C ns → Goes s (car_line st ns)
    unfolding car_line
    told_car d v h =
        let none = settled st.owed _ d in
        let some = some_tables st.owed st.tables (st.cars + st.struck) d in
        let line : record { letter = C; numbers = ns } ≡ c_line ns = ap (λ (x : List ℕ). record { letter = C; numbers = x }) (sym (append-nil ns)) in
        let more = more_behind st.tables st.owed st.history (enters ns) in
        cond_either (Goes s) (leb most_car_lines st.cars) _ _
        (λ bad. at_fault (v ∙ ap (λ (b : Bool). cond b (refuses 9) accepts) (ap (leb most_car_lines) (sym told.recorded.counted.cars) ∙ bad)))
        (λ _ kept. record { bytes = bytes_more h _ _ line more; number = number_more h _ _ line more; behind = λ _. (none, omega arith); recorded = kept })

    told_strike : (due_of st).strike ≡ true → ByNumbers K → IsLine s st.at (due_of st) K ns → Goes s (strike_line st (get_or ns 0 0))
    unfolding strike_line values
    told_strike d v h =
        let none = settled st.owed _ d in
        let some = some_tables st.owed st.tables (st.cars + st.struck) d in
        let line : record { letter = K; numbers = ns } ≡ k_line (get_or ns 0 0) = ap (λ (x : List ℕ). record { letter = K; numbers = x }) h.are ∙ ap (λ (x : List ℕ). k_line (get_or x 0 0)) (sym h.are) in
        let more = more_behind st.tables st.owed st.history (strikes (get_or ns 0 0)) in
        cond_either (Goes s) (leb most_strikes st.struck) _ _
        (λ bad. at_fault (v ∙ ap (λ (b : Bool). cond b (refuses 9) accepts) (ap (leb most_strikes) (sym told.recorded.counted.struck) ∙ bad)))
        (λ _ kept. record { bytes = bytes_more h _ _ line more; number = number_more h _ _ line more; behind = λ _. (none, omega arith); recorded = kept })

    told_end : (due_of st).end ≡ true → ByNumbers E → IsLine s st.at (due_of st) E ns → Goes s (end_line (length s) st (get_or ns 0 0))
    unfolding end_line values
    told_end d v h =
        let none = settled st.owed _ d in
        let line : record { letter = E; numbers = ns } ≡ e_line (get_or ns 0 0) = ap (λ (x : List ℕ). record { letter = E; numbers = x }) h.are ∙ ap (λ (x : List ℕ). e_line (get_or x 0 0)) (sym h.are) in
        let more = more_end st.tables st.owed st.history none in
        cond_either (Goes s) (eqb (get_or ns 0 0) st.cars) _ _
        (λ c.
        let line' = line ∙ ap e_line (eqb-true (get_or ns 0 0) st.cars c ∙ told.recorded.counted.cars) in
        let bytes = bytes_more h _ _ line' more in
        cond_either (Explained s st.tables st.history) (eqb (st.at + width_of E) (length s)) _ _
        (λ e. sym (take_all (st.at + width_of E) s (omega (arith, eqb-true (st.at + width_of E) (length s) e))) ∙ bytes)
        (λ e short.
        let ne = eqb-false (st.at + width_of E) (length s) e in
        let p = h.place in
        let w = h.within in
        bytes_after (record {
          rest = drop (st.at + width_of E) s;
          good = whole_good s st sound d told.recorded;
          text = sym (take-append-drop (st.at + width_of E) s) ∙ ap (λ (x : List ℕ). x ++ drop (st.at + width_of E) s) bytes;
          some = rw length-drop (⊎_elim (λ (o : st.at + width_of E < length s). omega arith) (λ (o : length s ≤ st.at + width_of E). absurd (ne (omega arith))) (below (st.at + width_of E) (length s)));
          short = short;
          due = number_more h _ _ line' more;
          nine = refl;
        })))
        (λ bad. at_fault (v ∙ ap (λ (b : Bool). cond (not b) (refuses 9) accepts) (ap₂ eqb (sym (numbers_are s st h 0 (omega arith))) (sym told.recorded.counted.cars) ∙ bad)))

    told_letter : (l : Letter) → ByNumbers l → IsLine s st.at (due_of st) l ns → Goes s (by_letter (length s) st l ns)
    told_letter l v h =
        found (λ m. ByNumbers m → IsLine s st.at (due_of st) m ns → Goes s (by_letter (length s) st m ns)) (get_or s st.at 0) l (due_of st)
        ((λ _ d. told_table d), ((λ _ d. told_row d), ((λ _ d. told_car d), ((λ _ d. told_strike d), ((λ _ d. told_end d), tt))))) h.found v h

  told_step : Goes s (step_of s st)
  unfolding step_of
  told_step = go (line_at s st.at (due_of st)) refl
    where
      verdict : (r : Result Line Number) → line_at s st.at (due_of st) ≡ r → first (line_faults st.tables st.owed st.history (drop st.at s)) ≡ verdict_of s st r
      verdict r e = line_verdict s st told.recorded.counted (λ o. (told.behind o).1) ∙ ap (verdict_of s st) e

      go : (r : Result Line Number) → line_at s st.at (due_of st) ≡ r → Goes s (by_reading (length s) st r)
      go (Ok line) e = told_letter line.numbers line.letter (verdict (Ok line) e) (is_line s st.at (due_of st) line e)
      go (Err n) e = at_fault (verdict (Err n) e)

-- One line, and the rest.

module _ (s : List ℕ) (st : State) (p : Step) (e : p ≡ step_of s st) (h : SoundState (length s) st) (read : LinesRead s st) where
  pub read_next : (st' : State) → p ≡ next st' → LinesRead s st'
  read_next st' n =
      let a : After (length s) st (next st') = rw (sym e ∙ n) at (after_step s st h) in
      let g : Goes s (next st') = rw (sym e ∙ n) at (told_step s st h read) in
      g (a.2 read.recorded)

  pub read_over : (st' : State) (r : SheetRead) → p ≡ over st' r → Explained s st'.tables st'.history r
  read_over st' r o = rw (sym e ∙ o) at (told_step s st h read)

-- the refusal of what was read; a whole sheet has none
abbrev Known : List ℕ → SheetRead → Type 0
Known s (refused_at line number) = RefusedSheet s line number
Known s (whole ts history) = s ≡ sheet_text ts history

known : (s : List ℕ) (ts : List Table) (history : List TrainLine) (r : SheetRead) → length s ≤ longest → Explained s ts history r → Known s r
known s ts history (refused_at line number) b h = record { tables = ts; history = history; why = h b }
known s ts history (whole ts' history') b h = h

lines_known : (k : ℕ) (s : List ℕ) (st : State) → length s ≤ longest → SoundState (length s) st → LinesRead s st → length s < st.at + k → Known s (lines k s st)
unfolding lines
lines_known zero s st b h t w = absurd (omega (arith, h.within))
lines_known (suc k) s st b h t w = go (λ st' g u i. lines_known k s st' b g u (omega arith)) (step_of s st) (after_step s st h) (told_step s st h t)
  where
    go : ((st' : State) → SoundState (length s) st' → LinesRead s st' → st.at < st'.at → Known s (lines k s st'))
        → (p : Step) → After (length s) st p → Goes s p → Known s (after (λ (x : State). lines k s x) p)
    go later (next st') a g = later st' a.0 (g (a.2 t.recorded)) a.1
    go later (over st' r) a g = known s st'.tables st'.history r b g

pub start_read : (s : List ℕ) → LinesRead s start
unfolding text_of
start_read s = record { bytes = refl; number = refl; behind = λ o. absurd (omega arith); recorded = start_recorded }

sheet_known : (s : List ℕ) → Known s (sheet_of s)
unfolding sheet_of
sheet_known s =
    cond_either (Known s) (ltb longest (length s)) _ _
    (λ e. record { tables = []; history = []; why = too_long (record { long = ltb-true longest (length s) e; nought = refl; two = refl; no_tables = refl; no_cars_lem = refl }) })
    (λ e. lines_known (length s + 1) s start (ltb-false longest (length s) e) (sound_start (length s) start refl) (start_read s) (omega arith))

pub only_text : (s : List ℕ) (ts : List Table) (history : List TrainLine) → sheet_of s ≡ whole ts history → s ≡ sheet_text ts history
only_text s ts history e = rw e at (sheet_known s)

pub only_refusal : (s : List ℕ) (line number : ℕ) → sheet_of s ≡ refused_at line number → RefusedSheet s line number
only_refusal s line number e = rw e at (sheet_known s)
