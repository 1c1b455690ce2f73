-- Rows of a table taken one after another: the reading only goes on.
use Prim.Native.Nat.{ℕ, suc, ◌+◌, ◌-◌, ◌*◌, ◌≤◌, ◌<◌}
use mathlib.Core.Path.{◌≡◌, refl, ap, sym, ◌∙◌}
use mathlib.Core.Bool.{false}
use mathlib.Core.List.{List}
use native.Mathlib.Omega.{arith}
use lib.ListN.{length, get_or, set, length-set}
use lib.Seq.{set-get_or, set-set, get_or-set_same, get_or-set_other}
use borrow.Author.Tests.{ne_eqb}
use Rattle.reading.specs.declared.letter.Letter.TheVariants.{Row as R}
use Rattle.reading.specs.declared.Due.{Due}
use Rattle.reading.specs.Letter.{width_of}
use Rattle.reading.specs.Reading.{line_at, row_only, row_read}
use Rattle.base.specs.Limits.{most_tables, most_rows}
use Rattle.table.specs.Table.{Row, row_of, Table, later_row_bad, row_bad}
use Rattle.table.specs.Layout.{rows_from, tables_from}
use Rattle.table.proofs.Arrays.{row_later}
use Rattle.grammar.specs.Grammar.{last_rows}
use Rattle.grammar.specs.Sheet.{longest, State, past, due_of, with_row, by_reading, step_of}
use Rattle.grammar.specs.Inner.{SoundState, Onward}
use Rattle.grammar.proofs.Rules.{row_taken}
use Rattle.grammar.proofs.Turns.{went_on}
use Rattle.grammar.proofs.Only.{read_next}
use Rattle.holding.specs.declared.reader.Reader.{Reader}
use Rattle.holding.specs.Inner.{state_in, Owing, Bounds, SoundReader, reader_at, Stored}
use Rattle.holding.proofs.Arrays.{stored_at, rows_held, row_more}
use Rattle.sheet.proofs.Held.{sound_state}

stay : (s : List ℕ) (st : State) → SoundState (length s) st → Onward s st st
stay s st h = record { sound = h; further = omega arith; same = refl; read = λ t. t }

join : (s : List ℕ) (a b c : State) → Onward s a b → Onward s b c → Onward s a c
join s a b c p q = record { sound = q.sound; further = omega (arith, p.further, q.further); same = q.same ∙ p.same; read = λ t. q.read (p.read t) }

-- a row that is as it should be, where one is owed
row_on : (s : List ℕ) (st : State) (a b : ℕ) (ts : List Table) → SoundState (length s) st → 0 < st.owed → line_at s st.at row_only ≡ row_read a b
    → row_bad (last_rows st.tables) (row_of a b) ≡ false → ts ≡ with_row st.tables (row_of a b)
    → Onward s st (record { at = st.at + width_of R; line = st.line + 1; owed = st.owed - 1; tables = ts; cars = st.cars; struck = st.struck; history = st.history })
unfolding step_of
row_on s st a b ts h o el g et =
    let due : due_of st ≡ row_only = simp (ne_eqb st.owed 0 (λ z. omega arith)) in
    let er : line_at s st.at (due_of st) ≡ row_read a b = ap (λ (x : Due). line_at s st.at x) due ∙ el in
    let e : past R st (st.owed - 1) ts st.cars st.struck st.history ≡ step_of s st =
    row_taken st (row_of a b) ts g et ∙ sym (ap (by_reading (length s) st) er) in
    let w = went_on s st (past R st (st.owed - 1) ts st.cars st.struck st.history) e h _ refl in
    record { sound = w.0; further = omega arith; same = w.2; read = λ t. read_next s st (past R st (st.owed - 1) ts st.cars st.struck st.history) e h t _ refl }

-- What is known where one more row of table k is due: its rows so far, the row before, and that the reading only went on.
pub record Taken (s : List ℕ) (h : Reader) (l₀ c₀ : List ℕ) (k : ℕ) (l c : List ℕ) (rows level capacity at line owed : ℕ) : Type 0 where
  pub count : h.directory.count ≡ suc k
  pub few : k < most_tables
  pub four : length h.directory.rows ≡ most_tables
  pub each : (j : ℕ) → j < k → get_or h.directory.rows j 0 ≤ most_rows
  pub some : 0 < rows
  pub room : rows + owed ≤ most_rows
  pub place : at + width_of R * owed ≤ longest + width_of R * most_rows
  pub number : line + owed ≤ longest + 1 + most_rows
  pub before_level : level ≡ get_or l (most_rows * k + rows - 1) 0
  pub before_capacity : capacity ≡ get_or c (most_rows * k + rows - 1) 0
  pub went : (f : List ℕ) → Onward s (state_in h l₀ c₀ f) (state_in (reader_at h at line owed k rows) l c f)

pub taken_none : (s : List ℕ) (h : Reader) (l c f : List ℕ) → SoundReader (length s) h l c → Onward s (state_in h l c f) (state_in h l c f)
taken_none s h l c f b = stay s (state_in h l c f) (sound_state (length s) h l c f b)

pub taken_start : (s : List ℕ) (h : Reader) (l c : List ℕ) (k : ℕ) → Bounds h → Owing h.owed h.directory → SoundReader (length s) h l c
    → k ≡ h.directory.count - 1 → length h.directory.rows ≡ most_tables → 0 < get_or h.directory.rows k 0
    → Taken s h l c k l c (get_or h.directory.rows k 0) (get_or l (most_rows * k + get_or h.directory.rows k 0 - 1) 0) (get_or c (most_rows * k + get_or h.directory.rows k 0 - 1) 0) h.at h.line h.owed
taken_start s h l c k b o sound e n m =
    let room : get_or h.directory.rows k 0 + h.owed ≤ most_rows = rw e o.room in
    record {
      count = omega (arith, o.some);
      few = omega (arith, o.some, o.few);
      four = n;
      each = λ j i. o.each j (omega (arith, o.some));
      some = m;
      room = room;
      place = omega (arith, b.place);
      number = omega (arith, b.number);
      before_level = refl;
      before_capacity = refl;
      went = λ f. rw (set-get_or h.directory.rows k 0) (taken_none s h l c f sound);
    }

-- one more row that follows the row before, and is stored
pub taken_more : (s : List ℕ) (h : Reader) (l₀ c₀ : List ℕ) (k : ℕ) (l c : List ℕ) (rows level capacity at line owed : ℕ) (l' c' : List ℕ) (a b : ℕ)
    → Taken s h l₀ c₀ k l c rows level capacity at line owed → 0 < owed → line_at s at row_only ≡ row_read a b
    → later_row_bad (row_of level capacity) (row_of a b) ≡ false → Stored l c l' c' (most_rows * k + rows) a b
    → Taken s h l₀ c₀ k l' c' (rows + 1) a b (at + width_of R) (line + 1) (owed - 1)
taken_more s h l₀ c₀ k l c rows level capacity at line owed l' c' a b t o el later stored =
    record {
      count = t.count;
      few = t.few;
      four = t.four;
      each = t.each;
      some = omega arith;
      room = omega (arith, t.room);
      place = omega (arith, t.place);
      number = omega (arith, t.number);
      before_level = sym (ap (λ (i : ℕ). get_or l' i 0) last ∙ stored_at l l' (most_rows * k + rows) a stored.first stored.in_levels);
      before_capacity = sym (ap (λ (i : ℕ). get_or c' i 0) last ∙ stored_at c c' (most_rows * k + rows) b stored.second stored.in_capacities);
      went = λ f.
          join s (state_in h l₀ c₀ f) (state_in (reader_at h at line owed k rows) l c f) (state_in (reader_at h (at + width_of R) (line + 1) (owed - 1) k (rows + 1)) l' c' f) (t.went f)
          (row_on s (state_in (reader_at h at line owed k rows) l c f) a b (tables_from h.directory.types (set h.directory.rows k (rows + 1)) l' c' 0 h.directory.count) (t.went f).sound o el follows more);
    }
  where
    last : most_rows * k + (rows + 1) - 1 ≡ most_rows * k + rows
    last = omega arith

    so_far : get_or (set h.directory.rows k rows) k 0 ≡ rows
    so_far = get_or-set_same h.directory.rows k rows 0 (omega (arith, t.few, t.four))

    follows : row_bad (last_rows (tables_from h.directory.types (set h.directory.rows k rows) l c 0 h.directory.count)) (row_of a b) ≡ false
    follows =
        ap (λ (x : List Row). row_bad x (row_of a b)) (rows_held h.directory.types (set h.directory.rows k rows) l c k h.directory.count t.count ∙ ap (rows_from l c (most_rows * k)) so_far)
        ∙ row_later l c (most_rows * k) rows (most_rows * k + rows - 1) (row_of a b) (omega (arith, t.some)) t.some
        ∙ ap (λ (x : ℕ). later_row_bad (row_of x (get_or c (most_rows * k + rows - 1) 0)) (row_of a b)) (sym t.before_level)
        ∙ ap (λ (x : ℕ). later_row_bad (row_of level x) (row_of a b)) (sym t.before_capacity)
        ∙ later

    more : tables_from h.directory.types (set h.directory.rows k (rows + 1)) l' c' 0 h.directory.count ≡ with_row (tables_from h.directory.types (set h.directory.rows k rows) l c 0 h.directory.count) (row_of a b)
    more =
        ap (λ (x : List ℕ). tables_from h.directory.types x l' c' 0 h.directory.count) (sym (set-set h.directory.rows k rows (rows + 1)))
        ∙ row_more h.directory.types (set h.directory.rows k rows) l c l' c' h.directory.count k rows a b t.count so_far (omega (arith, length-set h.directory.rows k rows, t.few, t.four))
        (λ j i. rw (get_or-set_other h.directory.rows k j rows 0 (λ e. omega arith)) (t.each j i)) stored
