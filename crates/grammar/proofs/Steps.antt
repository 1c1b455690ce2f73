-- Every line keeps the reading sound and goes on, or ends it properly.
use Prim.Native.Nat.{ℕ, ◌+◌, ◌-◌, ◌*◌, ◌≤◌, ◌<◌}
use mathlib.Core.Path.{◌≡◌, refl, ap, sym, ◌∙◌}
use mathlib.Core.Bool.{Bool, true, false, ◌&&◌, not, true≢false}
use mathlib.Core.List.{List, [], ◌∷◌}
use native.Mathlib.Omega.{arith}
use Rattle.std.specs.Prelude.{Option, Some, None, Result, Ok, Err}
use lib.Dec.{ltb, leb, eqb}
use lib.ListN.{length, get_or, length-append}
use borrow.Author.Tests.{leb-true, leb-false, eqb-true, eqb-false, not-true}
use Rattle.base.specs.declared.refusal.Refusal.{Refusal}
use Rattle.base.specs.declared.refusal.Refusal.TheVariants.{NoLine, WrongLetter, LineLength, NotNumber}
use Rattle.base.specs.Refusal.{refusal_number}
use Rattle.base.specs.Limits.{largest, most_car_lines, most_strikes}
use Rattle.base.proofs.Choice.{both, never, cond_either}
use Rattle.base.proofs.Lists.{each_append}
use Rattle.reading.specs.declared.letter.Letter.{Letter}
use Rattle.reading.specs.declared.letter.Letter.TheVariants.{Table as T, Row as R, Car as C, Strike as K, End as E}
use Rattle.reading.specs.declared.letter.Line.{Line}
use Rattle.reading.specs.declared.Due.{Due}
use Rattle.reading.specs.Letter.{count_of, width_of, most_fields}
use Rattle.reading.specs.Reading.{letter_of, feed_at, good, values, line_by, line_at}
use Rattle.reading.proofs.Letters.{found}
use Rattle.reading.proofs.Fields.{length_values}
use Rattle.reading.proofs.Lines.{IsLine, is_line}
use Rattle.line.specs.Writing.{small_to}
use Rattle.line.proofs.RoundTrip.{read_small}
use Rattle.table.specs.Table.{row_of, Table, table_line_bad, row_bad}
use Rattle.grammar.specs.Grammar.{enters, strikes, Fitting, CarNumbers, WholeSheet, kinds, last_rows}
use Rattle.grammar.specs.Sheet.{longest, State, Step, next, over, refused_here, due_by, due_of, table_line, row_line, car_line, strike_line, end_line, by_letter, by_reading, step_of}
use Rattle.grammar.specs.Proper.{Proper}
use Rattle.grammar.specs.Inner.{SoundState, Recorded}
use Rattle.grammar.proofs.Rules.{cars_more, cars_kept, strikes_kept, strikes_more}
use Rattle.grammar.proofs.Passed.{passed_verdict, few_accepted, passed_table, passed_row}

-- A letter that was found is due.

pub both_first : (a b : Bool) → (a && b) ≡ true → a ≡ true
both_first true b e = refl
both_first false b e = e

pub both_last : (a b : Bool) → (a && b) ≡ true → b ≡ true
both_last true b e = e
both_last false b e = absurd (true≢false (sym e))

pub settled : (owed : ℕ) (x : Bool) → (eqb owed 0 && x) ≡ true → owed ≡ 0
settled owed x e = eqb-true owed 0 (both_first (eqb owed 0) x e)

pub lacking : (owed : ℕ) → not (eqb owed 0) ≡ true → 0 < owed
lacking owed e = let n = eqb-false owed 0 (not-true (eqb owed 0) e) in omega arith

-- C, K and E are not due before a table
pub some_tables : (owed : ℕ) (ts : List Table) (behind : ℕ) → (due_by owed (length ts) behind).end ≡ true → 1 ≤ length ts
some_tables owed [] behind e = absurd (true≢false (sym (both_last (eqb owed 0) false e)))
some_tables owed (t ∷ ts) behind e = omega arith

-- The line due, by what reading it gave.

module _ (s : List ℕ) (st : State) (r : Result Line Refusal) (er : r ≡ line_at s st.at (due_of st)) where
  pub step_read : by_reading (length s) st r ≡ step_of s st
  unfolding step_of
  step_read = ap (by_reading (length s) st) er

  pub row_owed : (line : Line) → r ≡ Ok line → line.letter ≡ R → 0 < st.owed
  row_owed line e =
      found (λ l. l ≡ R → 0 < st.owed) (get_or s st.at 0) line.letter (due_of st)
      ((λ _ _ q. never (cc)), ((λ _ d _. lacking st.owed d), ((λ _ _ q. never (cc)), ((λ _ _ q. never (cc)), ((λ _ _ q. never (cc)), tt)))))
      (is_line s st.at (due_of st) line (sym er ∙ e)).found

-- A line that is refused is so by 3 to 6.

abbrev Early : Result Line Refusal → Type 0
Early r = (n : Refusal) → r ≡ Err n → (3 ≤ refusal_number n) × (refusal_number n ≤ 6)

early : (m : Refusal) → 3 ≤ refusal_number m → refusal_number m ≤ 6 → Early (Err m)
early m a b n e = let same : m ≡ n = cc in rw (← same) (a, b)

early_by : (s : List ℕ) (at end : ℕ) (f : Option Letter) → Early (line_by s at end f)
unfolding line_by
early_by s at end None = early WrongLetter (omega arith) (omega arith)
early_by s at end (Some l) =
    cond_either Early (eqb (end - at) (1 + 9 * count_of l)) _ _
    (λ _. cond_either Early (good s (at + 1) (count_of l)) _ _ (λ _ n e. never (cc)) (λ _. early NotNumber (omega arith) (omega arith)))
    (λ _. early LineLength (omega arith) (omega arith))

early_line : (s : List ℕ) (at : ℕ) (due : Due) → Early (line_at s at due)
unfolding line_at
early_line s at due =
    cond_either Early (ltb (feed_at s at) (length s)) _ _ (λ _. early_by s at (feed_at s at) (letter_of (get_or s at 0) due)) (λ _. early NoLine (omega arith) (omega arith))

-- After a line.

abbrev pub After : ℕ → State → Step → Type 0
After bytes st (next st') = SoundState bytes st' × (st.at < st'.at) × (Recorded st → Recorded st')
After bytes st (over st' r) = bytes ≤ longest → Recorded st → Proper bytes r

module _ (s : List ℕ) (st : State) (sound : SoundState (length s) st) where
  refused : (n : ℕ) → 3 ≤ n → n ≤ 9 → After (length s) st (refused_here st n)
  refused n a b short told =
      record { lines = omega (arith, sound.within, sound.number); least = omega arith; most = b; long = λ e. absurd (omega arith) }

  pub whole_good : (due_of st).end ≡ true → Recorded st → WholeSheet st.tables st.history
  whole_good d told =
      let none = settled st.owed _ d in
      let verdict = passed_verdict [] st.tables (rw none at sound.passed) in
      let few = few_accepted [] st.tables verdict (omega arith) in
      record {
        some = some_tables st.owed st.tables (st.cars + st.struck) d;
        four = omega arith;
        accepted = verdict;
        few_cars = omega (arith, sound.few_cars, told.counted.cars);
        few_strikes = omega (arith, sound.few_strikes, told.counted.struck);
        each = told.each;
      }

  module _ (ns : List ℕ) where
    after_table : (due_of st).table ≡ true → IsLine s st.at (due_of st) T ns → After (length s) st (table_line st (get_or ns 0 0) (get_or ns 1 0))
    unfolding table_line
    after_table d h =
        let none = settled st.owed _ d in
        let p = h.place in
        let w = h.within in
        cond_either (After (length s) st) (table_line_bad (kinds st.tables) (get_or ns 0 0) (get_or ns 1 0)) _ _
        (λ _. refused 7 (omega arith) (omega arith))
        (λ e. (
          record {
            within = omega arith;
            number = omega (arith, sound.number);
            passed = passed_table [] st.tables (get_or ns 0 0) (get_or ns 1 0) (rw none at sound.passed) e;
            few_cars = sound.few_cars;
            few_strikes = sound.few_strikes;
          },
          omega arith,
          λ told. record { each = told.each; counted = record { cars = told.counted.cars; struck = told.counted.struck } },
        ))

    after_row : (due_of st).row ≡ true → IsLine s st.at (due_of st) R ns → After (length s) st (row_line st (row_of (get_or ns 0 0) (get_or ns 1 0)))
    unfolding row_line
    after_row d h =
        let some = lacking st.owed d in
        let p = h.place in
        let w = h.within in
        let row = row_of (get_or ns 0 0) (get_or ns 1 0) in
        cond_either (After (length s) st) (row_bad (last_rows st.tables) row) _ _
        (λ _. refused 8 (omega arith) (omega arith))
        (λ e. (
          record {
            within = omega arith;
            number = omega (arith, sound.number);
            passed = passed_row [] st.tables st.owed row some sound.passed e;
            few_cars = sound.few_cars;
            few_strikes = sound.few_strikes;
          },
          omega arith,
          λ told. record { each = told.each; counted = record { cars = told.counted.cars; struck = told.counted.struck } },
        ))

    after_car : IsLine s st.at (due_of st) C ns → After (length s) st (car_line st ns)
    unfolding car_line
    after_car h =
        let p = h.place in
        let w = h.within in
        let car : CarNumbers ns = record {
          fourteen = ap length h.are ∙ length-append (values s (st.at + 1) most_fields) [] ∙ omega (arith, length_values s (st.at + 1) most_fields);
          small = read_small s st.at (due_of st) C ns h;
        } in
        cond_either (After (length s) st) (leb most_car_lines st.cars) _ _
        (λ _. refused 9 (omega arith) (omega arith))
        (λ e. (
          record {
            within = omega arith;
            number = omega (arith, sound.number);
            passed = sound.passed;
            few_cars = omega (arith, leb-false most_car_lines st.cars e);
            few_strikes = sound.few_strikes;
          },
          omega arith,
          λ told. record {
            each = each_append Fitting st.history (enters ns ∷ []) told.each (car, tt);
            counted = record { cars = omega (arith, told.counted.cars, cars_more st.history ns); struck = told.counted.struck ∙ sym (strikes_kept st.history ns) };
          },
        ))

    after_strike : IsLine s st.at (due_of st) K ns → After (length s) st (strike_line st (get_or ns 0 0))
    unfolding strike_line small_to
    after_strike h =
        let p = h.place in
        let w = h.within in
        let number : ℕ = get_or ns 0 0 in
        let small : number ≤ largest = leb-true number largest (both true (leb number largest) (read_small s st.at (due_of st) K ns h)).1 in
        cond_either (After (length s) st) (leb most_strikes st.struck) _ _
        (λ _. refused 9 (omega arith) (omega arith))
        (λ e. (
          record {
            within = omega arith;
            number = omega (arith, sound.number);
            passed = sound.passed;
            few_cars = sound.few_cars;
            few_strikes = omega (arith, leb-false most_strikes st.struck e);
          },
          omega arith,
          λ told. record {
            each = each_append Fitting st.history (strikes number ∷ []) told.each (small, tt);
            counted = record { cars = told.counted.cars ∙ sym (cars_kept st.history number); struck = omega (arith, told.counted.struck, strikes_more st.history number) };
          },
        ))

    after_end : (due_of st).end ≡ true → IsLine s st.at (due_of st) E ns → After (length s) st (end_line (length s) st (get_or ns 0 0))
    unfolding end_line
    after_end d h =
        let p = h.place in
        let w = h.within in
        cond_either (After (length s) st) (eqb (get_or ns 0 0) st.cars) _ _
        (λ _ short told.
        cond_either (Proper (length s)) (eqb (st.at + width_of E) (length s)) _ _
        (λ _. whole_good d told)
        (λ _. record { lines = omega (arith, sound.number); least = omega arith; most = omega arith; long = λ e. absurd (omega arith) }))
        (λ _. refused 9 (omega arith) (omega arith))

    after_letter : (l : Letter) → IsLine s st.at (due_of st) l ns → After (length s) st (by_letter (length s) st l ns)
    after_letter l h =
        found (λ m. IsLine s st.at (due_of st) m ns → After (length s) st (by_letter (length s) st m ns)) (get_or s st.at 0) l (due_of st)
        ((λ _ d. after_table d), ((λ _ d. after_row d), ((λ _ _. after_car), ((λ _ _. after_strike), ((λ _ d. after_end d), tt))))) h.found h

  pub after_step : After (length s) st (step_of s st)
  unfolding step_of
  after_step = go (line_at s st.at (due_of st)) refl
    where
      go : (r : Result Line Refusal) → line_at s st.at (due_of st) ≡ r → After (length s) st (by_reading (length s) st r)
      go (Ok line) e = after_letter line.numbers line.letter (is_line s st.at (due_of st) line e)
      go (Err n) e = let h = early_line s st.at (due_of st) n e in refused (refusal_number n) h.0 (omega (arith, h.1))
