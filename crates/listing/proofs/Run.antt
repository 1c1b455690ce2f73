-- The loop over the lines behind a sheet's tables: what is written and what is still to be written make the whole listing.
use Prim.Native.Nat.{ℕ, ◌+◌, ◌-◌, ◌≤◌, ◌<◌}
use mathlib.Core.Path.{◌≡◌, ap, ◌∙◌}
use mathlib.Core.Bool.{true}
use mathlib.Core.List.{List, [], ◌∷◌}
use native.Mathlib.Omega.{arith}
use lib.ListN.{length}
use Rattle.base.specs.Limits.{most_car_lines, most_strikes}
use Rattle.base.specs.Answer.{accepts}
use Rattle.base.specs.Buffer.{put}
use Rattle.reading.specs.declared.letter.Line.{Line}
use Rattle.reading.specs.Letter.{width_of}
use Rattle.line.specs.Writing.{line_of, writable}
use Rattle.table.specs.Table.{Table, tables_verdict}
use Rattle.table.proofs.Arrays.{one_left, none_left}
use Rattle.consist.specs.Train.{Train, empty_train}
use Rattle.consist.specs.Book.{Item}
use Rattle.consist.specs.Demand3.{answer_to, train_with}
use Rattle.consist.specs.Inner.{Reached}
use Rattle.consist.proofs.Book.{reached_first, reached_next, reached_sound, reached_four}
use Rattle.holding.specs.Layout.{line_in, line_numbers, history_from, history_of}
use Rattle.grammar.specs.Grammar.{TrainLine, cars_in, strikes_in, EachLine}
use Rattle.grammar.specs.Text.{text_of}
use Rattle.answers.specs.Listing.{items_of, item_line, totals_lines, lines_from, least_buffer}
use Rattle.answers.proofs.Lengths.{line_fit, text_most}
use Rattle.printing.specs.Inner.{Closing}
use Rattle.answers.proofs.Lines.{Fit}
use Rattle.listing.specs.Inner.{item_at}
use Rattle.printing.proofs.Laid.{Laid, none_laid, line_room, line_laid}

-- the lines of a whole sheet's answer, and their bytes
abbrev pub sheet_lines : List Table → List TrainLine → List Line
sheet_lines ts history = lines_from empty_train (items_of ts history)

abbrev pub sheet_text : List Table → List TrainLine → List ℕ
sheet_text ts history = text_of (sheet_lines ts history)

-- the least buffer has room for every sheet's
pub sheet_fits : (ts : List Table) → tables_verdict ts ≡ accepts → (fields : List ℕ) (lines : ℕ) → cars_in (history_of fields lines) ≤ most_car_lines → strikes_in (history_of fields lines) ≤ most_strikes → EachLine (history_of fields lines)
    → length (sheet_text ts (history_of fields lines)) ≤ least_buffer
sheet_fits ts good fields lines h k e = omega (arith, text_most ts good empty_train reached_first (history_of fields lines) e)

-- the lines from line i on
abbrev left : List ℕ → ℕ → ℕ → List TrainLine
left fields lines i = history_from fields i (lines - i)

-- the next line, and the others
abbrev here : List ℕ → ℕ → TrainLine
here fields i = line_in (line_numbers fields i)

next_line : (fields : List ℕ) (lines i : ℕ) → i < lines → left fields lines i ≡ here fields i ∷ left fields lines (i + 1)
next_line fields lines i h = ap (history_from fields i) (one_left lines i h)

-- Where the loop stands: `out` up to `at`, with the train `running` and the lines from i on, beside the whole listing over the buffer as lent.
pub record Written (ts : List Table) (fields : List ℕ) (lines : ℕ) (lent out : List ℕ) (running : Train) (at i : ℕ) : Type 0 where
  pub reached : i ≤ lines
  pub laid : Laid lent 0 (sheet_lines ts (history_of fields lines)) out at (lines_from running (items_of ts (left fields lines i)))
  pub train : Reached running
  pub each : EachLine (left fields lines i)

pub begun : (ts : List Table) (fields : List ℕ) (lines : ℕ) (lent : List ℕ) → EachLine (history_of fields lines) → Written ts fields lines lent lent empty_train 0 0
begun ts fields lines lent e =
    let z : lines - 0 ≡ lines = omega arith in
    record {
      reached = omega arith;
      laid = rw z (none_laid lent 0 (text_of (sheet_lines ts (history_of fields lines))));
      train = reached_first;
      each = rw z e;
    }

module _ (ts : List Table) (good : tables_verdict ts ≡ accepts) (fields : List ℕ) (lines : ℕ) (lent : List ℕ) (fits : length (sheet_text ts (history_of fields lines)) ≤ length lent)
    (out : List ℕ) (running : Train) (at i : ℕ) (m : Written ts fields lines lent out running at i) where
  space : 0 + length (sheet_text ts (history_of fields lines)) ≤ length lent
  space = omega arith

  -- a turn writes the answer to the next line
  module _ (h : i < lines) where
    abbrev item : Item
    item = item_at ts fields i

    abbrev line : Line
    line = item_line item (answer_to running item)

    abbrev entered : Train
    entered = train_with running item

    abbrev later : List Line
    later = lines_from entered (items_of ts (left fields lines (i + 1)))

    these : EachLine (here fields i ∷ left fields lines (i + 1))
    these = rw (next_line fields lines i h) at m.each

    fit : Fit line
    fit = line_fit ts good running (here fields i) these.0

    ahead : Laid lent 0 (sheet_lines ts (history_of fields lines)) out at (line ∷ later)
    ahead = rw (next_line fields lines i h) at m.laid

    pub room_for : writable line at (length out) ≡ true
    room_for = line_room lent 0 (sheet_lines ts (history_of fields lines)) space out at line later ahead fit.fourteen fit.small

    pub turn : (l : Line) (running' : Train) (out' : List ℕ) (at' : ℕ) → l ≡ line → running' ≡ entered → out' ≡ put out at (line_of l) → at' ≡ at + width_of l.letter → length out' ≡ length out
        → Written ts fields lines lent out' running' at' (i + 1)
    turn l running' out' at' el er eo ea en =
        record {
          reached = omega arith;
          laid = rw er (line_laid lent 0 (sheet_lines ts (history_of fields lines)) space out at line later ahead fit.fourteen fit.small l out' at' el eo ea en);
          train = rw er (reached_next item m.train);
          each = these.1;
        }

  -- behind the last line the totals are left
  module _ (h : lines ≤ i) where
    none : left fields lines i ≡ []
    none = ap (history_from fields i) (none_left lines i h)

    closing : Laid lent 0 (sheet_lines ts (history_of fields lines)) out at (totals_lines running.sums)
    closing = rw none at m.laid

    pub totals_ready : Closing running.sums at (length out)
    totals_ready = record { sound = reached_sound m.train; four = reached_four m.train; space = omega (arith, closing.total, closing.same) }

    pub ended : (out' : List ℕ) (r : ℕ) → r ≡ at + length (text_of (totals_lines running.sums)) → out' ≡ put out at (text_of (totals_lines running.sums))
        → (r ≡ length (sheet_text ts (history_of fields lines))) × (out' ≡ put lent 0 (sheet_text ts (history_of fields lines)))
    ended out' r er eo = (omega (arith, er, closing.total), eo ∙ closing.bytes)
