-- A sheet that was read is listed as demand 3 has it, and every number shown fits its field.
use Prim.Native.Nat.{ℕ, zero, suc, ◌+◌, ◌≤◌, ◌<◌}
use mathlib.Core.Path.{◌≡◌, refl, ap, sym, subst, ◌∙◌}
use mathlib.Core.List.{List, [], ◌∷◌, ◌++◌, append-nil}
use native.Mathlib.Omega.{arith}
use lib.ListN.{length, get_or}
use borrow.Author.Tests.{lt-ltb, le-ltb}
use Rattle.base.specs.Answer.{accepts, Answer}
use Rattle.base.specs.Buffer.{put}
use Rattle.base.specs.Lists.{Each}
use Rattle.base.specs.Total.{total}
use Rattle.reading.specs.declared.letter.Letter.TheVariants.{Totals as S}
use Rattle.reading.specs.declared.letter.Line.{Line}
use Rattle.reading.specs.Letter.{count_of}
use Rattle.line.proofs.Bytes.{length_line_of}
use Rattle.table.specs.Table.{Table, tables_verdict}
use Rattle.car.specs.declared.Measured.{Measured}
use Rattle.car.specs.Car.{measured_of}
use Rattle.summing.specs.declared.Totals.{Totals}
use Rattle.summing.specs.declared.Sums.{Sums}
use Rattle.summing.specs.Sums.{Shown, of_grade, totals_of, sums_of, grade_totals, together}
use Rattle.consist.specs.Train.{Train, empty_train, enter_answer}
use Rattle.consist.specs.Book.{Item, car, strike, loads_of_grade}
use Rattle.consist.specs.Demand3.{answer_to, train_with, train_from, answers_from, Close, Answered, entered, InOrder}
use Rattle.consist.specs.Inner.{Reached}
use Rattle.consist.proofs.Taken.{close}
use Rattle.consist.proofs.Order.{in_order}
use Rattle.consist.proofs.Book.{reconciled, reached_first, reached_sound, reached_four}
use Rattle.grammar.specs.Text.{text_of}
use Rattle.grammar.specs.Grammar.{TrainLine, EachLine}
use Rattle.grammar.specs.Sheet.{SheetRead, refused_at, whole, sheet_of}
use Rattle.grammar.specs.Proper.{Proper}
use Rattle.grammar.specs.ByGrammar.{ReadByGrammar}
use Rattle.grammar.proofs.Turns.{sheet_proper}
use Rattle.grammar.proofs.ByGrammar.{by_grammar}
use Rattle.answers.specs.Listing.{item_of, items_of, item_line, totals_line, grade_lines, totals_lines, sheet_refused_line, lines_from, answer_lines, sheet_number, least_buffer, reply_of, after_answer}
use Rattle.answers.specs.Reconciled.{Small, lines_with, EachAnswered, loads_of, shown_of, totals_shown, grades_shown, SumOf, SheetReconciled}
use Rattle.answers.specs.Paper.{PaperExample}
use Rattle.answers.proofs.Lines.{Fit, all_fit, sheet_refused_fit}
use Rattle.answers.proofs.AgainstPaper.{paper_example}
use Rattle.answers.proofs.Lengths.{line_fit, text_most}

lines_small : (ts : List Table) → tables_verdict ts ≡ accepts → (t : Train) (history : List TrainLine) → EachLine history → Each Small (totals_lines (train_from t (items_of ts history)).sums)
    → Each Small (lines_from t (items_of ts history))
lines_small ts good t [] h s = s
lines_small ts good t (l ∷ history) (h, hs) s =
    ((line_fit ts good t l h).small, lines_small ts good (train_with t (item_of ts l)) history hs s)

-- the lines are those of the answers, then those of the train after the list
lines_of_answers : (t : Train) (items : List Item) → lines_from t items ≡ lines_with items (answers_from t items) ++ totals_lines (train_from t items).sums
lines_of_answers t [] = refl
lines_of_answers t (i ∷ items) = ap (λ (ls : List Line). item_line i (answer_to t i) ∷ ls) (lines_of_answers (train_with t i) items)

-- totals that are those of the grades together, as lines
sum_of : (ss : List Shown) → (sums_of ss).all ≡ together (sums_of ss).grades → SumOf (totals_line (sums_of ss).all) (grade_lines 1 (sums_of ss).grades)
unfolding sums_of total
sum_of ss e = record { field = by_place }
  where
    by_place : (i : ℕ) → i < count_of S → get_or (totals_line (sums_of ss).all).numbers i 0 ≡ total (λ g. get_or g.numbers (i + 1) 0) (grade_lines 1 (sums_of ss).grades)
    by_place zero h = ap (λ (t : Totals). t.accepted) e
    by_place (suc zero) h = ap (λ (t : Totals). t.gross) e
    by_place (suc (suc zero)) h = ap (λ (t : Totals). t.net) e
    by_place (suc (suc (suc i))) h = absurd (omega arith)

-- what holds of every answer that a car gets entered holds of each
each_answered : (P : List Table → Measured → Answer → Type 0) → ((ts : List Table) (m : Measured) (a : Answer) → Answered ts m a → P ts m a)
    → (t : Train) (items : List Item) → EachAnswered P items (answers_from t items)
each_answered P law t [] = tt
each_answered P law t (car ts c ∷ items) = (law ts (measured_of c) (enter_answer ts t c) (entered t c), each_answered P law (train_with t (car ts c)) items)
each_answered P law t (strike n ∷ items) = each_answered P law (train_with t (strike n)) items

each_small : (ls : List Line) → Each Fit ls → Each Small ls
each_small [] h = tt
each_small (l ∷ ls) (h, hs) = (h.small, each_small ls hs)

-- S and the G lines of the train after a list of cars and strikes
module _ (items : List Item) where
  abbrev after : Sums
  after = (train_from empty_train items).sums

  counted : length (shown_of items) ≡ length (loads_of items)
  unfolding sums_of totals_of
  counted = sym (ap (λ (s : Sums). s.all.accepted) (reconciled items).sums) ∙ (reconciled items).all.count

  -- of a grade whose totals the sums have
  counted_of : (g : ℕ) → grade_totals g (sums_of (shown_of items)) ≡ totals_of (of_grade g (shown_of items)) → length (of_grade g (shown_of items)) ≡ length (loads_of_grade g (loads_of items))
  unfolding totals_of
  counted_of g e =
      sym (ap (λ (s : Sums). (grade_totals g s).accepted) (reconciled items).sums ∙ ap (λ (t : Totals). t.accepted) e) ∙ ((reconciled items).grade g).count

  totals_shown_lem : totals_lines after ≡ totals_shown items ∷ grades_shown items
  unfolding sums_of totals_of
  totals_shown_lem = ap totals_lines (reconciled items).sums ∙ rw (counted, counted_of 1 refl, counted_of 2 refl, counted_of 3 refl, counted_of 4 refl)

  -- the first line of a list shows the sums of the others
  abbrev FirstIsSum : List Line → Type 0
  FirstIsSum [] = ⊥
  FirstIsSum (s ∷ gs) = SumOf s gs

  shown_split : SumOf (totals_shown items) (grades_shown items)
  shown_split = subst FirstIsSum (totals_shown_lem) (rw (reconciled items).sums (sum_of (shown_of items) (rw (reconciled items).sums at (reconciled items).split)))

pub sheet_reconciled : (bytes : ℕ) (r : SheetRead) → Proper bytes r → SheetReconciled r
sheet_reconciled bytes (refused_at line number) p = record {
  listed = tt;
  small = ((sheet_refused_fit line number (omega (arith, p.lines)) (omega (arith, p.most))).small, tt);
}
sheet_reconciled bytes (whole ts history) p =
    let items = items_of ts history in
    let r = reconciled items in
    let reached : Reached (train_from empty_train items) = record { items = items; is = refl } in
    record {
      listed = record {
        tables = p.accepted;
        reconciled = r;
        lines = lines_of_answers empty_train items ∙ ap (λ (l : List Line). lines_with items (answers_from empty_train items) ++ l) (totals_shown_lem items);
        split = shown_split items;
        close = each_answered Close close empty_train items;
        order = each_answered InOrder in_order empty_train items;
      };
      small = lines_small ts p.accepted empty_train history p.each (each_small (totals_lines (train_from empty_train items).sums) (all_fit (reached_sound reached) (reached_four reached)));
    }

-- no answer is longer than the least buffer
pub text_fits : (bytes : ℕ) (r : SheetRead) → Proper bytes r → length (text_of (answer_lines r)) ≤ least_buffer
unfolding text_of
text_fits bytes (refused_at line number) p = rw append-nil (omega (arith, length_line_of (sheet_refused_line line number) refl))
text_fits bytes (whole ts history) p = omega (arith, text_most ts p.accepted empty_train reached_first history p.each, p.few_cars, p.few_strikes)

-- The three answers of `answer_sheet`.

module _ (s lent : List ℕ) where
  the_sheet : SheetReconciled (sheet_of s)
  the_sheet = sheet_reconciled (length s) (sheet_of s) (sheet_proper s)

  pub too_short : length lent < least_buffer
      → (record { length = 0; number = 1 } ≡ reply_of s (length lent)) × (lent ≡ after_answer s lent) × (0 ≤ least_buffer) × SheetReconciled (sheet_of s) × PaperExample × ReadByGrammar s
  unfolding reply_of after_answer
  too_short h = let e = lt-ltb (length lent) least_buffer h in (simp e, simp e, omega arith, the_sheet, paper_example, by_grammar s)

  pub answered : (r : SheetRead) (n : ℕ) (left : List ℕ) → least_buffer ≤ length lent → r ≡ sheet_of s → n ≡ length (text_of (answer_lines r))
      → left ≡ put lent 0 (text_of (answer_lines r))
      → (record { length = n; number = sheet_number r } ≡ reply_of s (length lent)) × (left ≡ after_answer s lent) × (n ≤ least_buffer) × SheetReconciled (sheet_of s) × PaperExample × ReadByGrammar s
  unfolding reply_of after_answer
  answered r n left h e p q =
      let b = le-ltb (length lent) least_buffer h in (
        simp b (ap (λ (k : ℕ). record { length = k; number = sheet_number r }) p ∙ ap (λ (x : SheetRead). record { length = length (text_of (answer_lines x)); number = sheet_number x }) e),
        simp b (q ∙ ap (λ (x : SheetRead). put lent 0 (text_of (answer_lines x))) e),
        omega (arith, p, text_fits (length s) r (rw e (sheet_proper s))),
        the_sheet,
        paper_example,
        by_grammar s,
      )
