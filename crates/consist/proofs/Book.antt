-- For every list of cars and strikes from the empty train: each is answered as the book has it, and the train's count and totals are those of the book and of
-- the history of lines.
use mathlib.Core.Path.{◌≡◌, refl, sym, ap, ap₂, ◌∙◌}
use mathlib.Core.Bool.{false, not}
use mathlib.Core.List.{List, [], ◌∷◌, ◌++◌, map, append-nil}
use native.Mathlib.Omega.{arith}
use lib.ListN.{length}
use Rattle.base.specs.Limits.{grade_count}
use Rattle.base.specs.Answer.{Verdict, Answer}
use Rattle.base.specs.Lists.{Each}
use Rattle.base.specs.Total.{selected}
use Rattle.summing.specs.declared.Sums.{Sums}
use Rattle.summing.specs.Sums.{Shown, sums_of}
use Rattle.summing.specs.Inner.{Sound}
use Rattle.summing.proofs.Adding.{sums_none, sums_split, grade_totals_lem, all_of, four_grades}
use Rattle.consist.specs.Train.{Train, empty_train}
use Rattle.consist.specs.Book.{Item, Entry, loads, book_from, verdicts_from}
use Rattle.consist.specs.Demand3.{verdict_in, answer_to, train_with, train_from, answers_from, struck_in, Standing, standing, shown_of, Reconciled, Continues}
use Rattle.consist.specs.Inner.{Sixty, SoundTrain, Reached}
use Rattle.consist.proofs.Places.{selected_all, map-map}
use Rattle.consist.proofs.Loads.{Accepted, shown_for, load_for, all_known, beside_all, beside_grade}
use Rattle.consist.proofs.Kept.{Kept, number_for, book_of, taken_in_lem, taken_ok, loads_are, Matches, matched_sound, kept_step, book_step_lem, matched, said}
use Rattle.consist.proofs.History.{on, Right, history_step, right_step, found_from}

-- The whole list.

abbrev kept_from : List Kept → List Item → List Kept
kept_from ks [] = ks
kept_from ks (i ∷ is) = kept_from (kept_step ks i) is

record Run (t : Train) (ks : List Kept) (items : List Item) : Type 0 where
  last : Matches (train_from t items) (kept_from ks items)
  book : book_of (kept_from ks items) ≡ book_from (book_of ks) items
  answered : map verdict_in (answers_from t items) ≡ verdicts_from (book_of ks) items
  history : taken_in_lem (kept_from ks items) ≡ taken_in_lem (selected (λ k. not (struck_in items (number_for k))) ks) ++ map on (standing items (answers_from t items))
  right : Each Right (standing items (answers_from t items))

run : (items : List Item) (t : Train) (ks : List Kept) → Matches t ks → Run t ks items
run [] t ks m = record { last = m; book = refl; answered = refl; history = sym (append-nil (taken_in_lem (selected (λ _. not false) ks)) ∙ ap taken_in_lem (selected_all ks)); right = tt }
run (i ∷ items) t ks m =
    let r = run items (train_with t i) (kept_step ks i) (matched t ks m i) in
    record {
      last = r.last;
      book = r.book ∙ ap (λ (b : List Entry). book_from b items) (book_step_lem ks i);
      answered = ap₂ (λ (v : Verdict) (l : List Verdict). v ∷ l) (said t ks m i) (r.answered ∙ ap (λ (b : List Entry). verdicts_from b items) (book_step_lem ks i));
      history = r.history ∙ history_step t ks m i items (answers_from (train_with t i) items);
      right = right_step t ks m i items (answers_from (train_with t i) items) r.right;
    }

pub start : Matches empty_train []
start = record {
  sixty = record { numbers = refl; grades = refl; grosses = refl; nets = refl };
  held = refl;
  cars = refl;
  room = omega arith;
  once = refl;
  sums = sums_none;
  each = tt;
}

all_right : (l : List Standing) → Each Right l → map shown_of l ≡ map shown_for (map on l)
all_right [] h = refl
all_right (s ∷ l) (h, hs) = ap₂ (λ (x : Shown) (y : List Shown). x ∷ y) h (all_right l hs)

pub reconciled : (items : List Item) → Reconciled items
reconciled items =
    let r = run items empty_train [] start in
    let m = r.last in
    let ks : List Kept = kept_from [] items in
    let l : List Accepted = taken_in_lem ks in
    let st : List Standing = standing items (answers_from empty_train items) in
    let ok = taken_ok ks m.each in
    let known = all_known l ok in
    let entries : loads (book_from [] items) ≡ map load_for l = ap loads (sym r.book) ∙ loads_are ks in
    record {
      answered = r.answered;
      sums = m.sums ∙ ap sums_of (ap (map shown_for) r.history ∙ sym (all_right st r.right));
      history = entries ∙ ap (map load_for) r.history ∙ map-map load_for on st;
      found = found_from items empty_train [] start;
      split = rw m.sums (sums_split (map shown_for l) known);
      all = rw (m.sums, entries, all_of (map shown_for l)) (beside_all l ok);
      grade = λ g. rw (m.sums, entries, grade_totals_lem (map shown_for l) known g) (beside_grade g l ok);
    }

-- One more item behind a list.

train_snoc : (t : Train) (items : List Item) (i : Item) → train_from t (items ++ (i ∷ [])) ≡ train_with (train_from t items) i
train_snoc t [] i = refl
train_snoc t (j ∷ items) i = train_snoc (train_with t j) items i

answers_snoc : (t : Train) (items : List Item) (i : Item) → answers_from t (items ++ (i ∷ [])) ≡ answers_from t items ++ (answer_to (train_from t items) i ∷ [])
answers_snoc t [] i = refl
answers_snoc t (j ∷ items) i = ap (λ (l : List Answer). answer_to t j ∷ l) (answers_snoc (train_with t j) items i)

pub continues : (t : Train) (i : Item) → Continues t i (answer_to t i) (train_with t i)
continues t i = record {
  train = λ items e. ap (λ (u : Train). train_with u i) e ∙ sym (train_snoc empty_train items i);
  answers = λ items e. answers_snoc empty_train items i ∙ ap (λ (u : Train). answers_from empty_train items ++ (answer_to u i ∷ [])) (sym e);
  reconciled = λ items. reconciled (items ++ (i ∷ []));
}

-- A train that a list of cars and strikes hands back.

pub reached_first : Reached empty_train
reached_first = record { items = []; is = refl }

pub reached_next : {t : Train} (i : Item) → Reached t → Reached (train_with t i)
reached_next i r = record { items = r.items ++ (i ∷ []); is = ap (λ (u : Train). train_with u i) r.is ∙ sym (train_snoc empty_train r.items i) }

pub reached_train : {t : Train} → Reached t → SoundTrain t
reached_train r = rw r.is (matched_sound (train_from empty_train r.items) (kept_from [] r.items) (run r.items empty_train [] start).last)

pub reached_sound : {t : Train} → Reached t → Sound t.sums
reached_sound r = (reached_train r).sums

pub reached_four : {t : Train} → Reached t → length t.sums.grades ≡ grade_count
reached_four r =
    let l : List Accepted = taken_in_lem (kept_from [] r.items) in
    ap (λ (u : Train). length u.sums.grades) r.is ∙ ap (λ (s : Sums). length s.grades) (run r.items empty_train [] start).last.sums ∙ four_grades (map shown_for l)

pub reached_sixty : {t : Train} → Reached t → Sixty t
reached_sixty r = rw r.is (run r.items empty_train [] start).last.sixty
