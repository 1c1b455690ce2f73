-- The history of lines: the accepted cars that no later strike takes are those that are kept, and the first strike behind one finds it.
use Prim.Native.Nat.{ℕ}
use mathlib.Core.Path.{◌≡◌, refl, sym, ap, ◌∙◌}
use mathlib.Core.Bool.{Bool, true, false, cond, not, ◌||◌, or-true}
use mathlib.Core.List.{List, [], ◌∷◌, ◌++◌, map, append_assoc, append-nil}
use borrow.Author.Tests.{eq-eqb, eqb-true}
use lib.Dec.{eqb}
use Rattle.base.specs.Answer.{refuse_if, Verdict, accepts, refuses, first, Answer, answer}
use Rattle.base.specs.Numbers.{member}
use Rattle.base.specs.Lists.{Each}
use Rattle.base.specs.Total.{selected}
use Rattle.base.proofs.Answer.{accepted_parts, followed}
use Rattle.base.proofs.Choice.{cond_either}
use Rattle.base.proofs.Numbers.{any_snoc}
use Rattle.base.proofs.Lists.{map-append, selected-append}
use Rattle.table.specs.Table.{Table}
use Rattle.car.specs.Measured.{mass, six_figures}
use Rattle.car.specs.Car.{car_tests, figures_of, Intake, intake_number}
use Rattle.consist.specs.Train.{Train}
use Rattle.consist.specs.Book.{Item, car, strike, number_in, book_admission, book_strike}
use Rattle.consist.specs.Demand3.{verdict_in, answer_to, train_with, answers_from, struck_in, Standing, standing, shown_of, first_strike, Found}
use Rattle.consist.proofs.Places.{selected_both, map-map, member_more, member_others}
use Rattle.consist.proofs.Loads.{Accepted, shown_for}
use Rattle.consist.proofs.Kept.{Kept, turned, taken, entry_for, number_for, book_of, taken_in_lem, taken_append, Matches, kept_by, kept_step, matched, said, answer_is}

-- The history of lines: of the kept cars those go that a later strike takes, and the accepted ones of the lines come that none takes.

abbrev pub on : Standing → Accepted
on s = record { tables = s.tables; car = s.car }

-- what is shown of it is what was answered
abbrev pub Right : Standing → Type 0
Right s = shown_of s ≡ shown_for (on s)

module _ (is : List Item) (answers : List Answer) where
  abbrev lasting : List Kept → List Kept
  lasting ks = selected (λ k. not (struck_in is (number_for k))) ks

  history_car : (ks : List Kept) (ts : List Table) (c : Intake) (admission own : Verdict)
      → taken_in_lem (lasting (ks ++ kept_by admission own ts c)) ++ map on (standing is answers)
      ≡ taken_in_lem (lasting ks) ++ map on (standing (car ts c ∷ is) (answer (followed admission own) (figures_of ts c) ∷ answers))
  history_car ks ts c (refuses n) own = ap (λ (l : List Kept). taken_in_lem (lasting l) ++ map on (standing is answers)) (append-nil ks)
  history_car ks ts c accepts (refuses n) =
      ap (λ (l : List Accepted). l ++ map on (standing is answers))
      (ap taken_in_lem (selected-append (λ k. not (struck_in is (number_for k))) ks (turned (intake_number c) ∷ []))
      ∙ taken_append (lasting ks) (lasting (turned (intake_number c) ∷ []))
      ∙ go (struck_in is (intake_number c)))
    where
      go : (b : Bool) → taken_in_lem (lasting ks) ++ taken_in_lem (cond (not b) (turned (intake_number c) ∷ []) []) ≡ taken_in_lem (lasting ks)
      go true = append-nil (taken_in_lem (lasting ks))
      go false = append-nil (taken_in_lem (lasting ks))
  history_car ks ts c accepts accepts =
      let a : Accepted = record { tables = ts; car = c } in
      ap (λ (l : List Accepted). l ++ map on (standing is answers))
      (ap taken_in_lem (selected-append (λ k. not (struck_in is (number_for k))) ks (taken a ∷ []))
      ∙ taken_append (lasting ks) (lasting (taken a ∷ [])))
      ∙ go (struck_in is (intake_number c))
    where
      go : (b : Bool) → taken_in_lem (lasting ks) ++ taken_in_lem (cond (not b) (taken (record { tables = ts; car = c }) ∷ []) []) ++ map on (standing is answers)
          ≡ taken_in_lem (lasting ks) ++ map on (cond b (standing is answers) (record { tables = ts; car = c; values = figures_of ts c } ∷ standing is answers))
      go true = ap (λ (l : List Accepted). l ++ map on (standing is answers)) (append-nil (taken_in_lem (lasting ks)))
      go false = append_assoc (taken_in_lem (lasting ks)) (record { tables = ts; car = c } ∷ []) (map on (standing is answers))

  right_car : (ts : List Table) (c : Intake) (v : Verdict) → Each Right (standing is answers) → Each Right (standing (car ts c ∷ is) (answer v (figures_of ts c) ∷ answers))
  unfolding six_figures mass
  right_car ts c (refuses n) h = h
  right_car ts c accepts h = cond_either (Each Right) (struck_in is (intake_number c)) _ _ (λ _. h) (λ _. (refl, h))

-- one item more in front
pub history_step : (t : Train) (ks : List Kept) → Matches t ks → (i : Item) (is : List Item) (answers : List Answer)
    → taken_in_lem (selected (λ k. not (struck_in is (number_for k))) (kept_step ks i)) ++ map on (standing is answers)
    ≡ taken_in_lem (selected (λ k. not (struck_in (i ∷ is) (number_for k))) ks) ++ map on (standing (i ∷ is) (answer_to t i ∷ answers))
history_step t ks m (car ts c) is answers =
    rw (answer_is t ks m ts c) (history_car is answers ks ts c (first (book_admission (book_of ks) ts c)) (first (car_tests ts c)))
history_step t ks m (strike number) is answers =
    ap (λ (l : List Kept). taken_in_lem l ++ map on (standing is answers)) (selected_both (λ k. eqb (number_for k) number) (λ k. struck_in is (number_for k)) ks)

pub right_step : (t : Train) (ks : List Kept) → Matches t ks → (i : Item) (is : List Item) (answers : List Answer) → Each Right (standing is answers)
    → Each Right (standing (i ∷ is) (answer_to t i ∷ answers))
right_step t ks m (car ts c) is answers h = rw (answer_is t ks m ts c) (right_car is answers ts c (followed (first (book_admission (book_of ks) ts c)) (first (car_tests ts c))) h)
right_step t ks m (strike number) is answers h = h

-- The first strike behind an accepted car finds it.

-- a number stays kept until it is struck
kept_found : (n : ℕ) (items : List Item) (t : Train) (ks : List Kept) → Matches t ks → member n (map number_for ks) ≡ true
    → first_strike n items (answers_from t items) ≡ accepts
unfolding book_strike
kept_found n [] t ks m e = refl
kept_found n (car ts c ∷ items) t ks m e =
    let more : List Kept = kept_by (first (book_admission (book_of ks) ts c)) (first (car_tests ts c)) ts c in
    kept_found n items (train_with t (car ts c)) (kept_step ks (car ts c)) (matched t ks m (car ts c))
    (ap (member n) (map-append number_for ks more) ∙ member_more n (map number_for ks) (map number_for more) e)
kept_found n (strike k ∷ items) t ks m e =
    cond_either (λ (v : Verdict). v ≡ accepts) (eqb n k) (verdict_in (answer_to t (strike k))) (first_strike n items (answers_from (train_with t (strike k)) items))
    (λ h. said t ks m (strike k) ∙ ap (λ (b : Bool). first (refuse_if 30 (not b) ∷ [])) (ap (member k) (map-map number_in entry_for ks) ∙ ap (λ (x : ℕ). member x (map number_for ks)) (sym (eqb-true n k h)) ∙ e))
    (λ h. kept_found n items (train_with t (strike k)) (kept_step ks (strike k)) (matched t ks m (strike k)) (member_others number_for n k ks h e))

-- an accepted car is kept
accepted_kept : (t : Train) (ks : List Kept) → Matches t ks → (ts : List Table) (c : Intake) → verdict_in (answer_to t (car ts c)) ≡ accepts
    → member (intake_number c) (map number_for (kept_step ks (car ts c))) ≡ true
accepted_kept t ks m ts c e =
    let p = accepted_parts (car_tests ts c) (book_admission (book_of ks) ts c) (sym (said t ks m (car ts c)) ∙ e) in
    rw (p.0, p.1)
    (ap (member (intake_number c)) (map-append number_for ks (taken (record { tables = ts; car = c }) ∷ []))
    ∙ any_snoc (λ (y : ℕ). eqb y (intake_number c)) (map number_for ks) (intake_number c)
    ∙ ap (λ (b : Bool). member (intake_number c) (map number_for ks) || b) (eq-eqb (intake_number c) (intake_number c) refl)
    ∙ or-true (member (intake_number c) (map number_for ks)))

pub found_from : (items : List Item) (t : Train) (ks : List Kept) → Matches t ks → Found items (answers_from t items)
found_from [] t ks m = tt
found_from (car ts c ∷ items) t ks m =
    let next = matched t ks m (car ts c) in (
      (λ e. kept_found (intake_number c) items (train_with t (car ts c)) (kept_step ks (car ts c)) next (accepted_kept t ks m ts c e)),
      found_from items (train_with t (car ts c)) (kept_step ks (car ts c)) next,
    )
found_from (strike n ∷ items) t ks m = found_from items (train_with t (strike n)) (kept_step ks (strike n)) (matched t ks m (strike n))
