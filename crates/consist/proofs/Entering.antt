-- Laws of entering a car: when a train takes one more, and what the car's own answer makes of the train.
use Prim.Native.Nat.{ℕ, ◌<◌}
use mathlib.Core.Path.{◌≡◌, refl, ap, ap₂, sym, ◌∙◌}
use mathlib.Core.Bool.{true, false, not, ◌||◌}
use mathlib.Core.List.{List, [], ◌∷◌, ◌++◌}
use lib.Dec.{ltb}
use Rattle.std.proofs.Common.{Result, Ok, Err}
use borrow.Author.Tests.{le-ltb, leb-false, ltb-false, not-false}
use Rattle.base.specs.declared.refusal.Refusal.{Refusal}
use Rattle.base.specs.Limits.{most_cars, grade_count}
use Rattle.base.specs.Answer.{refuse_if, Verdict, accepts, refuses, first, refusal, answer}
use Rattle.base.proofs.Choice.{never, neither}
use Rattle.base.proofs.Numbers.{inside}
use Rattle.base.proofs.Answer.{not_applied, one_applies, accepted_parts, refuses-append, accepted-append, answer_figures}
use Rattle.table.specs.Table.{Table, tables_tests, tables_verdict}
use Rattle.car.specs.declared.Figures.{Figures}
use Rattle.car.specs.Measured.{gross, net, mass, six_figures}
use Rattle.car.specs.Car.{Intake, intake_number, before_tests, measured_of, car_tests, figures_of, own_answer, car_told}
use Rattle.car.proofs.Accepted.{passed_car, grade_known}
use Rattle.summing.specs.Sums.{sums_of, most_in_train, together, same_totals, same_sums}
use Rattle.consist.specs.Train.{Train, held_by, cars_of, shown_in, twice, unsound, full, train_tests, admission_tests, enter_tests, enter_answer, with_masses, after_by, enter_train}
use Rattle.summing.specs.Inner.{Graded, shown_as}
use Rattle.consist.specs.Inner.{SoundTrain, place_tests, bar_tests, with_answer}
use Rattle.summing.proofs.Adding.{same_totals_lem, totals_same, same_sums_lem, sums_same}

-- A train is sound where 9 does not apply but for the numbers that it holds.

pub sound_not : (t : Train) → SoundTrain t → unsound t ≡ false
unfolding unsound
sound_not t h =
    let all = t.sums.all in
    simp (
      le-ltb most_cars t.held h.place,
      h.once,
      le-ltb most_cars all.accepted h.sums.low.few,
      le-ltb most_in_train all.gross h.sums.low.gross_low,
      le-ltb most_in_train all.net h.sums.low.net_low,
      sums_same h.made,
      totals_same h.sums.split,
    )

pub not_sound : (t : Train) → unsound t ≡ false → SoundTrain t
unfolding unsound
not_sound t e =
    let all = t.sums.all in
    let cars = sums_of (shown_in (cars_of t)) in
    let a = ltb most_cars t.held in
    let b = a || twice (held_by t) in
    let c = b || ltb most_cars all.accepted in
    let d = c || ltb most_in_train all.gross in
    let f = d || ltb most_in_train all.net in
    let p = neither (f || not (same_sums t.sums cars)) (not (same_totals all (together t.sums.grades))) e in
    let q = neither f (not (same_sums t.sums cars)) p.0 in
    let r = neither d (ltb most_in_train all.net) q.0 in
    let u = neither c (ltb most_in_train all.gross) r.0 in
    let v = neither b (ltb most_cars all.accepted) u.0 in
    let w = neither a (twice (held_by t)) v.0 in
    record {
      place = ltb-false most_cars t.held w.0;
      once = w.1;
      sums = record {
        low = record {
          few = ltb-false most_cars all.accepted v.1;
          gross_low = ltb-false most_in_train all.gross u.1;
          net_low = ltb-false most_in_train all.net r.1;
        };
        split = same_totals_lem (not-false (same_totals all (together t.sums.grades)) p.1);
      };
      made = same_sums_lem (not-false (same_sums t.sums cars) q.1);
    }

-- then 9 is for the numbers that it holds
place_tests_lem : (t : Train) (number : ℕ) → SoundTrain t → train_tests t number ≡ place_tests t.held t.numbers number
unfolding full
place_tests_lem t number h = simp (sound_not t h)

-- where none of 9 to 11 applies there is a place for the number
pub place_left : (held : ℕ) (numbers : List ℕ) (number : ℕ) → accepts ≡ first (place_tests held numbers number) → held < most_cars
place_left held numbers number e = leb-false most_cars held (not_applied 9 (place_tests held numbers number) (sym e))

-- A car that 7 to 11 turn away, and one that they do not.

module _ (ts : List Table) (t : Train) (c : Intake) where
  admission_refused : {k : ℕ} → first (admission_tests ts t c) ≡ refuses k → (refusal k ≡ enter_answer ts t c) × (t ≡ enter_train ts t c)
  unfolding enter_tests enter_answer enter_train
  admission_refused h = (simp (refuses-append (car_tests ts c) (admission_tests ts t c) h), simp h)

  -- turned away by a test before all others
  pub before_away : {k : ℕ} → first (before_tests c) ≡ refuses k → (refusal k ≡ enter_answer ts t c) × (t ≡ enter_train ts t c)
  unfolding admission_tests
  before_away e = admission_refused (refuses-append (tables_tests ts ++ train_tests t (intake_number c)) (before_tests c) e)

  -- where none of these applies
  module _ (none : first (before_tests c) ≡ accepts) where
    by_tables : first (admission_tests ts t c) ≡ first (tables_tests ts ++ train_tests t (intake_number c))
    unfolding admission_tests
    by_tables = accepted-append (tables_tests ts ++ train_tests t (intake_number c)) (before_tests c) none

    -- turned away by its tables
    pub tables_away : {k : ℕ} → refuses k ≡ first (tables_tests ts) → (refusal k ≡ enter_answer ts t c) × (t ≡ enter_train ts t c)
    tables_away e = admission_refused (by_tables ∙ refuses-append (train_tests t (intake_number c)) (tables_tests ts) (sym e))

  -- on tables that are not refused
  module _ (none : first (before_tests c) ≡ accepts) (good : tables_verdict ts ≡ accepts) where
    by_train : first (admission_tests ts t c) ≡ first (train_tests t (intake_number c))
    by_train = by_tables none ∙ accepted-append (train_tests t (intake_number c)) (tables_tests ts) good

    -- turned away by 9, but for its numbers
    pub unsound_away : unsound t ≡ true → (refusal 9 ≡ enter_answer ts t c) × (t ≡ enter_train ts t c)
    unfolding full
    unsound_away e = admission_refused (by_train ∙ simp e)

    -- turned away by 9 to 11
    away : {k : ℕ} → refuses k ≡ first (train_tests t (intake_number c)) → (refusal k ≡ enter_answer ts t c) × (t ≡ enter_train ts t c)
    away e = admission_refused (by_train ∙ sym e)

  -- on such tables, in a sound train
  module _ (none : first (before_tests c) ≡ accepts) (good : tables_verdict ts ≡ accepts) (sound : SoundTrain t) where
    pub place_away : {k : ℕ} → refuses k ≡ first (place_tests t.held t.numbers (intake_number c)) → (refusal k ≡ enter_answer ts t c) × (t ≡ enter_train ts t c)
    place_away e = away none good (e ∙ sym (ap first (place_tests_lem t (intake_number c) sound)))

    -- past 9 to 11, the car's own answer
    pub taken_in : (a : Result Figures Refusal) → accepts ≡ first (place_tests t.held t.numbers (intake_number c)) → car_told a ≡ own_answer ts c
        → (car_told a ≡ enter_answer ts t c) × (with_answer t (intake_number c) (measured_of c).grade a ≡ enter_train ts t c)
    unfolding own_answer enter_tests enter_answer enter_train six_figures mass
    taken_in a z e =
        let h : first (admission_tests ts t c) ≡ accepts = by_train none good ∙ ap first (place_tests_lem t (intake_number c) sound) ∙ sym z in
        (simp (accepted-append (car_tests ts c) (admission_tests ts t c) h) e, simp h (by_answer a (first (car_tests ts c)) e))
      where
        by_answer : (a : Result Figures Refusal) (v : Verdict) → car_told a ≡ answer v (figures_of ts c) → with_answer t (intake_number c) (measured_of c).grade a ≡ after_by accepts v ts t c
        by_answer (Ok f) accepts e =
            let g : f.gross ≡ mass gross ts (measured_of c) = cc in
            let n : f.net ≡ mass net ts (measured_of c) = cc in
            ap₂ (λ (x y : ℕ). with_masses t (intake_number c) (shown_as (measured_of c).grade x y)) g n
        by_answer (Ok f) (refuses k) e = never (cc)
        by_answer (Err r) accepts e = never (cc)
        by_answer (Err r) (refuses k) e = refl

-- 7, 8 and what 9 says of a train but for its sixty numbers, tested as one.
module _ (ts : List Table) (t : Train) where
  pub barred_away : {k : ℕ} → refuses k ≡ first (bar_tests ts t) → (c : Intake) → first (before_tests c) ≡ accepts → (refusal k ≡ enter_answer ts t c) × (t ≡ enter_train ts t c)
  barred_away {k} e c none = go (first (tables_tests ts)) refl
    where
      go : (v : Verdict) → first (tables_tests ts) ≡ v → (refusal k ≡ enter_answer ts t c) × (t ≡ enter_train ts t c)
      go (refuses j) v = tables_away ts t c none (e ∙ refuses-append (refuse_if 9 (unsound t) ∷ []) (tables_tests ts) v ∙ sym v)
      go accepts v =
          let nine : refuses k ≡ first (refuse_if 9 (unsound t) ∷ []) = e ∙ accepted-append (refuse_if 9 (unsound t) ∷ []) (tables_tests ts) v in
          let p = one_applies 9 (unsound t) (sym nine) in
          rw (← p.1) (unsound_away ts t c none v p.0)

  pub barred_not : accepts ≡ first (bar_tests ts t) → (tables_verdict ts ≡ accepts) × SoundTrain t
  barred_not e =
      let p = accepted_parts (refuse_if 9 (unsound t) ∷ []) (tables_tests ts) (sym e) in
      (p.0, not_sound t (not_applied 9 (refuse_if 9 (unsound t) ∷ []) p.1))

-- a car is accepted only with a grade that there is
pub graded : (ts : List Table) (c : Intake) (a : Result Figures Refusal) → tables_verdict ts ≡ accepts → car_told a ≡ own_answer ts c → Graded (measured_of c).grade a
unfolding own_answer
graded ts c (Err r) good e = tt
graded ts c (Ok f) good e =
    inside 1 grade_count (measured_of c).grade (grade_known ts (measured_of c) (passed_car c good (answer_figures (first (car_tests ts c)) e).0).early)
