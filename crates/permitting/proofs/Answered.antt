-- The answer on the permitted error of a car, dipped or probed, from the car's own answer.
use Prim.Native.Nat.{ℕ}
use mathlib.Core.Path.{◌≡◌, refl, sym, ap}
use mathlib.Core.List.{List, []}
use lib.ListN.{get_or}
use Rattle.std.specs.Prelude.{Ok}
use Rattle.base.specs.Answer.{Verdict, Answer, refuses, first, figures, refusal}
use Rattle.base.proofs.Answer.{answer_figures, answer_refusal}
use Rattle.table.specs.Table.{Table}
use Rattle.car.specs.declared.Figures.{Figures}
use Rattle.car.specs.declared.Measured.{Measured}
use Rattle.car.specs.Measured.{mass, six_figures}
use Rattle.car.specs.Car.{Intake, measured_of, figures_of, alone_tests, alone_answer, car_told}
use Rattle.car.specs.Inner.{Passed}
use Rattle.car.proofs.Accepted.{passed_alone}
use Rattle.consist.specs.Demand3.{Close, InOrder}
use Rattle.accuracy.specs.declared.Errors.{Errors}
use Rattle.accuracy.specs.Permitted.{permitted_tests, PermittedAnswer, OnlyAnswer}
use Rattle.accuracy.specs.Shown.{ShownRight}
use Rattle.accuracy.proofs.Answers.{turned_away_lem, only_answer}
use Rattle.accuracy.proofs.Parts.{car_away}
use Rattle.accuracy.proofs.Shown.{shown_right}
use Rattle.permitting.specs.Inner.{SixShown, AcceptedAs}
use Rattle.permitting.proofs.Demand3.{permitted_close, permitted_in_order}

-- all that is promised of an answer, beside a card that holds
abbrev pub Promised : Type 0 → List Table → Intake → Errors → Answer → Type 0
Promised Card ts h e a = OnlyAnswer ts h e a × ShownRight ts h e a × Close ts (measured_of h) a × InOrder ts (measured_of h) a × Card

-- a figure of an answer
abbrev values : Answer → List ℕ
values (figures vs) = vs
values (refusal n) = []

abbrev place : ℕ → Answer → ℕ
place i a = get_or (values a) i 0

module _ {Card : Type 0} (card : Card) (ts : List Table) (h : Intake) (errors : Errors) where
  pub whole : (a : Answer) → PermittedAnswer ts h errors a → Promised Card ts h errors a
  whole a p = (only_answer p, shown_right ts h errors p, permitted_close ts h errors p, permitted_in_order ts h errors p, card)

  -- the car is refused
  pub away : {n : ℕ} → refusal n ≡ alone_answer ts h → Promised Card ts h errors (refusal n)
  unfolding alone_answer
  away {n} e =
      let v : first (alone_tests ts h) ≡ refuses n = answer_refusal (first (alone_tests ts h)) (figures_of ts h) e in
      whole (refusal n) (turned_away_lem (car_away ts h errors v))

-- a verdict behind an answer that comes before it: a refusal stands in its place
abbrev pub verdict_behind : Answer → Verdict → Verdict
verdict_behind (refusal n) v = refuses n
verdict_behind (figures vs) v = v

-- the car's refusal comes before 24 and 25, as an equation by which the check finds an early return
pub car_first : (ts : List Table) (h : Intake) (errors : Errors) → first (permitted_tests ts h errors) ≡ verdict_behind (alone_answer ts h) (first (permitted_tests ts h errors))
unfolding alone_answer
car_first ts h errors = go (alone_answer ts h) refl
  where
    go : (a : Answer) → alone_answer ts h ≡ a → first (permitted_tests ts h errors) ≡ verdict_behind a (first (permitted_tests ts h errors))
    go (figures vs) e = refl
    go (refusal n) e = car_away ts h errors (answer_refusal (first (alone_tests ts h)) (figures_of ts h) (sym e))

-- the car is accepted, and m is measured of it
module _ (ts : List Table) (h : Intake) {six : Figures} (e : car_told (Ok six) ≡ alone_answer ts h) where
  pub accepted_as : {m : Measured} → m ≡ measured_of h → AcceptedAs ts h m six
  unfolding alone_answer
  accepted_as i =
      let p = answer_figures (first (alone_tests ts h)) e in
      record { accepted = p.0; is = i; shows = ap figures p.1 }

  pub behind : {m : Measured} → m ≡ measured_of h → Passed ts m × SixShown ts m six
  unfolding six_figures mass
  behind i =
      let x = accepted_as i in
      rw i (passed_alone h x.accepted, record { v0 = ap (place 2) x.shows; gross = ap (place 4) x.shows })
