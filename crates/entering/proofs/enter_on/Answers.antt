-- `entering::enter_on` meets its contract: the train's refusals first, then the car's own answer.
use mathlib.Core.Path.{◌≡◌, ap, ◌∙◌}
use Rattle.std.proofs.lemmas.Result.{err_from_is_err_and}
use Rattle.base.specs.Answer.{Verdict, first}
use Rattle.table.specs.Layout.{tables_in}
use Rattle.car.specs.declared.HandedIn.{HandedIn}
use Rattle.car.specs.Car.{Intake, intake_number}
use Rattle.car.specs.Inner.{Stands}
use Rattle.consist.specs.Inner.{place_tests}
use Rattle.consist.specs.Train.{Train}
use Rattle.consist.specs.Lent.{train_in}
use Rattle.consist.proofs.Entering.{place_away, taken_in, graded}
use Rattle.entering.proofs.enter_on.Goals as goal

-- the number tested is that of what is handed in
of_number : (t : Train) {x : HandedIn} {h : Intake} → Stands x h → {v : Verdict} → v ≡ first (place_tests t.held t.numbers x.number) → v ≡ first (place_tests t.held t.numbers (intake_number h))
of_number t s e = e ∙ ap (λ n. first (place_tests t.held t.numbers n)) s.number

pub returns-in_err-check_place : goal.returns-in_err-check_place
returns-in_err-check_place c =
    let ts = tables_in c.args.tables.now in
    let t = train_in c.args.cars.now in
    let p = err_from_is_err_and c.from_residual.result c.from_residual.ensures.1 in
    record {
      answered = λ h s. rw (p.1, p.2) (place_away ts t h s.none c.requires.1.accepted c.requires.0 (of_number t s c.in_err-check_place.ensures)).0;
      entered = λ h s. (place_away ts t h s.none c.requires.1.accepted c.requires.0 (of_number t s c.in_err-check_place.ensures)).1;
      few = c.requires.0.place;
    }

pub returns : goal.returns
returns c =
    let ts = tables_in c.args.tables.now in
    let t = train_in c.args.cars.now in
    let r = c.work_on-answer.result in
    let good = c.requires.1.accepted in
    record {
      answered = λ h s. (taken_in ts t h s.none good c.requires.0 r (of_number t s c.in_ok-check_place.ensures) (c.work_on-answer.ensures h s)).0;
      entered = λ h s.
          c.hold.ensures.held (rw (c.grade_of.ensures, s.measured) (graded ts h r good (c.work_on-answer.ensures h s)))
          ∙ rw (s.number, c.grade_of.ensures, s.measured) (taken_in ts t h s.none good c.requires.0 r (of_number t s c.in_ok-check_place.ensures) (c.work_on-answer.ensures h s)).1;
      few = c.hold.ensures.few;
    }
