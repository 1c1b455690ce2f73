-- An answer with figures: the car passed all its tests, and the figures are its six. Its masses lie within their distances.
use Prim.Native.Nat.{ℕ}
use mathlib.Core.Path.{◌≡◌, refl, ap}
use mathlib.Core.List.{List, ◌++◌}
use Rattle.base.specs.Answer.{Test, Verdict, accepts, refuses, first, Answer, figures, answer}
use Rattle.base.proofs.Answer.{accepted_parts}
use Rattle.table.specs.Table.{Table, tables_tests}
use Rattle.car.specs.declared.Measured.{Measured}
use Rattle.car.specs.Measured.{Mass, gross, net, mass, six_figures}
use Rattle.car.specs.Car.{intake_number, before_tests, car_tests, figures_of, alone_tests, alone_answer}
use Rattle.car.specs.Inner.{Passed}
use Rattle.car.proofs.Accepted.{passed_car, passed_alone, uncut}
use Rattle.car.proofs.Masses.{mass_near}
use Rattle.consist.specs.Train.{train_tests, admission_tests, enter_tests, enter_answer}
use Rattle.consist.specs.Demand3.{verdict_in, mass_in, Close, Answered, alone, entered}

pub record Taken (ts : List Table) (m : Measured) (a : Answer) : Type 0 where
  pub number : ℕ
  pub passed : Passed ts m
  pub six : a ≡ figures (six_figures ts number m)

verdict_answered : (v : Verdict) (values : List ℕ) → verdict_in (answer v values) ≡ accepts → v ≡ accepts
verdict_answered accepts values e = refl
verdict_answered (refuses n) values e = e

pub taken : (ts : List Table) {m : Measured} {a : Answer} → Answered ts m a → verdict_in a ≡ accepts → Taken ts m a
unfolding alone_answer admission_tests enter_tests enter_answer
taken ts (alone c) e =
    let v = verdict_answered (first (alone_tests ts c)) (figures_of ts c) e in
    record {
      number = intake_number c;
      passed = passed_alone c v;
      six = ap (λ (w : Verdict). answer w (figures_of ts c)) v;
    }
taken ts (entered t c) e =
    let v = verdict_answered (first (enter_tests ts t c)) (figures_of ts c) e in
    let p = accepted_parts (car_tests ts c) (admission_tests ts t c) v in
    let admission : List Test = train_tests t (intake_number c) in
    record {
      number = intake_number c;
      passed = passed_car c (accepted_parts admission (tables_tests ts) (accepted_parts (tables_tests ts ++ admission) (before_tests c) p.0).1).0 p.1;
      six = ap (λ (w : Verdict). answer w (figures_of ts c)) v;
    }

-- what the six figures show
pub six_shows : (ts : List Table) (number : ℕ) (m : Measured) (k : Mass) → mass_in k (figures (six_figures ts number m)) ≡ mass k ts m
unfolding six_figures mass
six_shows ts number m gross = refl
six_shows ts number m net = refl

pub close : (ts : List Table) (m : Measured) (a : Answer) → Answered ts m a → Close ts m a
close ts m a w = record {
  near = λ e k p. let t = taken ts w e in rw (t.six, six_shows ts t.number m k) (mass_near ts m t.passed k p);
  uncut = λ e. uncut ts m (taken ts w e).passed;
}
