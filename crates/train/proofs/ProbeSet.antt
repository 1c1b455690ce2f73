-- A refusal of a probe's set is that of the car.
use mathlib.Core.Path.{◌≡◌, refl, sym}
use mathlib.Core.List.{List}
use Rattle.base.specs.Answer.{Answer, figures, refusal}
use Rattle.probe_spec.specs.Tenths.{set_answer}
use Rattle.probe_spec.proofs.Answers.{set_refused}
use Rattle.table.specs.Table.{Table}
use Rattle.car.specs.declared.ProbeCar.{ProbeCar}
use Rattle.car.specs.Car.{probed, alone_answer}
use Rattle.car.proofs.Answers.{alone_before}

-- an answer behind one that comes before it: a refusal stands in its place
abbrev pub answer_behind : Answer → Answer → Answer
answer_behind (refusal n) a = refusal n
answer_behind (figures vs) a = a

-- as an equation by which the check finds an early return
pub set_first : (ts : List Table) (car : ProbeCar) → alone_answer ts (probed car) ≡ answer_behind (set_answer car.set) (alone_answer ts (probed car))
set_first ts car = go (set_answer car.set) refl
  where
    go : (a : Answer) → set_answer car.set ≡ a → alone_answer ts (probed car) ≡ answer_behind a (alone_answer ts (probed car))
    go (figures vs) e = refl
    go (refusal n) e = sym (alone_before ts (probed car) (set_refused car.set (sym e)))
