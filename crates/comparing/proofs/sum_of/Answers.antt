-- `comparing::sum_of` meets its contract: the readings passed so far are in range, and their sum is at hand.
use Prim.Native.Nat.{◌<◌}
use mathlib.Core.Path.{refl}
use native.Mathlib.Omega.{arith}
use borrow.Author.Rules.{rules}
use Rattle.base.specs.Total.{total}
use Rattle.comparison.specs.Answers.{most_readings}
use Rattle.comparing.proofs.Readings.{given_most, more_good, more_sum}
use Rattle.comparing.proofs.sum_of.Goals as goal

pub loop-mm-init : goal.loop-mm-init
unfolding total
loop-mm-init c = record { none = refl; same = refl }

pub overflow_add-sum : goal.overflow_add-sum
overflow_add-sum c =
    let l = c.loop-mm in
    let few : l.mm-index < most_readings = search (rules, arith) in
    omega (arith, l.invariant.same, given_most _ l.mm-index (omega arith) l.invariant.none, few)

pub loop-mm-preserved : goal.loop-mm-preserved
loop-mm-preserved c =
    let l = c.loop-mm in
    record {
      none = more_good _ l.mm-index c.loop-mm-test.true l.invariant.none (omega arith) (omega arith);
      same = more_sum _ l.mm-index c.loop-mm-test.true l.invariant.same;
    }
