-- `train_audit::repeats` meets its contract: of the numbers that were passed none stands twice.
use mathlib.Core.Path.{◌≡◌, sym, ◌∙◌}
use native.Mathlib.Omega.{arith}
use lib.ListN.{length}
use Rattle.base.specs.Limits.{most_cars}
use Rattle.consist.proofs.Places.{twice_hit, twice_miss}
use Rattle.train_audit.proofs.repeats.Goals as goal

pub returns-then-holds : goal.returns-then-holds
returns-then-holds c =
    twice_hit c.args.numbers.now c.loop-i.i (omega (arith, c.requires, c.loop-i-test.true)) c.args.n c.loop-i-test.true (sym c.holds.ensures ∙ c.if-holds.true)

pub loop-i-preserved : goal.loop-i-preserved
loop-i-preserved c =
    twice_miss c.args.numbers.now c.loop-i.i (omega (arith, c.requires, c.loop-i-test.true)) (sym c.holds.ensures ∙ c.if-holds.false) c.loop-i.invariant
