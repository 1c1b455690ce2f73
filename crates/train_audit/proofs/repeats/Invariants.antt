-- `train_audit::repeats` meets its contract: of the numbers that were passed none stands twice.
use mathlib.Core.Path.{◌≡◌}
use mathlib.Core.Bool.{false}
use lib.ListN.{take}
use Rattle.consist.specs.Train.{twice}
use Rattle.train_audit.proofs.repeats.Given as goal

abbrev pub invariant-loop-i : goal.invariant-loop-i
invariant-loop-i l = twice (take l.i l.numbers) ≡ false
