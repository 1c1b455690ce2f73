-- `comparing::sum_of` meets its contract: the readings passed so far are in range, and their sum is at hand.
use Rattle.comparison.specs.Answers.{given}
use Rattle.comparing.specs.Inner.{InRange}
use Rattle.comparing.proofs.sum_of.Given as goal

abbrev pub invariant-loop-mm : goal.invariant-loop-mm
invariant-loop-mm l = InRange (given l.mm-index l.given) l.sum
