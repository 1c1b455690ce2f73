-- `train_strike::close_up` meets its contract: what the copy within the array and the free last place make is the closed list.
use mathlib.Core.Path.{ap, ◌∙◌}
use mathlib.Core.List.{List}
use native.Mathlib.Omega.{arith}
use Prim.Native.Nat.{ℕ}
use lib.ListN.{set}
use Rattle.train_strike.proofs.Places.{closed_up}
use Rattle.train_strike.proofs.close_up.Goals as goal

pub returns : goal.returns
returns c = ap (λ (l : List ℕ). set l 59 0) c.copy_within.ensures.after ∙ closed_up c.args.k c.args.list.now 59 (omega arith) (omega arith)
