-- `merge_conflicts::held_on_both` meets its contract: the numbers not yet passed tell of all.
use mathlib.Core.Path.{◌≡◌}
use mathlib.Core.Bool.{Bool}
use mathlib.Core.List.{List}
use Prim.Native.Nat.{ℕ}
use lib.ListN.{take, drop}
use Rattle.base.specs.Numbers.{any, member}
use Rattle.merge_conflicts.proofs.held.held_on_both.Given as goal

-- whether one of these numbers is among the first m others
abbrev shared : List ℕ → ℕ → List ℕ → Bool
shared others m = any (λ (x : ℕ). member x (take m others))

abbrev pub invariant-loop-x : goal.invariant-loop-x
invariant-loop-x l = shared l.others l.m l.x-items ≡ shared l.others l.m (drop l.x-index l.x-items)
