-- `level::are_scattered` meets its contract: at each `return` the tests that led there give those of the definition.
use Prim.Native.Nat.{ℕ, ◌≤◌}
use mathlib.Core.Path.{refl, subst⁻¹}
use mathlib.Core.List.{List}
use lib.ListN.{get_or}
use borrow.Author.Rules.{rules}
use Rattle.dip.specs.Level.{sorted}
use Rattle.dip.proofs.Sorting.{rising, closest_rising}
use Rattle.level.proofs.are_scattered.Goals as goal

pub overflow_sub-result : goal.overflow_sub-result
overflow_sub-result c =
    let x = c.args.readings in
    subst⁻¹ (λ (t : List ℕ). get_or t 0 0 ≤ get_or t 2 0) c.closest.ensures (closest_rising (sorted x) (rising x (sorted x) (search rules) refl))
