-- `terms::limit_of` meets its contract. The invariant: `high` is enough, and whatever is enough is not below `low`.
use Prim.Native.Nat.{ℕ, ◌-◌, ◌*◌, ◌≤◌}
use Rattle.accuracy.specs.Inner.{most_limit}
use Rattle.terms.proofs.limit_of.Given as goal

abbrev pub invariant-loop-low : goal.invariant-loop-low
invariant-loop-low l =
    (l.low ≤ l.high)
    × (l.high ≤ most_limit)
    × (121 * l.sum ≤ 100 * (l.high * l.high))
    × ((k : ℕ) → 121 * l.sum ≤ 100 * (k * k) → l.low ≤ k)

abbrev pub decreases-loop-low : goal.decreases-loop-low
decreases-loop-low l = l.high - l.low
