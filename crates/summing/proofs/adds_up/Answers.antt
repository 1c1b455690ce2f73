-- `summing::adds_up` meets its contract: accepted cars, gross and net are each tested, and all three must hold.
use mathlib.Core.Path.{◌≡◌, refl, sym, ◌∙◌}
use mathlib.Core.Bool.{true, false}
use mathlib.Core.Logic.{inl, inr}
use lib.Dec.{eqb}
use lib.ListN.{length}
use Rattle.base.specs.Limits.{grade_count}
use Rattle.base.proofs.Lists.{length_under}
use Rattle.car.specs.Measured.{gross}
use Rattle.summing.specs.Sums.{total_in, same_totals, together}
use Rattle.summing.proofs.Adding.{four, added_up}
use borrow.Author.Rules.{rules}
use Rattle.summing.proofs.adds_up.Goals as goal
use Rattle.summing.proofs.adds_up.Goals.{Start}

grades-four : (s : Start) → length s.args.sums.grades ≡ grade_count
grades-four s = search (rules, length_under)

pub returns-then-gross : goal.returns-then-gross
returns-then-gross c =
    let s = c.args.sums in
    let e : eqb s.all.accepted (four (λ t. t.accepted) s.grades) ≡ true = sym c.is_sum-accepted.ensures ∙ c.if-gross.true.0 in
    let f : eqb s.all.gross (four (total_in gross) s.grades) ≡ true = sym c.is_sum-gross.ensures ∙ c.if-gross.true.1 in
    rw (← added_up s (grades-four (goal.at.returns-then-gross c).Start), e, f) c.is_sum-net.ensures

pub returns-else-gross : goal.returns-else-gross
returns-else-gross c =
    let s = c.args.sums in
    let n = added_up s (grades-four (goal.at.returns-else-gross c).Start) in
    let e : same_totals s.all (together s.grades) ≡ false =
    elim c.if-gross.either [
      | inl h ↦
          let a : eqb s.all.accepted (four (λ t. t.accepted) s.grades) ≡ true = sym c.is_sum-accepted.ensures ∙ h.0 in
          let g : eqb s.all.gross (four (total_in gross) s.grades) ≡ false = sym c.is_sum-gross.ensures ∙ h.1 in
          rw (← n, a, g) refl
      | inr h ↦
          let a : eqb s.all.accepted (four (λ t. t.accepted) s.grades) ≡ false = sym c.is_sum-accepted.ensures ∙ h in
          rw (← n, a) refl
    ] in
    cc
