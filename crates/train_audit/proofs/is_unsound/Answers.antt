-- `train_audit::is_unsound` meets its contract: at each `return` the tests that led there give that of the definition.
use mathlib.Core.Path.{◌≡◌, refl, ap, sym, ◌∙◌}
use mathlib.Core.Bool.{not}
use borrow.Author.Tests.{lt-ltb, le-ltb}
use Rattle.base.specs.Limits.{most_cars}
use Rattle.summing.specs.Sums.{sums_of, same_sums}
use Rattle.consist.specs.Train.{Train, cars_of, shown_in, unsound}
use Rattle.consist.specs.Lent.{tallied}
use Rattle.train_audit.proofs.Same.{equal_sums}
use Rattle.train_audit.proofs.is_unsound.Goals as goal
use Rattle.train_audit.proofs.is_unsound.Goals.{After-ne}

abbrev train_of : After-ne → Train
train_of c = tallied c.args.sums c.args.cars.now

pub returns-then-held-gt-MOST_CARS : goal.returns-then-held-gt-MOST_CARS
unfolding unsound
returns-then-held-gt-MOST_CARS c = simp (lt-ltb most_cars c.args.cars.now.held c.if-held-gt-MOST_CARS.true)

pub returns-then-repeats : goal.returns-then-repeats
unfolding unsound
returns-then-repeats c = rw (le-ltb most_cars c.args.cars.now.held c.if-held-gt-MOST_CARS.false, sym c.repeats.ensures ∙ c.if-repeats.true) refl

pub returns-then-is_over_limits : goal.returns-then-is_over_limits
unfolding unsound
returns-then-is_over_limits c =
    rw (le-ltb most_cars c.args.cars.now.held c.if-held-gt-MOST_CARS.false, sym c.repeats.ensures ∙ c.if-repeats.false, sym c.is_over_limits.ensures ∙ c.if-is_over_limits.true) refl

-- the comparison with the sums of the held cars
compared : (c : After-ne) → c.ne.result ≡ not (same_sums c.args.sums (sums_of (shown_in (cars_of (train_of c)))))
compared c = c.ne.ensures ∙ ap not (equal_sums c.args.sums c.made_by.result ∙ ap (same_sums c.args.sums) (c.made_by.ensures (train_of c) refl refl refl))

pub returns-then-ne : goal.returns-then-ne
unfolding unsound
returns-then-ne c =
    let apart = sym (compared (goal.at.returns-then-ne c).After-ne) ∙ c.if-ne.true in
    rw (le-ltb most_cars c.args.cars.now.held c.if-held-gt-MOST_CARS.false, sym c.repeats.ensures ∙ c.if-repeats.false, sym c.is_over_limits.ensures ∙ c.if-is_over_limits.false, apart) c.if-ne.true

pub returns-else-ne : goal.returns-else-ne
unfolding unsound
returns-else-ne c =
    let alike = sym (compared (goal.at.returns-else-ne c).After-ne) ∙ c.if-ne.false in
    rw (le-ltb most_cars c.args.cars.now.held c.if-held-gt-MOST_CARS.false, sym c.repeats.ensures ∙ c.if-repeats.false, sym c.is_over_limits.ensures ∙ c.if-is_over_limits.false, alike) (ap not c.adds_up.ensures)
