-- `train_strike::strike_on` meets its contract: 30, or the place of the number is taken out of each array.
use mathlib.Core.Path.{◌≡◌, ap, sym, ◌∙◌}
use native.Mathlib.Omega.{arith}
use lib.Dec.{ltb}
use lib.Seq.{length-take-le}
use borrow.Author.Tests.{lt-ltb, le-ltb}
use Rattle.base.specs.Numbers.{member}
use Rattle.consist.specs.Train.{held_by, position, without_at}
use Rattle.consist.specs.Inner.{Sixty}
use Rattle.consist.specs.Lent.{train_in}
use Rattle.consist.proofs.Places.{member_position}
use Rattle.consist.proofs.Striking.{not_held, is_held, taken_out}
use Rattle.train_strike.proofs.strike_on.Goals as goal
use Rattle.train_strike.proofs.strike_on.Goals.{After-place_of-at}

-- the arrays have sixty places
sixty : (c : After-place_of-at) → Sixty (train_in c.args.cars.now)
sixty c = record { numbers = omega arith; grades = omega arith; grosses = omega arith; nets = omega arith }

-- whether the number is held, by the place found
is_held_by : (c : After-place_of-at) → let t = train_in c.args.cars.now in member c.args.number (held_by t) ≡ ltb c.place_of-at.result c.args.cars.now.held
is_held_by c =
    let t = train_in c.args.cars.now in
    let n = length-take-le t.held t.numbers (omega (arith, (sixty c).numbers, c.requires.place)) in
    member_position c.args.number (held_by t) ∙ ap (ltb (position c.args.number (held_by t))) n ∙ ap (λ k. ltb k t.held) (sym c.place_of-at.ensures)

pub returns-then-held-at : goal.returns-then-held-at
returns-then-held-at c =
    let r = not_held (train_in c.args.cars.now) c.args.number c.requires (is_held_by (goal.at.returns-then-held-at c).After-place_of-at ∙ le-ltb _ _ c.if-held-at.true) in
    record { answered = r.0; struck = r.1 }

pub returns : goal.returns
returns c =
    let p = (goal.at.returns c).After-place_of-at in
    let t = train_in c.args.cars.now in
    let k = is_held t c.args.number c.requires (is_held_by p ∙ lt-ltb _ _ c.if-held-at.false) in
    record {
      answered = k.0;
      struck = taken_out t c.place_of-at.result (sixty p) c.requires c.if-held-at.false c.close_up.ensures c.close_up-2.ensures c.close_up-3.ensures c.close_up-4.ensures
          ∙ ap (without_at t) c.place_of-at.ensures
          ∙ k.1;
    }
