-- `merge_held::keep::strike` meets its contract: the number is not there, or its place is taken out of both arrays.
use Prim.Native.Nat.{ℕ, ◌-◌}
use mathlib.Core.Path.{◌≡◌, ap, sym, ◌∙◌}
use mathlib.Core.Bool.{Bool, cond}
use mathlib.Core.List.{List}
use native.Mathlib.Omega.{arith}
use lib.Dec.{ltb}
use lib.ListN.{length, take}
use lib.Seq.{length-take-le}
use borrow.Author.Tests.{lt-ltb, le-ltb}
use Rattle.base.specs.Limits.{most_cars}
use Rattle.base.specs.Numbers.{member}
use Rattle.consist.specs.Train.{position, remove_at, closed}
use Rattle.consist.proofs.Places.{member_position, closed-length}
use Rattle.merge_held.proofs.Rows.{closed-take}
use Rattle.merge_held.proofs.keep.strike.Goals as goal
use Rattle.merge_held.proofs.keep.strike.Goals.{After-place_of-at}

-- whether the number is there, by the place found
there : (c : After-place_of-at) → member c.args.number ((take c.args.count c.args.numbers.now)) ≡ ltb c.place_of-at.result c.args.count
there c =
    let n = length-take-le c.args.count c.args.numbers.now (omega (arith, c.requires.few, c.requires.first)) in
    member_position c.args.number ((take c.args.count c.args.numbers.now)) ∙ ap (ltb (position c.args.number ((take c.args.count c.args.numbers.now)))) n ∙ ap (λ k. ltb k c.args.count) (sym c.place_of-at.ensures)

pub returns-then-count-at : goal.returns-then-count-at
returns-then-count-at c =
    let e = there (goal.at.returns-then-count-at c).After-place_of-at ∙ le-ltb _ _ c.if-count-at.true in
    (rw e, rw e, c.requires)

pub returns : goal.returns
returns c =
    let e = there (goal.at.returns c).After-place_of-at ∙ lt-ltb _ _ c.if-count-at.false in
    let out : (row : List ℕ) → length row ≡ most_cars → take (c.args.count - 1) (closed c.place_of-at.result row) ≡ remove_at (position c.args.number ((take c.args.count c.args.numbers.now))) (take c.args.count row) =
    λ row h. closed-take c.place_of-at.result c.args.count row c.if-count-at.false (omega (arith, c.requires.few)) ∙ ap (λ k. remove_at k (take c.args.count row)) c.place_of-at.ensures in (
      ap (take (c.args.count - 1)) c.close_up.ensures ∙ out c.args.numbers.now c.requires.first ∙ ap (λ (b : Bool). cond b (remove_at (position c.args.number ((take c.args.count c.args.numbers.now))) ((take c.args.count c.args.numbers.now))) ((take c.args.count c.args.numbers.now))) (sym e),
      ap (take (c.args.count - 1)) c.close_up-2.ensures ∙ out c.args.places.now c.requires.second
          ∙ ap (λ (b : Bool). cond b (remove_at (position c.args.number ((take c.args.count c.args.numbers.now))) (take c.args.count c.args.places.now)) (take c.args.count c.args.places.now)) (sym e),
      record {
        few = omega (arith, c.requires.few);
        first = ap length c.close_up.ensures ∙ closed-length c.place_of-at.result c.args.numbers.now (omega (arith, c.if-count-at.false, c.requires.few, c.requires.first)) ∙ c.requires.first;
        second = ap length c.close_up-2.ensures ∙ closed-length c.place_of-at.result c.args.places.now (omega (arith, c.if-count-at.false, c.requires.few, c.requires.second)) ∙ c.requires.second;
      },
    )
