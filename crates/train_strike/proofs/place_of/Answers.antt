-- `train_strike::place_of` meets its contract: the place that the library's search finds is the first of the number, and none is n.
use mathlib.Core.Path.{◌≡◌, ap, sym, ◌∙◌}
use native.Mathlib.Omega.{arith}
use lib.Seq.{length-take-le}
use lib.Dec.{eqb, ltb}
use lib.ListN.{length, take}
use Prim.Native.Nat.{ℕ}
use mathlib.Core.Bool.{cond}
use Rattle.std.proofs.Common.{rules, tests, Option, Some, None}
use Rattle.std.specs.Option.{unwrap_or}
use Rattle.std.specs.List.{position_or_len}
use Rattle.std.proofs.lemmas.Iterator.{YieldsList-from_slice}
use Rattle.std.proofs.lemmas.Iterator.Search.{position_from_yields_List}
use Rattle.train_strike.proofs.Places.{found_or}
use Rattle.train_strike.proofs.place_of.Goals as goal

pub returns : goal.returns
returns c =
    let l = take c.args.n c.args.numbers.now in
    let test = λ (y : ℕ). eqb y c.args.number in
    let found : c.position.result ≡ cond (ltb (position_or_len test l) (length l)) (Some (position_or_len test l)) None =
    position_from_yields_List test _ _ c.position.result c.position.ensures.ran (YieldsList-from_slice _ c.iter.ensures.rest) (λ x b q k. search (rules, tests)) in
    let n : length l ≡ c.args.n = length-take-le c.args.n c.args.numbers.now (omega arith) in
    c.unwrap_or.ensures
    ∙ ap (λ (r : Option ℕ). unwrap_or r c.args.n) found
    ∙ ap (unwrap_or (cond (ltb (position_or_len test l) (length l)) (Some (position_or_len test l)) None)) (sym n)
    ∙ found_or c.args.number l
