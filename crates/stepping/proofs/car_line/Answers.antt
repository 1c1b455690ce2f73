-- `stepping::car_line` meets its contract: 9 for the hundred and twenty-first, else one more line.
use Prim.Native.Nat.{ℕ, ◌+◌}
use mathlib.Core.Path.{◌≡◌, ap₂, ◌∙◌}
use mathlib.Core.List.{List, ◌∷◌}
use native.Mathlib.Omega.{arith}
use lib.ListN.{length}
use borrow.Author.Tests.{le-leb, lt-leb}
use Rattle.reading.specs.Letter.{most_fields}
use Rattle.holding.specs.Layout.{car_mark, history_from}
use Rattle.holding.specs.Inner.{state_in}
use Rattle.holding.proofs.Arrays.{line_more}
use Rattle.grammar.proofs.Rules.{car_refused, car_taken}
use borrow.Author.Rules.{rules}
use Rattle.stepping.proofs.car_line.Goals as goal

pub returns-then-reader-ge-MOST_CAR_LINES : goal.returns-then-reader-ge-MOST_CAR_LINES
returns-then-reader-ge-MOST_CAR_LINES c = λ l d.
    let a = c.args in
    c.refused_here.ensures l d a.fields.now
    ∙ car_refused (state_in a.reader l d a.fields.now) a.numbers (le-leb _ _ c.if-reader-ge-MOST_CAR_LINES.true)

pub returns : goal.returns
returns c = λ l d.
    let a = c.args in
    let n = a.reader.cars + a.reader.struck in
    let fourteen : length a.numbers ≡ most_fields = search rules in
    let more : a.reader.cars + 1 + a.reader.struck ≡ n + 1 = omega arith in
    let h = c.if-reader-ge-MOST_CAR_LINES.false in
    car_taken (state_in a.reader l d a.fields.now) a.numbers _ (lt-leb _ _ h)
    (ap₂ (λ (x : List ℕ) (i : ℕ). history_from x 0 i) c.store_line.ensures.0 more ∙ line_more a.fields.now (car_mark ∷ a.numbers) n (omega (arith, fourteen)) (omega (arith, h, c.store_line.ensures.1, c.requires.few_strikes)))
