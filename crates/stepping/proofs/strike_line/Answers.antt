-- `stepping::strike_line` meets its contract: 9 for the sixty-first, else one more line.
use Prim.Native.Nat.{ℕ, ◌+◌}
use mathlib.Core.Path.{◌≡◌, ap₂, ◌∙◌}
use mathlib.Core.List.{List, ◌∷◌}
use native.Mathlib.Omega.{arith}
use lib.ListN.{length, get_or}
use borrow.Author.Tests.{le-leb, lt-leb}
use Rattle.reading.specs.Letter.{most_fields}
use Rattle.holding.specs.Layout.{strike_mark, history_from}
use Rattle.holding.specs.Inner.{state_in}
use Rattle.holding.proofs.Arrays.{line_more}
use Rattle.grammar.proofs.Rules.{strike_refused, strike_taken}
use borrow.Author.Rules.{rules}
use Rattle.stepping.proofs.strike_line.Goals as goal

pub returns-then-reader-ge-MOST_STRIKES : goal.returns-then-reader-ge-MOST_STRIKES
returns-then-reader-ge-MOST_STRIKES c = λ l d.
    let a = c.args in
    c.refused_here.ensures l d a.fields.now
    ∙ strike_refused (state_in a.reader l d a.fields.now) (get_or a.numbers 0 0) (le-leb _ _ c.if-reader-ge-MOST_STRIKES.true)

pub returns : goal.returns
returns c = λ l d.
    let a = c.args in
    let n = a.reader.cars + a.reader.struck in
    let fourteen : length a.numbers ≡ most_fields = search rules in
    let more : a.reader.cars + (a.reader.struck + 1) ≡ n + 1 = omega arith in
    let h = c.if-reader-ge-MOST_STRIKES.false in
    strike_taken (state_in a.reader l d a.fields.now) (get_or a.numbers 0 0) _ (lt-leb _ _ h)
    (ap₂ (λ (x : List ℕ) (i : ℕ). history_from x 0 i) c.store_line.ensures.0 more ∙ line_more a.fields.now (strike_mark ∷ a.numbers) n (omega (arith, fourteen)) (omega (arith, h, c.store_line.ensures.1, c.requires.few_cars)))
