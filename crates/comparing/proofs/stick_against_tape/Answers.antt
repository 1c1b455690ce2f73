-- `comparing::stick_against_tape` meets its contract: at each `return` the tests that led there give the answer.
use Prim.Native.Nat.{◌≤◌}
use mathlib.Core.Path.{◌≡◌, refl, sym, ◌∙◌}
use native.Mathlib.Omega.{arith}
use borrow.Author.Rules.{rules}
use lib.ListN.{length}
use Rattle.std.proofs.lemmas.Result.{err_from_is_err_and}
use Rattle.comparison.specs.Answers.{most_readings, check_answer}
use Rattle.comparison.proofs.Exchange.{check_right}
use Rattle.comparison.proofs.Ranges.{count_in}
use Rattle.comparing.proofs.Readings.{given_most}
use Rattle.comparing.proofs.stick_against_tape.Goals as goal

pub returns-then-is_count_bad : goal.returns-then-is_count_bad
unfolding check_answer
returns-then-is_count_bad c = check_right _ _ _ _ (search rules) (rw (sym c.is_count_bad.ensures ∙ c.if-is_count_bad.true) refl)

pub returns-in_err-sum : goal.returns-in_err-sum
unfolding check_answer
returns-in_err-sum c =
    let p = err_from_is_err_and c.from_residual.result c.from_residual.ensures.1 in
    let bad = c.in_err-sum.ensures in
    check_right _ _ _ _ (search rules) (rw (p.1, p.2, bad.0, sym c.is_count_bad.ensures ∙ c.if-is_count_bad.false, bad.1) refl)

pub compare_on_tape-requires : goal.compare_on_tape-requires
compare_on_tape-requires c =
    let a = c.args in
    let right = c.in_ok-sum.ensures in
    let few = count_in a.count (sym c.is_count_bad.ensures ∙ c.if-is_count_bad.false) in
    let full : length a.readings ≡ most_readings = search rules in
    let room : a.count ≤ length a.readings = omega (arith, full, few.most) in
    record { counted = few; most = omega (arith, right.same, given_most a.readings a.count room right.none) }

pub returns : goal.returns
unfolding check_answer
returns c =
    let right = c.in_ok-sum.ensures in
    check_right _ _ _ _ (search rules) (c.compare_on_tape.ensures ∙ rw (sym c.is_count_bad.ensures ∙ c.if-is_count_bad.false, right.none, ← right.same) refl)
