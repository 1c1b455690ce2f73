-- `trainslice::write_sums` meets its contract: behind the totals of all cars each turn writes a grade's.
use Prim.Native.Nat.{ℕ}
use mathlib.Core.Path.{◌≡◌, ap, ◌∙◌}
use mathlib.Core.List.{List}
use lib.ListN.{length}
use borrow.Author.Rules.{rules}
use Rattle.base.specs.Limits.{grade_count}
use Rattle.base.specs.Buffer.{put}
use Rattle.base.proofs.Lists.{length_under}
use Rattle.trainslice.specs.Layout.{totals_places, grades_numbers}
use Rattle.trainslice.proofs.Slice.{grade_written, grades_written, sums_written}
use Rattle.trainslice.proofs.write_sums.Goals as goal

pub loop-i-preserved : goal.loop-i-preserved
loop-i-preserved c =
    let v = c.loop-i.invariant in
    let four : length c.args.sums.grades ≡ grade_count = search (rules, length_under) in
    (v.0, c.write_totals-in-loop-i.ensures ∙ grade_written c.write_totals.new.to v.0 c.args.sums.grades four c.loop-i.i c.loop-i.to c.loop-i-test.true v.1)

pub returns : goal.returns
returns c =
    let v = c.loop-i.invariant in
    let t = c.args.sums in
    let four : length t.grades ≡ grade_count = search (rules, length_under) in
    v.1
    ∙ grades_written c.write_totals.new.to v.0 t.grades four c.loop-i.i c.loop-i-test.false
    ∙ ap (λ (x : List ℕ). put x totals_places (grades_numbers t.grades)) c.write_totals.ensures
    ∙ sums_written t c.args.to.now c.requires four
