-- `trainslice::write_train` meets its contract: its sums, how many cars it holds, and the four rows.
use Prim.Native.Nat.{ℕ}
use mathlib.Core.Path.{◌≡◌, ap, ◌∙◌}
use mathlib.Core.List.{List}
use lib.ListN.{length, set}
use borrow.Author.Rules.{rules}
use Rattle.base.specs.Limits.{grade_count}
use Rattle.base.specs.Buffer.{put}
use Rattle.base.proofs.Lists.{length_under}
use Rattle.consist.specs.Inner.{Sixty}
use Rattle.consist.specs.Lent.{tallied}
use Rattle.trainslice.specs.Layout.{sums_places, train_of}
use Rattle.trainslice.proofs.Slice.{train_written, train_again}
use Rattle.trainslice.proofs.write_train.Goals as goal
use Rattle.trainslice.proofs.write_train.Goals.{Start}

sixty : (s : Start) → Sixty (tallied s.args.sums s.args.cars.now)
sixty s = record { numbers = search rules; grades = search rules; grosses = search rules; nets = search rules }

four : (s : Start) → length s.args.sums.grades ≡ grade_count
four s = search (rules, length_under)

pub returns : goal.returns
returns c =
    let t = tallied c.args.sums c.args.cars.now in
    let written =
    c.copy_at-4.ensures
    ∙ ap (λ (l : List ℕ). put l 206 t.nets) c.copy_at-3.ensures
    ∙ ap (λ (l : List ℕ). put (put l 146 t.grosses) 206 t.nets) c.copy_at-2.ensures
    ∙ ap (λ (l : List ℕ). put (put (put l 86 t.grades) 146 t.grosses) 206 t.nets) c.copy_at.ensures
    ∙ ap (λ (l : List ℕ). put (put (put (put (set l sums_places t.held) 26 t.numbers) 86 t.grades) 146 t.grosses) 206 t.nets) c.write_sums.ensures
    ∙ train_written t c.args.to.now c.requires (sixty (goal.at.returns c).Start) (four (goal.at.returns c).Start) in
    (written, ap train_of written ∙ train_again t (four (goal.at.returns c).Start) (sixty (goal.at.returns c).Start))
