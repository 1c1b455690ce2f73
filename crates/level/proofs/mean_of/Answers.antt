-- `level::mean_of` meets its contract: the test chooses, and what is chosen is what the call ensures.
use mathlib.Core.Path.{◌∙◌, ap, sym}
use Rattle.dip.specs.Level.{mean_level, mean_of_three}
use Rattle.level.proofs.mean_of.Goals as goal

pub returns-then-are_apart : goal.returns-then-are_apart
unfolding mean_level
returns-then-are_apart c =
    let apart = sym c.are_apart.ensures ∙ c.if-are_apart.true in
    rw (c.from.ensures, c.from-then-are_apart.ensures, c.from-then-are_apart-2.ensures) at c.rounded_mean.ensures ∙ ap mean_of_three c.closest.ensures ∙ rw apart

pub returns : goal.returns
unfolding mean_level
returns c =
    let close = sym c.are_apart.ensures ∙ c.if-are_apart.false in
    rw (c.from-2.ensures, c.from-3.ensures) at c.rounded_mean-2.ensures ∙ rw close
