-- `field::read_field` meets its contract: the loop has seen what the definition sees in the columns passed.
use Rattle.field.proofs.Reading.{past, turn, ended}
use borrow.Author.Rules.{rules}
use mathlib.Core.Path.{sym, ap, ◌∙◌}
use native.Mathlib.Omega.{arith}
use Prim.Native.Nat.{◌+◌, ◌-◌, ◌<◌}
use mathlib.Core.Logic.{⊎_elim}
use lib.ListN.{drop}
use lib.Seq.{get_or-take, get_or-drop}
use Rattle.std.proofs.lemmas.Grind.{common_steps}
use Rattle.field.specs.Field.{seen_to, finish}
use Rattle.field.proofs.read_field.Goals as goal

pub returns-then-s-lt-COLUMNS : goal.returns-then-s-lt-COLUMNS
returns-then-s-lt-COLUMNS c = sym (past _ _ (grind (arith, common_steps)))

pub loop-b-init : goal.loop-b-init
unfolding seen_to
loop-b-init c = search rules

pub loop-b-preserved : goal.loop-b-preserved
loop-b-preserved c =
    let a = c.args in
    let i = c.loop-b.b-index in
    let h : i < 9 = grind (arith, common_steps) in
    let e = rw (get_or-take (a.at + 9 - a.at) (drop a.at a.s.now) i 0 (omega arith), get_or-drop a.at a.s.now i 0) at c.column-seen.ensures in
    (omega arith, turn _ _ i _ _ c.loop-b.invariant.1 e)

pub returns-in-Digits : goal.returns-in-Digits
returns-in-Digits c = sym (ap finish c.in-Digits.is) ∙ ended _ _ _ _ c.loop-b.invariant.0 (grind (arith, common_steps)) c.loop-b.invariant.1

pub returns-in-Blank : goal.returns-in-Blank
returns-in-Blank c = ⊎_elim (λ e. sym (ap finish e)) (λ e. sym (ap finish e)) c.in-Blank.is ∙ ended _ _ _ _ c.loop-b.invariant.0 (grind (arith, common_steps)) c.loop-b.invariant.1
