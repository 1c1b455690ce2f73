-- `lettering::writing::write_line_at` meets its contract: where the line has no room or a number is too large, nothing is written.
use Prim.Native.Nat.{ℕ, ◌+◌, ◌*◌}
use mathlib.Core.Path.{ap, sym, ◌∙◌}
use mathlib.Core.List.{[], ◌∷◌}
use native.Mathlib.Omega.{arith}
use Rattle.base.specs.Answer.{figures}
use Rattle.line.proofs.Bytes.{can_write, short, large, line_written, answered}
use Rattle.lettering.proofs.Small.{small_line}
use Rattle.lettering.proofs.writing.write_line_at.Goals as goal
use Rattle.lettering.proofs.writing.write_line_at.Goals.{then-out-width-via-then-out-width, then-out-width-via-else-out-width+then-out-width-2, then-out-width-via-else-out-width+else-out-width-2+then-not-small}

pub returns-then-out-width : goal.returns-then-out-width
returns-then-out-width c =
    let a = c.args in
    let e = c.count_of-count.ensures in
    elim c.then-out-width.branch [
      | then-out-width-via-then-out-width w ↦ short a.line a.at a.out.now (omega (arith, w.if-out-width.true, e.0))
      | then-out-width-via-else-out-width+then-out-width-2 w ↦ short a.line a.at a.out.now (omega (arith, w.if-out-width-2.true, e.0))
      | then-out-width-via-else-out-width+else-out-width-2+then-not-small w ↦ large a.line a.at a.out.now (sym (small_line a.line c.count_of-count.result w.small.result e.0 (omega arith) w.small.ensures) ∙ w.if-not-small.true)
    ]

pub put_line-requires : goal.put_line-requires
put_line-requires c =
    let e = c.count_of-count.ensures in
    (omega (arith, e.0), sym (small_line c.args.line c.count_of-count.result c.small.result e.0 (omega arith) c.small.ensures) ∙ c.if-not-small.false)

pub returns : goal.returns
returns c =
    let a = c.args in
    let e = c.count_of-count.ensures in
    let w = can_write a.line a.at _ (omega (arith, e.0)) (sym (small_line a.line c.count_of-count.result c.small.result e.0 (omega arith) c.small.ensures) ∙ c.if-not-small.false) in (
      ap (λ (n : ℕ). figures ((2 + 9 * n) ∷ [])) e.0 ∙ answered a.line a.at _ w,
      c.put_line.ensures ∙ line_written a.line a.at a.out.now w,
    )
