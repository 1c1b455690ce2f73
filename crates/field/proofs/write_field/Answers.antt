-- `field::write_field` meets its contract: what does not fit leaves the buffer as lent, and `put_field` writes the rest.
use mathlib.Core.Path.{sym, ◌∙◌}
use native.Mathlib.Omega.{arith}
use Rattle.field.proofs.Writing.{too_large, no_room, fits, field_written}
use Rattle.field.proofs.write_field.Goals as goal
use Rattle.field.proofs.write_field.Goals.{then-n-gt-LARGEST-via-then-n-gt-LARGEST, then-n-gt-LARGEST-via-else-n-gt-LARGEST+then-out-lt-COLUMNS, then-n-gt-LARGEST-via-else-n-gt-LARGEST+else-out-lt-COLUMNS+then-out-at}

pub returns-then-n-gt-LARGEST : goal.returns-then-n-gt-LARGEST
returns-then-n-gt-LARGEST c =
    let a = c.args in
    elim c.then-n-gt-LARGEST.branch [
      | then-n-gt-LARGEST-via-then-n-gt-LARGEST w ↦ too_large a.n a.at a.out.now w.if-n-gt-LARGEST.true
      | then-n-gt-LARGEST-via-else-n-gt-LARGEST+then-out-lt-COLUMNS w ↦ no_room a.n a.at a.out.now (omega (arith, w.if-out-lt-COLUMNS.true))
      | then-n-gt-LARGEST-via-else-n-gt-LARGEST+else-out-lt-COLUMNS+then-out-at w ↦ no_room a.n a.at a.out.now (omega (arith, w.if-out-at.true))
    ]

pub returns : goal.returns
returns c =
    let a = c.args in (
      sym (fits a.n a.at a.out.now (omega arith) (omega arith)),
      c.put_field.ensures ∙ sym (field_written a.n a.at a.out.now (omega arith) (omega arith)),
    )
