-- `printing::write_refused` meets its contract: the Z line has room.
use mathlib.Core.Path.{◌≡◌, refl, sym, ◌∙◌}
use mathlib.Core.List.{append-nil}
use native.Mathlib.Omega.{arith}
use lib.ListN.{length}
use Rattle.line.proofs.Bytes.{length_line_of, can_write}
use Rattle.grammar.specs.Text.{text_of}
use Rattle.answers.specs.Listing.{sheet_refused_line}
use Rattle.answers.proofs.Lines.{sheet_refused_fit}
use Rattle.printing.proofs.write_refused.Goals as goal
use Rattle.printing.proofs.write_refused.Goals.{After-line_with-text}

-- the line that is made is the definition's
made : (c : After-line_with-text) → c.line_with-text.result ≡ sheet_refused_line c.args.line c.args.number
made c = c.line_with-text.ensures

pub append_line-requires : goal.append_line-requires
append_line-requires c =
    let number = c.args.number in
    rw (made (goal.at.append_line-requires c).After-line_with-text)
    (can_write (sheet_refused_line c.args.line number) 0 (length c.args.out.now) (omega (arith, c.requires.0)) (sheet_refused_fit c.args.line number c.requires.1 c.requires.2).small)

pub returns : goal.returns
unfolding text_of
returns c =
    let line = sheet_refused_line c.args.line c.args.number in
    let e = rw (made (goal.at.returns c).After-line_with-text) at c.append_line.ensures in
    rw append-nil (e.0 ∙ sym (length_line_of line refl), e.1)
