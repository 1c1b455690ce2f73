-- `lettering::writing::write_line` meets its contract: the line from the buffer's start, and what is left there reads back.
use mathlib.Core.Path.{◌≡◌}
use lib.ListN.{length}
use borrow.Author.Rules.{rules}
use Rattle.line.proofs.RoundTrip.{written_reads_back}
use Rattle.lettering.proofs.writing.write_line.Goals as goal
use Rattle.lettering.proofs.writing.write_line.Goals.{Start}

fourteen : (c : Start) → length c.args.line.numbers ≡ 14
fourteen c = search rules

pub returns : goal.returns
returns c = (
  c.write_line_at.ensures.0,
  c.write_line_at.ensures.1,
  rw c.write_line_at.ensures.1 (written_reads_back c.args.line c.args.out.now (fourteen (goal.at.returns c).Start)),
)
