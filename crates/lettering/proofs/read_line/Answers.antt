-- `lettering::read_line` meets its contract: the line from the start, which ends at its first line feed and writes back.
use mathlib.Core.Path.{ap, ◌∙◌}
use Rattle.reading.specs.Reading.{any}
use Rattle.reading.specs.Tests.{line_told}
use Rattle.reading.proofs.Answers.{line_told_lem}
use Rattle.line.proofs.Alone.{ends_at_feed}
use Rattle.line.proofs.RoundTrip.{read_writes_back}
use Rattle.lettering.proofs.read_line.Goals as goal

pub returns : goal.returns
returns c =
    let s = c.args.s.now in
    let e = c.read_line_at.ensures in
    (e, ap line_told e ∙ line_told_lem s 0 any, rw e (ends_at_feed s), rw e (read_writes_back s))
