-- `scanning::read_line_at` meets its contract: a line at its fixed length is the one that a search finds.
use mathlib.Core.Path.{sym}
use native.Mathlib.Omega.{arith}
use Rattle.reading.proofs.Lines.{line_quick}
use Rattle.scanning.proofs.read_line_at.Goals as goal

pub returns-in-Some-numbers_at : goal.returns-in-Some-numbers_at
returns-in-Some-numbers_at c =
    let a = c.args in
    sym
    (line_quick a.s.now a.at a.due c.in-Some.letter c.count_of-count.result c.in-Some.ensures c.count_of-count.ensures.0
    (omega arith) (omega arith) c.in-Some-numbers_at.numbers c.in-Some-numbers_at.ensures)
