-- `stepping::end_line` meets its contract: each return follows from the tests before it.
use Rattle.base.proofs.Tests.{tests}
use Rattle.grammar.specs.Sheet.{end_line}
use Rattle.stepping.proofs.end_line.Goals as goal

pub returns-then-count-reader : goal.returns-then-count-reader
unfolding end_line
returns-then-count-reader c = λ l d f. search (tests, c.refused_here.ensures l d f)

pub returns-then-reader-bytes : goal.returns-then-reader-bytes
unfolding end_line
returns-then-reader-bytes c = λ l d f. search tests

pub returns-else-reader-bytes : goal.returns-else-reader-bytes
unfolding end_line
returns-else-reader-bytes c = λ l d f. search tests
