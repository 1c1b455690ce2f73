-- What tables by themselves answer.
use Rattle.std.specs.Prelude.{List, []}
use Rattle.base.specs.Answer.{Answer, first, answer}
use Rattle.table.specs.Table.{Table, tables_tests}

-- 7, 8, or no figures at all
abbrev pub tables_answer : List Table → Answer
tables_answer ts = answer (first (tables_tests ts)) []
