-- How the answer to a laboratory's report is handed over.
use Rattle.std.specs.Prelude.{ℕ}
use Rattle.base.specs.Answer.{Answer}
use Rattle.laboratory.specs.declared.Report.{Report}
use Rattle.laboratory.specs.Answers.{OnlyAnswer}
use Rattle.marshalling.specs.Handed.{Handed, figure_left}

-- the only answer there is, by the number r and in the lent number
pub record ReportHanded (p : Report) (r lent left : ℕ) : Type 0 where
  pub answer : Answer
  pub only : OnlyAnswer p answer
  pub handed : Handed figure_left answer r lent left
