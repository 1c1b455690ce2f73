-- What inner functions that write lines ask for; it is no part of what an answer means.
use Rattle.std.specs.Prelude.{ℕ, ◌+◌, ◌≤◌, ◌≡◌, length}
use Rattle.base.specs.Limits.{grade_count}
use Rattle.summing.specs.declared.Sums.{Sums}
use Rattle.summing.specs.Inner.{Sound}
use Rattle.grammar.specs.Text.{text_of}
use Rattle.answers.specs.Listing.{totals_lines}

-- the sums of a train, whose lines have room from `at` on
pub record Closing (s : Sums) (at room : ℕ) : Type 0 where
  pub sound : Sound s
  pub four : length s.grades ≡ grade_count
  pub space : at + length (text_of (totals_lines s)) ≤ room
