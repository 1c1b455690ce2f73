-- `scanning::find_line_at` meets its contract: each return is the line of the definition under the tests before it.
use mathlib.Core.Path.{sym, ◌∙◌}
use Rattle.reading.proofs.Lines.{line_none, line_letter, Opening, line-length, line_fields, line_read}
use Rattle.scanning.proofs.find_line_at.Goals as goal
use Rattle.scanning.proofs.find_line_at.Goals.{After-count_of-count}

opening : (c : After-count_of-count) → Opening c.args.s.now c.args.at c.args.due c.feed_at-end.result c.in-Some.letter c.count_of-count.result
opening c = record {
  place = c.feed_at-end.ensures.0;
  within = c.if-s-end.false;
  found = sym c.in-Some.is ∙ c.letter_of.ensures;
  count = c.count_of-count.ensures.0;
}

pub returns-then-s-end : goal.returns-then-s-end
returns-then-s-end c = let a = c.args in sym (line_none a.s.now a.at a.due c.feed_at-end.result c.feed_at-end.ensures.0 c.if-s-end.true)

pub returns-in_default : goal.returns-in_default
returns-in_default c = let a = c.args in sym (line_letter a.s.now a.at a.due c.feed_at-end.result c.feed_at-end.ensures.0 c.if-s-end.false (sym c.in_default.is ∙ c.letter_of.ensures))

pub returns-then-end-at : goal.returns-then-end-at
returns-then-end-at c = sym (line-length _ _ _ _ _ _ (opening (goal.at.returns-then-end-at c).After-count_of-count) c.if-end-at.true)

pub returns-in-Some-numbers_at : goal.returns-in-Some-numbers_at
returns-in-Some-numbers_at c = sym (line_read _ _ _ _ _ _ (opening (goal.at.returns-in-Some-numbers_at c).After-count_of-count) c.if-end-at.false _ (sym c.in-Some-numbers_at.is ∙ c.numbers_at.ensures))

pub returns-in-None : goal.returns-in-None
returns-in-None c = sym (line_fields _ _ _ _ _ _ (opening (goal.at.returns-in-None c).After-count_of-count) c.if-end-at.false (sym c.in-None.is ∙ c.numbers_at.ensures))
