-- `merge::merge_sheets` meets its contract: 1, the first sheet's own refusal, or what the second makes of it.
use Prim.Native.Nat.{ℕ, ◌≤◌}
use mathlib.Core.Path.{refl, subst}
use mathlib.Core.List.{List}
use borrow.Author.Rules.{rules}
use lib.ListN.{take}
use Rattle.std.specs.Prelude.{Result, Ok, Err, IfOk}
use Rattle.holding.specs.declared.LineRefusal.{LineRefusal}
use Rattle.merge_spec.specs.Reply.{reply_of}
use Rattle.merge_spec.specs.Merge.{least_merge_buffer, Merges}
use Rattle.merge_spec.specs.Merged.{MadeOf, MergeLaws}
use Rattle.merge_spec.specs.Examples.{MergeExamples}
use Rattle.merge_spec.proofs.AgainstExamples.{merge_examples}
use Rattle.merge_laws.specs.Pair.{PairExample}
use Rattle.merge_laws.proofs.Made.{made, low}
use Rattle.merge_laws.proofs.Laws.{merge_laws}
use Rattle.merge_laws.proofs.AgainstPair.{pair_example}
use Rattle.merge.specs.Inner.{merged_sheets, Gives}
use Rattle.merge.proofs.Answers.{too_short, answered}
use Rattle.merge.proofs.merge_sheets.Goals as goal

-- all that is promised, by what is handed back and written
promised : (s r lent : List ℕ) (given : Result ℕ LineRefusal) (left : List ℕ) → Merges s r lent (reply_of given) left
    → Merges s r lent (reply_of given) left × IfOk given (λ n. MadeOf s r (take n left) × (n ≤ least_merge_buffer)) × MergeLaws s r × MergeExamples × PairExample
promised s r lent (Ok n) left m =
    (m, (made s r lent (reply_of (Ok n)) left refl m, low s r lent (reply_of (Ok n)) left m), merge_laws s r, merge_examples, pair_example)
promised s r lent (Err why) left m = (m, tt, merge_laws s r, merge_examples, pair_example)

pub returns-then-out-lt-LEAST_MERGE_BUFFER : goal.returns-then-out-lt-LEAST_MERGE_BUFFER
returns-then-out-lt-LEAST_MERGE_BUFFER c =
    let a = c.args in
    promised a.first.now a.second.now a.out.now _ _ (too_short a.first.now a.second.now a.out.now c.if-out-lt-LEAST_MERGE_BUFFER.true c.without_line.ensures)

pub returns-in_err-contents : goal.returns-in_err-contents
returns-in_err-contents c =
    let a = c.args in
    let gives : Gives (merged_sheets a.first.now a.second.now) a.out.now (reply_of c.from_residual.result) a.out.now = search rules in
    promised a.first.now a.second.now a.out.now c.from_residual.result a.out.now
    (answered a.first.now a.second.now a.out.now c.if-out-lt-LEAST_MERGE_BUFFER.false gives)

pub returns : goal.returns
returns c =
    let a = c.args in
    let m = c.merge_second in
    promised a.first.now a.second.now a.out.now m.result m.new.out
    (answered a.first.now a.second.now a.out.now c.if-out-lt-LEAST_MERGE_BUFFER.false
    (subst (λ (s : List ℕ). Gives (merged_sheets s a.second.now) a.out.now (reply_of m.result) m.new.out) c.whole_sheet-read.ensures m.ensures))
