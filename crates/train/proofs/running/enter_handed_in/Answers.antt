-- `train::enter_handed_in` meets its contract: 7, 8 and 9 first, then `enter_on`.
use mathlib.Core.Path.{◌∙◌}
use Rattle.std.proofs.lemmas.Result.{err_from_is_err_and}
use Rattle.table.specs.Layout.{tables_in}
use Rattle.consist.proofs.Entering.{barred_away, barred_not}
use Rattle.consist.proofs.Rows.{rows_sound, rows_entered}
use Rattle.train.specs.Told.{train_told}
use Rattle.train.proofs.Entered.{kept}
use Rattle.train.proofs.Summed.{summed}
use Rattle.train.proofs.running.enter_handed_in.Goals as goal

pub returns-in_err-check_bar : goal.returns-in_err-check_bar
returns-in_err-check_bar c =
    let a = c.args in
    let ts = tables_in a.tables.now in
    let t = train_told a.train.now in
    let p = err_from_is_err_and c.from_residual.result c.from_residual.ensures.1 in
    record {
      answered = λ h s. rw (p.1, p.2) (barred_away ts t c.in_err-check_bar.ensures h s.none).0;
      entered = λ h s. (barred_away ts t c.in_err-check_bar.ensures h s.none).1;
      kept = λ h s. rw (p.1, p.2) (let q = barred_away ts t c.in_err-check_bar.ensures h s.none in kept ts t h q.0 q.1);
    }

-- the tables are good, and the train is sound
pub enter_on-answer-requires : goal.enter_on-answer-requires
enter_on-answer-requires c =
    let t = c.args.train.now in
    let sound = barred_not (tables_in c.args.tables.now) (train_told t) c.in_ok-check_bar.ensures in
    (rows_sound t.sums t.cars sound.1, record { accepted = sound.0 }, c.expansion-expansion.ensures)

pub returns : goal.returns
returns c =
    let t = c.args.train.now in
    let ts = tables_in c.args.tables.now in
    let e = c.enter_on-answer.ensures in
    let sound = barred_not ts (train_told t) c.in_ok-check_bar.ensures in
    record {
      answered = λ h s. (rows_entered t.sums t.cars sound.1 ts h (e.answered h s, e.entered h s)).0;
      entered = λ h s. summed c.enter_on-answer.new.cars c.made_by-train.ensures ∙ (rows_entered t.sums t.cars sound.1 ts h (e.answered h s, e.entered h s)).1;
      kept = λ h s.
          let q = rows_entered t.sums t.cars sound.1 ts h (e.answered h s, e.entered h s) in
          kept ts (train_told t) h q.0 (summed c.enter_on-answer.new.cars c.made_by-train.ensures ∙ q.1);
    }
