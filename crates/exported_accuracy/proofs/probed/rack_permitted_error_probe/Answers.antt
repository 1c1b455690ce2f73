-- `exported_accuracy::rack_permitted_error_probe` meets its contract: the tables, the car and the errors that were taken are those that were lent.
use mathlib.Core.Path.{sym, ap, ◌∙◌}
use Rattle.base.specs.Answer.{refusal}
use Rattle.base.proofs.Choice.{never}
use Rattle.car.specs.Car.{probed}
use Rattle.accuracy.specs.Permitted.{permitted_told}
use Rattle.marshalling.specs.Handed.{figures_left}
use Rattle.marshalling.proofs.Handed.{handed, handed_as, right_sized, wrong_sized}
use Rattle.exported_accuracy.proofs.Lent.{lent}
use Rattle.exported_accuracy.proofs.probed.rack_permitted_error_probe.Goals as goal

pub returns-then-not-permitted_fits : goal.returns-then-not-permitted_fits
returns-then-not-permitted_fits c =
    let e = sym c.permitted_fits.ensures ∙ c.if-not-permitted_fits.true in
    record { answer = refusal 0; only = λ t. never (cc); handed = handed figures_left _ (wrong_sized _ e) }

pub returns : goal.returns
returns c =
    record {
      answer = permitted_told c.permitted_error_probe-answer.result;
      only = λ _. lent c.tables_of-tables.ensures (ap probed c.probe_car_of-fields.ensures) c.errors_of-given.ensures c.permitted_error_probe-answer.ensures.0;
      handed = handed_as c.hand_over_limit.ensures (right_sized _ (sym c.permitted_fits.ensures ∙ c.if-not-permitted_fits.false));
    }
