-- `probe::reading_tenths` meets its contract: what its two calls ensure, and the card.
use mathlib.Core.Path.{ap, ◌∙◌}
use Rattle.probe_spec.specs.Tenths.{tenths_answer}
use Rattle.probe_spec.proofs.Nearest.{floats_right}
use Rattle.probe_spec.proofs.AgainstCard.{probe_right}
use Rattle.probe.proofs.reading_tenths.Goals as goal

pub returns : goal.returns
returns c = (c.tenths.ensures ∙ ap tenths_answer c.value.ensures, floats_right, probe_right)
