-- `thermal::steps::series` meets its contract: what `next_term` ensures of each term bounds the next one.
use Rattle.heating.specs.Steps.{series, term}
use Rattle.thermal.proofs.steps.series.Goals as goal

pub returns : goal.returns
unfolding series term
returns c = cc
