-- `thermal_stored::Expansions::new` meets its contract: the test is computed over the whole list.
use mathlib.Core.Path.{refl}
use Rattle.base.specs.Rounding.{rounded}
use Rattle.heating.specs.Steps.{expansion}
use Rattle.thermal_stored.proofs.Computed.{stored_by_test}
use Rattle.thermal_stored.proofs.Expansions.new.Goals as goal

pub invariant_of-result : goal.invariant_of-result
unfolding expansion rounded
invariant_of-result c = record { stored = stored_by_test refl refl }
