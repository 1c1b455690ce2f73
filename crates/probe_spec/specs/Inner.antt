-- What inner functions ask for; it is no part of what a set means.
use Rattle.std.specs.Prelude.{◌≡◌}
use Rattle.base.specs.Answer.{accepts, first}
use Rattle.probe_spec.specs.declared.ProbeSet.{ProbeSet}
use Rattle.probe_spec.specs.declared.SetTenths.{SetTenths}
use Rattle.probe_spec.specs.Tenths.{tenths_of, set_tests}

-- no refusal applies to a set, and these are its tenths
pub record SetShown (s : ProbeSet) (t : SetTenths) : Type 0 where
  pub none : first (set_tests s) ≡ accepts
  pub level : t.level ≡ tenths_of s.level
  pub temperature : t.temperature ≡ tenths_of s.temperature
  pub density : t.density.0 ≡ tenths_of s.density
