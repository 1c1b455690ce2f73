-- Worked examples, computed: the length of the slice that a set's tenths are written to.
use mathlib.Core.Path.{◌≡◌, refl}
use mathlib.Core.Bool.{true, false}
use lib.ListN.{replicate}
use Rattle.marshalling.specs.Handed.{length_is}
use Rattle.export_probe.specs.Set.{set_count}

three : (length_is set_count (replicate 3 0) ≡ true) × (length_is set_count (replicate 2 0) ≡ false) × (length_is set_count (replicate 4 0) ≡ false)
three = (refl, refl, refl)
