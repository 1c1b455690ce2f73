-- Worked examples, computed: the lengths of the slices of a stick's check, right and wrong by one in each.
use mathlib.Core.Path.{◌≡◌, refl}
use mathlib.Core.Bool.{true, false}
use lib.ListN.{replicate}
use Rattle.exported_comparison.specs.Layout.{check_sized}

lengths :
    (check_sized (replicate 20 0) (replicate 4 0) ≡ true)
    × (check_sized (replicate 19 0) (replicate 4 0) ≡ false)
    × (check_sized (replicate 21 0) (replicate 4 0) ≡ false)
    × (check_sized (replicate 20 0) (replicate 3 0) ≡ false)
    × (check_sized (replicate 20 0) (replicate 5 0) ≡ false)
unfolding check_sized
lengths = (refl, refl, refl, refl, refl)
