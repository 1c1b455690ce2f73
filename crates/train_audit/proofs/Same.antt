-- The equality that is derived for sums tests what `same_sums` does.
use mathlib.Core.Path.{◌≡◌, refl, ap₂, sym}
use mathlib.Core.Bool.{Bool, ◌&&◌}
use mathlib.Core.List.{List, [], ◌∷◌}
use lib.Dec.{eqb}
use lib.Pointwise.{pointwise}
use Rattle.std.proofs.Math.Bool.{and_assoc}
use Rattle.summing.specs.declared.Totals.{Totals}
use Rattle.summing.specs.declared.Sums.{Sums}
use Rattle.summing.specs.Sums.{same_totals, same_each, same_sums}

-- the derived equality of totals
abbrev pub equal : Totals → Totals → Bool
equal x y = eqb x.accepted y.accepted && (eqb x.gross y.gross && eqb x.net y.net)

equal_totals : (x y : Totals) → equal x y ≡ same_totals x y
equal_totals x y = sym (and_assoc (eqb x.accepted y.accepted) (eqb x.gross y.gross) (eqb x.net y.net))

equal_each : (ts us : List Totals) → pointwise equal ts us ≡ same_each ts us
equal_each [] [] = refl
equal_each [] (u ∷ us) = refl
equal_each (t ∷ ts) [] = refl
equal_each (t ∷ ts) (u ∷ us) = ap₂ (λ (a b : Bool). a && b) (equal_totals t u) (equal_each ts us)

-- and of sums
pub equal_sums : (x y : Sums) → (equal x.all y.all && pointwise equal x.grades y.grades) ≡ same_sums x y
equal_sums x y = ap₂ (λ (a b : Bool). a && b) (equal_totals x.all y.all) (equal_each x.grades y.grades)
