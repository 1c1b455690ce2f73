-- The answer on the permitted error for equal tables, cars and errors.
use mathlib.Core.Path.{◌≡◌, subst}
use mathlib.Core.List.{List}
use Rattle.base.specs.Answer.{Answer}
use Rattle.table.specs.Table.{Table}
use Rattle.car.specs.Car.{Intake}
use Rattle.accuracy.specs.declared.Errors.{Errors}
use Rattle.accuracy.specs.Permitted.{OnlyAnswer}

pub lent : {ts us : List Table} {g h : Intake} {e f : Errors} {a : Answer} → ts ≡ us → g ≡ h → e ≡ f → OnlyAnswer ts g e a → OnlyAnswer us h f a
lent {us} {g} {h} {e} {a} p q r o =
    subst (λ (x : Errors). OnlyAnswer us h x a) r (subst (λ (x : Intake). OnlyAnswer us x e a) q (subst (λ (x : List Table). OnlyAnswer x g e a) p o))
