-- Cars with the sums that were made of them are the train of their rows.
use mathlib.Core.Path.{◌≡◌, refl, ap}
use Rattle.summing.specs.declared.Sums.{Sums}
use Rattle.summing.specs.Sums.{sums_of, no_sums}
use Rattle.consist.specs.declared.HeldCars.{HeldCars}
use Rattle.consist.specs.Train.{Train, cars_from, shown_in}
use Rattle.consist.specs.Lent.{tallied, train_in}

pub summed : (cars : HeldCars) {made : Sums}
    → ((t : Train) → t.grades ≡ cars.grades → t.grosses ≡ cars.grosses → t.nets ≡ cars.nets → made ≡ sums_of (shown_in (cars_from t 0 cars.held)))
    → tallied made cars ≡ train_in cars
summed cars m = ap (λ (s : Sums). tallied s cars) (m (tallied no_sums cars) refl refl refl)
