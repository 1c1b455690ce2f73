-- A train whose cars lie in arrays: their numbers, grades, gross and net.
use Rattle.std.specs.Prelude.{ℕ, List}
use Rattle.summing.specs.declared.Sums.{Sums}
use Rattle.summing.specs.Sums.{sums_of, no_sums}
use Rattle.consist.specs.declared.HeldCars.{HeldCars}
use Rattle.consist.specs.Train.{Train, cars_of, shown_in}

-- with the sums that stand beside them
abbrev pub tallied_train : Sums → ℕ → List ℕ → List ℕ → List ℕ → List ℕ → Train
tallied_train sums held numbers grades grosses nets =
    record { sums = sums; held = held; numbers = numbers; grades = grades; grosses = grosses; nets = nets }

abbrev pub tallied : Sums → HeldCars → Train
tallied sums c = tallied_train sums c.held c.numbers c.grades c.grosses c.nets

-- with the sums that the held cars make
abbrev pub lent_train : ℕ → List ℕ → List ℕ → List ℕ → List ℕ → Train
lent_train held numbers grades grosses nets =
    let cars = cars_of (tallied_train no_sums held numbers grades grosses nets) in
    tallied_train (sums_of (shown_in cars)) held numbers grades grosses nets

abbrev pub train_in : HeldCars → Train
train_in c = lent_train c.held c.numbers c.grades c.grosses c.nets
