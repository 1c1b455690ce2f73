-- A sound train is told by its rows alone; with its sixty places it keeps them, and holds at most sixty numbers, when a car is entered or struck.
use Prim.Native.Nat.{ℕ, ◌≤◌, ◌<◌}
use mathlib.Core.Path.{◌≡◌, refl, ap, ◌∙◌}
use mathlib.Core.List.{List}
use native.Mathlib.Omega.{arith}
use lib.Seq.{length-take-le}
use borrow.Author.Tests.{not-false}
use Rattle.base.specs.Limits.{most_cars}
use Rattle.base.specs.Answer.{Verdict, accepts, refuses, first, Answer}
use Rattle.base.specs.Numbers.{member}
use Rattle.base.proofs.Answer.{not_applied}
use Rattle.table.specs.Table.{Table}
use Rattle.car.specs.Car.{Intake}
use Rattle.consist.specs.Train.{Train, held_by, enter_answer, enter_train, strike_tests, strike_answer, position, struck_by, strike_train}
use Rattle.consist.specs.Inner.{Sixty, SoundTrain}
use Rattle.summing.specs.declared.Sums.{Sums}
use Rattle.consist.specs.declared.HeldCars.{HeldCars}
use Rattle.consist.specs.Lent.{tallied, train_in}
use Rattle.consist.proofs.Places.{position_in}
use Rattle.consist.proofs.Cars.{sixty_less}
use Rattle.consist.proofs.Lent.{lent_made}

-- sixty places, of which at most sixty are taken
pub record Placed (t : Train) : Type 0 where
  pub sixty : Sixty t
  pub few : t.held ≤ most_cars

module _ (t : Train) (s : Sixty t) (sound : SoundTrain t) where
  pub struck_placed : (number : ℕ) → Placed (strike_train t number)
  unfolding strike_tests strike_train
  struck_placed number = by_verdict (first (strike_tests t number)) refl
    where
      low : first (strike_tests t number) ≡ accepts → position number (held_by t) < t.held
      low e =
          omega (
            arith,
            position_in number (held_by t) (not-false (member number (held_by t)) (not_applied 30 (strike_tests t number) e)),
            length-take-le t.held t.numbers (omega (arith, s.numbers, sound.place)),
          )

      by_verdict : (v : Verdict) → first (strike_tests t number) ≡ v → Placed (struck_by v t (position number (held_by t)))
      by_verdict (refuses n) e = record { sixty = s; few = sound.place }
      by_verdict accepts e = record { sixty = sixty_less t (position number (held_by t)) s sound.place (low e); few = omega (arith, sound.place) }

-- A sound train, beside the train of its rows.

module _ (sums : Sums) (cars : HeldCars) (sound : SoundTrain (tallied sums cars)) where
  rows_are : train_in cars ≡ tallied sums cars
  rows_are = lent_made sums cars.held cars.numbers cars.grades cars.grosses cars.nets sound.made

  pub rows_sound : SoundTrain (train_in cars)
  rows_sound = rw rows_are sound

  pub rows_entered : (ts : List Table) (c : Intake) {a : Answer} {next : Train}
      → (a ≡ enter_answer ts (train_in cars) c) × (next ≡ enter_train ts (train_in cars) c)
      → (a ≡ enter_answer ts (tallied sums cars) c) × (next ≡ enter_train ts (tallied sums cars) c)
  rows_entered ts c (p, q) = (p ∙ ap (λ (u : Train). enter_answer ts u c) rows_are, q ∙ ap (λ (u : Train). enter_train ts u c) rows_are)

  pub rows_struck : (number : ℕ) {a : Answer} {next : Train}
      → (a ≡ strike_answer (train_in cars) number) × (next ≡ strike_train (train_in cars) number)
      → (a ≡ strike_answer (tallied sums cars) number) × (next ≡ strike_train (tallied sums cars) number)
  rows_struck number (p, q) = (p ∙ ap (λ (u : Train). strike_answer u number) rows_are, q ∙ ap (λ (u : Train). strike_train u number) rows_are)
