-- The sums that the code has made of the cars passed so far.
use Prim.Native.Nat.{ℕ, ◌+◌, ◌≤◌}
use mathlib.Core.Path.{◌≡◌, ap, sym, ◌∙◌}
use mathlib.Core.List.{List}
use lib.ListN.{length, get_or}
use Rattle.base.specs.Limits.{grade_count}
use Rattle.summing.specs.declared.Totals.{Totals}
use Rattle.summing.specs.declared.Sums.{Sums}
use Rattle.summing.specs.Sums.{sums_of}
use Rattle.summing.specs.Inner.{Room}
use Rattle.consist.specs.Train.{Train, held_as, car_at, cars_from, shown_in}
use Rattle.consist.specs.Inner.{sums_more}
use Rattle.consist.proofs.Cars.{sums_next}
use Rattle.train_audit.proofs.Making.{sums_from}

-- a train with these rows
pub record Of (gs xs ys : List ℕ) (t : Train) : Type 0 where
  pub grades : t.grades ≡ gs
  pub grosses : t.grosses ≡ xs
  pub nets : t.nets ≡ ys

-- the sums after i of n cars
pub record Made (n : ℕ) (grades grosses nets : List ℕ) (all : Totals) (of_grades : List Totals) (i : ℕ) : Type 0 where
  pub few : i ≤ n
  pub room : Room i (sums_from all of_grades)
  pub four : length of_grades ≡ grade_count
  pub is : (t : Train) → Of grades grosses nets t → sums_from all of_grades ≡ sums_of (shown_in (cars_from t 0 i))

-- the next car of such a train
car_there : (grades grosses nets : List ℕ) (t : Train) (i : ℕ) → Of grades grosses nets t → car_at t i ≡ held_as (get_or t.numbers i 0) (get_or grades i 0) (get_or grosses i 0) (get_or nets i 0)
car_there grades grosses nets t i o = rw (o.grades, o.grosses, o.nets)

-- one car more is passed
pub passed : (n : ℕ) (grades grosses nets : List ℕ) (all : Totals) (gs : List Totals) (i : ℕ) → Made n grades grosses nets all gs i → i + 1 ≤ n
    → (all' : Totals) (gs' : List Totals) → Room (i + 1) (sums_from all' gs') → length gs' ≡ grade_count
    → ((number : ℕ) → sums_from all' gs' ≡ sums_more (sums_from all gs) (held_as number (get_or grades i 0) (get_or grosses i 0) (get_or nets i 0)))
    → Made n grades grosses nets all' gs' (i + 1)
passed n grades grosses nets all gs i m h all' gs' room four e = record {
  few = h;
  room = room;
  four = four;
  is = λ t o.
      e (get_or t.numbers i 0)
      ∙ ap (sums_more (sums_from all gs)) (sym (car_there grades grosses nets t i o))
      ∙ ap (λ (s : Sums). sums_more s (car_at t i)) (m.is t o)
      ∙ sym (sums_next t i);
}
