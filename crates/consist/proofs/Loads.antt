-- Accepted cars on their tables: what each adds to the sums and to the book, and what their distances come to.
use Prim.Native.Nat.{ℕ, ◌*◌, ◌≤◌}
use mathlib.Core.Path.{sym, ◌∙◌}
use mathlib.Core.List.{List, [], ◌∷◌, map}
use native.Mathlib.Omega.{arith}
use lib.Dec.{eqb}
use lib.ListN.{length}
use Rattle.base.specs.Limits.{grade_count}
use Rattle.base.specs.Fraction.{Within}
use Rattle.base.specs.Lists.{Each}
use Rattle.base.specs.Total.{total, totalˣ, selected}
use Rattle.base.proofs.Near.{within_weaken}
use Rattle.base.proofs.Numbers.{inside}
use Rattle.base.proofs.Lists.{each_selected, length-map, selected-map}
use Rattle.base.proofs.Total.{total-map, totalˣ-map, total_within, total_same}
use Rattle.table.specs.Table.{Table}
use Rattle.heating.specs.Exact.{Power}
use Rattle.kilograms.specs.Inner.{most_in_car}
use Rattle.car.specs.Measured.{Mass, gross, net}
use Rattle.car.specs.Car.{Intake, measured_of}
use Rattle.car.specs.Exact.{distance}
use Rattle.car.specs.Inner.{Passed}
use Rattle.car.proofs.Accepted.{grade_known}
use Rattle.car.proofs.Masses.{mass_most, mass_near}
use Rattle.summing.specs.Sums.{Shown, shown_mass, of_grade, totals_of, total_in}
use Rattle.summing.proofs.Adding.{Known}
use Rattle.consist.specs.Train.{car_shown}
use Rattle.consist.specs.Book.{Load, exact_mass, loads_of_grade, load_of}
use Rattle.consist.specs.Demand3.{Beside}

pub record Accepted : Type 0 where
  pub tables : List Table
  pub car : Intake

-- no refusal of the tables or of the car applies
abbrev pub Ok : Accepted → Type 0
Ok a = Passed a.tables (measured_of a.car)

-- what it adds to the sums, and its masses in the book
abbrev pub shown_for : Accepted → Shown
shown_for a = car_shown a.tables a.car

abbrev pub load_for : Accepted → Load
load_for a = load_of a.tables a.car

-- its grade is one of the four, and its masses are those of a car
pub car_known : (a : Accepted) → Ok a → Known (shown_for a)
car_known a h = inside 1 grade_count (measured_of a.car).grade (grade_known a.tables (measured_of a.car) h.early)

pub car_most : (k : Mass) (a : Accepted) → Ok a → shown_mass k (shown_for a) ≤ most_in_car
car_most gross a h = mass_most a.tables (measured_of a.car) h gross
car_most net a h = mass_most a.tables (measured_of a.car) h net

-- what holds of each car holds of what is shown of it
pub each_shown : (P : Shown → Type 0) → ((a : Accepted) → Ok a → P (shown_for a)) → (l : List Accepted) → Each Ok l → Each P (map shown_for l)
each_shown P law [] h = tt
each_shown P law (a ∷ l) (h, hs) = (law a h, each_shown P law l hs)

pub all_known : (l : List Accepted) → Each Ok l → Each Known (map shown_for l)
all_known l h = each_shown Known car_known l h

-- What the distances of the cars come to.

car_near : (k : Mass) (p : Power) (a : Accepted) → Ok a → Within 100 (distance k) (shown_mass k (shown_for a)) (exact_mass k p (load_for a))
car_near gross p a h = mass_near a.tables (measured_of a.car) h gross p
car_near net p a h = mass_near a.tables (measured_of a.car) h net p

all_near : (k : Mass) (p : Power) (l : List Accepted) → Each Ok l
    → Within 100 (distance k * length (map load_for l)) (total (shown_mass k) (map shown_for l)) (totalˣ (exact_mass k p) (map load_for l))
all_near k p l h =
    rw (length-map load_for l, ← total_same (distance k) l, total-map shown_for (shown_mass k) l, totalˣ-map load_for (exact_mass k p) l)
    (total_within Ok (λ _. distance k) (λ a. shown_mass k (shown_for a)) (λ a. exact_mass k p (load_for a)) (car_near k p) l h)

-- the totals of cars beside their entries, and of those of a grade
pub beside_all : (l : List Accepted) → Each Ok l → Beside (totals_of (map shown_for l)) (map load_for l)
unfolding totals_of
beside_all l h = record {
  count = length-map shown_for l ∙ sym (length-map load_for l);
  near = λ k p. elim k as (λ m. Within 100 (distance m * length (map load_for l)) (total_in m (totals_of (map shown_for l))) (totalˣ (exact_mass m p) (map load_for l))) [ gross ↦ within_weaken _ (omega arith) (all_near gross p l h) | net ↦ within_weaken _ (omega arith) (all_near net p l h) ];
}

pub beside_grade : (g : ℕ) (l : List Accepted) → Each Ok l → Beside (totals_of (of_grade g (map shown_for l))) (loads_of_grade g (map load_for l))
beside_grade g l h =
    rw (selected-map shown_for (λ s. eqb s.grade g) l, selected-map load_for (λ x. eqb x.measured.grade g) l)
    (beside_all (selected (λ a. eqb (load_for a).measured.grade g) l) (each_selected Ok (λ a. eqb (load_for a).measured.grade g) l h))
