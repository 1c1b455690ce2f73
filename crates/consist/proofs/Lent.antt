-- A train whose sums are made by its held cars is told by its rows alone; entering and striking a car leave it so.
use Prim.Native.Nat.{ℕ, zero, suc, ◌+◌, ◌≤◌, ◌<◌}
use mathlib.Core.Path.{◌≡◌, refl, sym, ap, ◌∙◌}
use mathlib.Core.List.{List, ◌∷◌}
use native.Mathlib.Omega.{arith}
use Rattle.std.proofs.Common.{Result, Ok, Err}
use borrow.Author.Tests.{ne_eqb}
use Rattle.base.specs.Limits.{most_cars}
use Rattle.base.specs.declared.refusal.Refusal.{Refusal}
use Rattle.car.specs.declared.Figures.{Figures}
use Rattle.summing.specs.declared.Sums.{Sums}
use Rattle.summing.specs.Sums.{sums_of, no_sums, sums_with}
use Rattle.summing.specs.Inner.{Graded, shown_as}
use Rattle.summing.proofs.Adding.{sums_none}
use Rattle.consist.specs.Train.{Train, empty_train, Held, held_as, weighed, car_at, cars_from, cars_of, shown_in, with_held, without_at}
use Rattle.consist.specs.Inner.{Sixty, sums_more, with_answer}
use Rattle.consist.specs.Lent.{tallied_train, lent_train}
use Rattle.consist.proofs.Cars.{cars_more, cars_less, sums_taken, shown_snoc}

-- the held cars do not ask for the sums
cars_of_rows : (sums : Sums) (held : ℕ) (numbers grades grosses nets : List ℕ) (i n : ℕ)
    → cars_from (tallied_train no_sums held numbers grades grosses nets) i n ≡ cars_from (tallied_train sums held numbers grades grosses nets) i n
cars_of_rows sums held numbers grades grosses nets i zero = refl
cars_of_rows sums held numbers grades grosses nets i (suc n) =
    ap (λ (l : List Held). car_at (tallied_train sums held numbers grades grosses nets) i ∷ l) (cars_of_rows sums held numbers grades grosses nets (i + 1) n)

-- sums that the held cars make are those of the rows
pub lent_made : (sums : Sums) (held : ℕ) (numbers grades grosses nets : List ℕ) → sums ≡ sums_of (shown_in (cars_of (tallied_train sums held numbers grades grosses nets)))
    → lent_train held numbers grades grosses nets ≡ tallied_train sums held numbers grades grosses nets
lent_made sums held numbers grades grosses nets e =
    ap (λ (s : Sums). tallied_train s held numbers grades grosses nets)
    (ap (λ (l : List Held). sums_of (shown_in l)) (cars_of_rows sums held numbers grades grosses nets 0 held) ∙ sym e)

-- the rows' own sums are such
pub lent_sums : (held : ℕ) (numbers grades grosses nets : List ℕ) → let t = lent_train held numbers grades grosses nets in t.sums ≡ sums_of (shown_in (cars_of t))
lent_sums held numbers grades grosses nets =
    let t = lent_train held numbers grades grosses nets in
    ap (λ (l : List Held). sums_of (shown_in l)) (cars_of_rows t.sums held numbers grades grosses nets 0 held)

pub lent_empty : lent_train 0 empty_train.numbers empty_train.grades empty_train.grosses empty_train.nets ≡ empty_train
lent_empty = lent_made empty_train.sums 0 empty_train.numbers empty_train.grades empty_train.grosses empty_train.nets sums_none

-- with a car's answer
module _ (t : Train) (s : Sixty t) (low : t.held < most_cars) (made : t.sums ≡ sums_of (shown_in (cars_of t))) where
  made_more : (sums : Sums) (number grade x y : ℕ) → sums ≡ sums_more t.sums (held_as number grade x y)
      → sums ≡ sums_of (shown_in (cars_of (with_held t sums number grade x y)))
  made_more sums number grade x y e =
      e
      ∙ ap (λ (z : Sums). sums_more z (held_as number grade x y)) made
      ∙ sym (ap (λ (l : List Held). sums_of (shown_in l)) (cars_more t sums number grade x y s low) ∙ shown_snoc (cars_of t) (held_as number grade x y))

  pub made_with : (number grade : ℕ) (a : Result Figures Refusal) → Graded grade a
      → (with_answer t number grade a).sums ≡ sums_of (shown_in (cars_of (with_answer t number grade a)))
  made_with number grade (Err r) g = made_more t.sums number 0 0 0 refl
  made_with number grade (Ok f) g =
      made_more (sums_with t.sums (shown_as grade f.gross f.net)) number grade f.gross f.net
      (ap (sums_more t.sums) (sym there))
    where
      there : held_as number grade f.gross f.net ≡ weighed number (shown_as grade f.gross f.net)
      there = simp (ne_eqb grade 0 (λ e. omega (arith, g.0)))

-- without the car of a place
pub made_without : (t : Train) (k : ℕ) → Sixty t → t.held ≤ most_cars → k < t.held → t.sums ≡ sums_of (shown_in (cars_of t))
    → (without_at t k).sums ≡ sums_of (shown_in (cars_of (without_at t k)))
made_without t k s few low made = sums_taken t k low made ∙ sym (ap (λ (l : List Held). sums_of (shown_in l)) (cars_less t k s few low))
