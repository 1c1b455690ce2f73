-- One held car more in the sums, as the code adds it: to none, to those of all cars, or to those of its grade too.
use Prim.Native.Nat.{ℕ, zero, suc, ◌+◌, ◌≤◌, ◌<◌}
use mathlib.Core.Path.{◌≡◌, sym, ap, ◌∙◌}
use mathlib.Core.Bool.{Bool, cond}
use mathlib.Core.List.{List, [], ◌∷◌}
use lib.ListN.{length, get_or, set}
use borrow.Author.Tests.{eq-eqb, ne_eqb}
use Rattle.summing.specs.declared.Totals.{Totals}
use Rattle.summing.specs.declared.Sums.{Sums}
use Rattle.summing.specs.Sums.{Shown, no_totals, with_car}
use Rattle.summing.specs.Inner.{Small, shown_as}
use Rattle.summing.proofs.Adding.{small_next, grade-set, grade_none}
use Rattle.consist.specs.Train.{refused, weighed, held_as}
use Rattle.consist.specs.Inner.{sums_more}

abbrev pub sums_from : Totals → List Totals → Sums
sums_from all grades = record { all = all; grades = grades }

module _ (all : Totals) (gs : List Totals) (number grade x y : ℕ) where
  abbrev car : Shown
  car = shown_as grade x y

  -- what a car adds, by whether it was refused
  abbrev more : Bool → Sums
  more b = sums_more (sums_from all gs) (cond b (refused number) (weighed number car))

  pub none_more : grade ≡ 0 → sums_from all gs ≡ sums_more (sums_from all gs) (held_as number grade x y)
  none_more e = sym (ap more (eq-eqb grade 0 e))

  pub all_more : (grade ≡ 0 → ⊥) → 1 + length gs ≤ grade → sums_from (with_car car all) gs ≡ sums_more (sums_from all gs) (held_as number grade x y)
  all_more n h = ap (sums_from (with_car car all)) (sym (grade_none (with_car car) grade 1 gs h)) ∙ sym (ap more (ne_eqb grade 0 n))

  pub grade_more : (grade ≡ 0 → ⊥) → (p : ℕ) → grade ≡ 1 + p → p < length gs
      → sums_from (with_car car all) (set gs p (with_car car (get_or gs p no_totals))) ≡ sums_more (sums_from all gs) (held_as number grade x y)
  grade_more n p e h = ap (sums_from (with_car car all)) (grade-set (with_car car) grade 1 p gs e h) ∙ sym (ap more (ne_eqb grade 0 n))

-- one of several totals is that of one car more
pub small-set : {n : ℕ} (ts : List Totals) (p : ℕ) (t : Totals) → Small (n + 1) t → ((k : ℕ) → Small n (get_or ts k no_totals)) → (k : ℕ) → Small (n + 1) (get_or (set ts p t) k no_totals)
small-set [] p t h hs k = small_next (hs k)
small-set (u ∷ ts) zero t h hs zero = h
small-set (u ∷ ts) zero t h hs (suc k) = small_next (hs (suc k))
small-set (u ∷ ts) (suc p) t h hs zero = small_next (hs zero)
small-set (u ∷ ts) (suc p) t h hs (suc k) = small-set ts p t h (λ j. hs (suc j)) k
