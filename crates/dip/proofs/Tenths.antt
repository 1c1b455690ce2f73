-- The mean level by R is the one that is said without it: a mean of two has no half of a tenth, and one of three lies a third of a tenth from the nearest.
use Prim.Native.Nat.{ℕ, ◌+◌, ◌*◌}
use mathlib.Core.Path.{◌≡◌, sym, ◌∙◌}
use mathlib.Core.List.{List, [], ◌∷◌, ◌++◌}
use native.Mathlib.Omega.{arith}
use lib.Dec.{eqb}
use lib.ListN.{get_or}
use Rattle.base.specs.Rounding.{rounded}
use Rattle.base.specs.Answer.{refuse_if, first, Answer, figures}
use Rattle.base.proofs.Answer.{answer_figures}
use Rattle.dip.specs.Level.{sorted, mean_of, closest_of, sum_of_three, mean_level, readings_tests, mean_level_answer}
use Rattle.dip.specs.Tenths.{Thirds, TenthsRight}

by_two : (sum : ℕ) → mean_of sum 2 ≡ 5 * sum
unfolding rounded
by_two sum = omega arith

by_three : (sum : ℕ) → Thirds (mean_of sum 3) sum
unfolding rounded
by_three sum = record { most = omega arith; least = omega arith }

-- a level that is answered is the mean level
answered : (n : ℕ) (x : List ℕ) {a : Answer} {level : ℕ} → a ≡ mean_level_answer n x → a ≡ figures (level ∷ []) → level ≡ mean_level x
unfolding mean_level_answer
answered n x e f =
    let p = answer_figures (first (readings_tests n x ++ (refuse_if 16 (eqb (mean_level x) 0) ∷ []))) (sym f ∙ e) in
    let same = p.1 in cc

pub tenths_right : (n : ℕ) (x : List ℕ) {a : Answer} → a ≡ mean_level_answer n x → TenthsRight x a
unfolding mean_level
tenths_right n x e = record {
  two = λ level f close. answered n x e f ∙ rw close (by_two (get_or x 0 0 + get_or x 1 0));
  three = λ level f far. rw (answered n x e f, far) (by_three (sum_of_three (closest_of (sorted x))));
}
