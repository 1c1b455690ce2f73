-- What it means that refusals 13 and 18 to 20 do not apply: the ranges in which a car's masses are worked out.
use Prim.Native.Nat.{ℕ, zero, suc, ◌+◌, ◌-◌, ◌≤◌, ◌<◌}
use mathlib.Core.Path.{◌≡◌, refl}
use mathlib.Core.Bool.{false}
use mathlib.Core.List.{List, [], ◌∷◌}
use native.Mathlib.Omega.{arith}
use lib.Dec.{ltb, lit≤}
use lib.ListN.{length, get_or}
use borrow.Author.Tests.{ltb-false}
use Rattle.base.specs.Answer.{accepts, first}
use Rattle.base.specs.Lists.{Each}
use Rattle.base.proofs.Answer.{not_applied}
use Rattle.base.proofs.Choice.{neither}
use Rattle.base.proofs.Numbers.{inside}
use Rattle.heating.specs.Limits.{lowest_temperature, highest_temperature}
use Rattle.heating.proofs.Limits.{density_in_range}
use Rattle.grading.specs.Grades.{grade_bad, by_grade, lowest_temperatures, water_limits, impurity_limits, content_limit, temperature_bad, content_bad, range_tests}
use Rattle.grading.specs.Inner.{FieldsInRange}

-- what holds of each entry of a table holds of the entry at an index within it
entry : (P : ℕ → Type 0) (l : List ℕ) → Each P l → (i : ℕ) → i < length l → P (get_or l i 0)
entry P [] h i k = absurd (omega arith)
entry P (x ∷ l) (h, hs) zero k = h
entry P (x ∷ l) (h, hs) (suc i) k = entry P l hs i (omega arith)

-- of a grade that there is, an entry of its table
of_grade_lem : (P : ℕ → Type 0) (l : List ℕ) → Each P l → length l ≡ 4 → (grade : ℕ) → grade_bad grade ≡ false → P (by_grade l grade)
of_grade_lem P l h four grade e = rw e (let g = inside 1 4 grade e in entry P l h (grade - 1) (omega arith))

-- 18
pub temperature_in_range : (grade t : ℕ) → grade_bad grade ≡ false → temperature_bad grade t ≡ false → (lowest_temperature ≤ t) × (t ≤ highest_temperature)
temperature_in_range grade t g e =
    let h = inside (by_grade lowest_temperatures grade) highest_temperature t e in
    let low : lowest_temperature ≤ by_grade lowest_temperatures grade =
    of_grade_lem (λ (n : ℕ). lowest_temperature ≤ n) lowest_temperatures (lit≤ tt, (lit≤ tt, (lit≤ tt, (lit≤ tt, tt)))) refl grade g in
    (omega arith, h.1)

-- 20
pub content_in_range : (grade w i : ℕ) → grade_bad grade ≡ false → content_bad grade w i ≡ false → w + i ≤ 10_000
content_in_range grade w i g e =
    let h = neither (ltb (by_grade water_limits grade) w) (ltb (by_grade impurity_limits grade) i) e in
    let most : (l : List ℕ) → Each (λ (n : ℕ). n ≤ content_limit) l → length l ≡ 4 → by_grade l grade ≤ content_limit =
    λ l each four. of_grade_lem (λ (n : ℕ). n ≤ content_limit) l each four grade g in
    omega (
      arith,
      most water_limits (lit≤ tt, (lit≤ tt, (lit≤ tt, (lit≤ tt, tt)))) refl,
      most impurity_limits (lit≤ tt, (lit≤ tt, (lit≤ tt, (lit≤ tt, tt)))) refl,
      ltb-false _ w h.0,
      ltb-false _ i h.1,
    )

-- 18 to 20, after 13
pub fields_in_range : (grade t r w i : ℕ) → grade_bad grade ≡ false → first (range_tests grade t r w i) ≡ accepts → FieldsInRange t r w i
fields_in_range grade t r w i g e =
    let by18 = temperature_in_range grade t g (not_applied 18 (range_tests grade t r w i) e) in
    record {
      warm = by18.0;
      hot = by18.1;
      density = density_in_range r (not_applied 19 (range_tests grade t r w i) e);
      oil = content_in_range grade w i g (not_applied 20 (range_tests grade t r w i) e);
    }
