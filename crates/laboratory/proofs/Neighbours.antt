-- The nearest field is known by its neighbours, since the density there rises from field to field.
use Prim.Native.Nat.{ℕ, zero, suc, ◌+◌, ◌-◌, ◌≤◌, ◌<◌}
use mathlib.Core.Path.{◌≡◌, subst}
use mathlib.Core.Bool.{Bool, true, ◌&&◌, ◌||◌}
use mathlib.Core.Logic.{⊎_elim}
use native.Mathlib.Nat.{add-zero, le_antisymm}
use native.Mathlib.Omega.{arith}
use lib.Dec.{ltb, leb}
use borrow.Author.Tests.{ltb-true, leb-true, lt-leb}
use Rattle.base.specs.Numbers.{difference}
use Rattle.base.proofs.Choice.{below, both_hold, second_holds}
use Rattle.base.proofs.Numbers.{difference_sum}
use Rattle.heating.specs.Limits.{lowest_density, highest_density, DensityInRange}
use Rattle.laboratory.specs.declared.Report.{Report}
use Rattle.laboratory.specs.Nearest.{density_there, distance, Nearest}
use Rattle.laboratory.specs.Told.{TemperatureInRange}
use Rattle.laboratory.proofs.Rises.{Rises, density_rises}

-- of three densities that rise, x is farther from the first than from the third where it is so from the second
farther_below : (x a b c : ℕ) → a ≤ b → b < c → difference x c < difference x b → difference x c < difference x a
farther_below x a b c ab bc h = omega (arith, h, difference_sum x a, difference_sum x b, difference_sum x c)

-- and no nearer to the third than to the first where it is no nearer to the second
farther_above : (x a b c : ℕ) → a < b → b ≤ c → difference x a ≤ difference x b → difference x a ≤ difference x c
farther_above x a b c ab bc h = omega (arith, h, difference_sum x a, difference_sum x b, difference_sum x c)

-- the field before r is farther off, the next one no nearer
pub record Beside (p : Report) (r : ℕ) : Type 0 where
  pub field : DensityInRange r
  pub before : lowest_density < r → distance p r < distance p (r - 1)
  pub next : r < highest_density → distance p r ≤ distance p (r + 1)

-- the same by a test
abbrev pub beside_test : Report → ℕ → Bool
beside_test p r = (leb r lowest_density || ltb (distance p r) (distance p (r - 1))) && (leb highest_density r || leb (distance p r) (distance p (r + 1)))

pub beside_by : (p : Report) (r : ℕ) → DensityInRange r → beside_test p r ≡ true → Beside p r
beside_by p r field e =
    let h = both_hold _ _ e in
    record {
      field = field;
      before = λ q. ltb-true (distance p r) (distance p (r - 1)) (second_holds _ _ (lt-leb r lowest_density q) h.0);
      next = λ q. leb-true (distance p r) (distance p (r + 1)) (second_holds _ _ (lt-leb highest_density r q) h.1);
    }

module _ (p : Report) (t : TemperatureInRange p) where
  -- from a field to the next, and from the one before
  pub rises : (r : ℕ) → lowest_density ≤ r → r < highest_density → Rises (density_there p r) (density_there p (r + 1))
  unfolding density_there
  rises r light dense = density_rises r (p.temperature - 150) light dense (omega (arith, t.warm)) (omega (arith, t.hot))

  pub rises_from : (r : ℕ) → lowest_density < r → r ≤ highest_density → Rises (density_there p (r - 1)) (density_there p r)
  rises_from r light dense =
      let e : r - 1 + 1 ≡ r = omega arith in
      subst (λ (k : ℕ). Rises (density_there p (r - 1)) (density_there p k)) e (rises (r - 1) (omega arith) (omega arith))

  -- by n fields
  rises_by : (n r : ℕ) → lowest_density ≤ r → r + n ≤ highest_density → density_there p r ≤ density_there p (r + n)
  rises_by zero r light dense = simp add-zero (omega arith)
  rises_by (suc n) r light dense =
      let e : r + n + 1 ≡ r + suc n = omega arith in
      subst (λ (s : ℕ). density_there p r ≤ density_there p s) e
      (omega (arith, rises_by n r light (omega arith), (rises (r + n) (omega arith) (omega arith)).least))

  pub mono : {r s : ℕ} → lowest_density ≤ r → r ≤ s → s ≤ highest_density → density_there p r ≤ density_there p s
  mono {r} {s} light h dense =
      let e : r + (s - r) ≡ s = omega arith in
      subst (λ (k : ℕ). density_there p r ≤ density_there p k) e (rises_by (s - r) r light (omega arith))

  -- then all before it are farther off, and all after it no nearer
  all_before : {r s : ℕ} → Beside p r → lowest_density ≤ s → s < r → distance p r < distance p s
  all_before {r} {s} b light h =
      farther_below p.density (density_there p s) (density_there p (r - 1)) (density_there p r)
      (mono light (omega arith) (omega (arith, b.field.dense)))
      (rises_from r (omega arith) b.field.dense).least
      (b.before (omega arith))

  all_after : {r s : ℕ} → Beside p r → s ≤ highest_density → r < s → distance p r ≤ distance p s
  all_after {r} {s} b dense h =
      farther_above p.density (density_there p r) (density_there p (r + 1)) (density_there p s)
      (rises r b.field.light (omega arith)).least
      (mono (omega (arith, b.field.light)) (omega arith) dense)
      (b.next (omega arith))

  pub nearest_beside : {r : ℕ} → Beside p r → Nearest p r
  nearest_beside {r} b = record {
    field = b.field;
    none_nearer = λ s f. ⊎_elim (λ (h : s < r). omega (arith, all_before b f.light h)) (λ (h : r ≤ s). from s f h) (below s r);
    smallest = λ s f e. ⊎_elim (λ (h : s < r). absurd (omega (arith, e, all_before b f.light h))) (λ (h : r ≤ s). h) (below s r);
  }
    where
      from : (s : ℕ) → DensityInRange s → r ≤ s → distance p r ≤ distance p s
      from s f h = ⊎_elim (λ (q : r < s). all_after b f.dense q) (λ (q : s ≤ r). rw (le_antisymm h q) (omega arith)) (below r s)
