-- A field that is near enough lies within the ends, and where the nearest is too far off the report lies beyond them.
use Prim.Native.Nat.{ℕ, ◌+◌, ◌-◌, ◌≤◌, ◌<◌}
use mathlib.Core.Path.{◌≡◌}
use mathlib.Core.Logic.{⊎_elim, inl, inr}
use native.Mathlib.Nat.{le_antisymm}
use native.Mathlib.Omega.{arith}
use Rattle.base.specs.Numbers.{difference}
use Rattle.base.proofs.Choice.{below}
use Rattle.base.proofs.Numbers.{difference_sum}
use Rattle.heating.specs.Limits.{lowest_density, highest_density}
use Rattle.laboratory.specs.declared.Report.{Report}
use Rattle.laboratory.specs.Nearest.{density_there, distance, Nearest}
use Rattle.laboratory.specs.Told.{TemperatureInRange, FieldRight, FarOff}
use Rattle.laboratory.proofs.Rises.{Rises}
use Rattle.laboratory.proofs.Neighbours.{rises, rises_from, mono}

-- of two densities that differ by 1 or 2, x is nearer to the other where it lies 2 or more beyond one
nearer_above : (x a b : ℕ) → Rises a b → 1 < difference x a → a < x → difference x b < difference x a
nearer_above x a b up far h = omega (arith, far, up.least, up.most, difference_sum x a, difference_sum x b)

nearer_below : (x a b : ℕ) → Rises a b → 1 < difference x b → x ≤ b → difference x a < difference x b
nearer_below x a b up far h = omega (arith, far, up.least, up.most, difference_sum x a, difference_sum x b)

module _ (p : Report) (t : TemperatureInRange p) {r : ℕ} (n : Nearest p r) where
  pub field_right : distance p r ≤ 1 → FieldRight p r
  field_right near =
      let d = difference_sum p.density (density_there p r) in
      record {
        temperature = t;
        nearest = n;
        close = near;
        not_below = omega (arith, near, d, mono p t {s = r} (omega arith) n.field.light n.field.dense);
        not_above = omega (arith, near, d, mono p t {r = r} n.field.light n.field.dense (omega arith));
      }

  -- where the report lies 2 or more above the density of the nearest field, this is the last: the next one would be nearer
  last : 1 < distance p r → density_there p r < p.density → highest_density ≤ r
  last far h =
      ⊎_elim
      (λ (q : r < highest_density).
      let next = n.none_nearer (r + 1) record { light = omega (arith, n.field.light); dense = omega arith } in
      absurd (omega (arith, next, nearer_above p.density (density_there p r) (density_there p (r + 1)) (rises p t r n.field.light q) far h)))
      (λ (q : highest_density ≤ r). q)
      (below r highest_density)

  -- where it lies 2 or more below, this is the first
  foremost : 1 < distance p r → p.density ≤ density_there p r → r ≤ lowest_density
  foremost far h =
      ⊎_elim
      (λ (q : lowest_density < r).
      let before = n.none_nearer (r - 1) record { light = omega arith; dense = omega (arith, n.field.dense) } in
      absurd (omega (arith, before, nearer_below p.density (density_there p (r - 1)) (density_there p r) (rises_from p t r q n.field.dense) far h)))
      (λ (q : r ≤ lowest_density). q)
      (below lowest_density r)

  pub far_off_lem : 1 < distance p r → FarOff p
  far_off_lem far = record {
    temperature = t;
    every = λ s f. omega (arith, far, n.none_nearer s f);
    beyond =
        ⊎_elim
        (λ (h : density_there p r < p.density). inr (rw (le_antisymm (last far h) n.field.dense) (omega (arith, far, d, h))))
        (λ (h : p.density ≤ density_there p r). inl (rw (le_antisymm n.field.light (foremost far h)) (omega (arith, far, d, h))))
        (below (density_there p r) p.density);
  }
    where
      d : distance p r ≡ (p.density - density_there p r) + (density_there p r - p.density)
      d = difference_sum p.density (density_there p r)
