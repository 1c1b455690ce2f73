-- The nearest field is the first whose density there is not below the report, or the one before it.
use Prim.Native.Nat.{ℕ, ◌+◌, ◌-◌, ◌≤◌, ◌<◌}
use mathlib.Core.Path.{◌≡◌, subst}
use native.Mathlib.Omega.{arith}
use Rattle.base.proofs.Numbers.{difference_sum}
use Rattle.heating.specs.Limits.{lowest_density, highest_density}
use Rattle.laboratory.specs.declared.Report.{Report}
use Rattle.laboratory.specs.Nearest.{density_there, distance, Nearest}
use Rattle.laboratory.specs.Told.{TemperatureInRange}
use Rattle.laboratory.specs.Inner.{NotBelow}
use Rattle.laboratory.proofs.Neighbours.{rises, rises_from, nearest_beside}

module _ (p : Report) (t : TemperatureInRange p) {r : ℕ} (n : NotBelow p r) where
  -- the next field lies no nearer
  next : r < highest_density → distance p r ≤ distance p (r + 1)
  next h =
      omega (
        arith,
        n.reached h,
        (rises p t r n.field.light h).least,
        difference_sum p.density (density_there p r),
        difference_sum p.density (density_there p (r + 1)),
      )

  pub first_nearest : r ≡ lowest_density → Nearest p r
  first_nearest e = nearest_beside p t record { field = n.field; before = λ h. absurd (omega (arith, e)); next = next }

  pub this_nearest : distance p r < distance p (r - 1) → Nearest p r
  this_nearest d = nearest_beside p t record { field = n.field; before = λ _. d; next = next }

  pub before_nearest : lowest_density < r → distance p (r - 1) ≤ distance p r → Nearest p (r - 1)
  before_nearest h d =
      let e : r ≡ r - 1 + 1 = omega arith in
      nearest_beside p t record {
        field = record { light = omega arith; dense = omega (arith, n.field.dense) };
        before = λ q. omega (
          arith,
          n.before (r - 1) (omega arith) (omega arith),
          (rises_from p t (r - 1) q (omega (arith, n.field.dense))).least,
          difference_sum p.density (density_there p (r - 1)),
          difference_sum p.density (density_there p (r - 1 - 1)),
        );
        next = λ q. subst (λ (k : ℕ). distance p (r - 1) ≤ distance p k) e d;
      }
