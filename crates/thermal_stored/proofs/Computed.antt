-- One computed test over a whole list of coefficients, and the rule that it gives at each entry.
use Prim.Native.Nat.{ℕ, zero, suc, ◌+◌, ◌-◌, ◌<◌}
use mathlib.Core.Path.{◌≡◌}
use mathlib.Core.Bool.{Bool, true, ◌&&◌}
use mathlib.Core.List.{List, [], ◌∷◌}
use native.Mathlib.Omega.{arith}
use lib.Dec.{eqb}
use lib.ListN.{length, get_or}
use borrow.Author.Tests.{eqb-true}
use Rattle.base.proofs.Choice.{both_hold}
use Rattle.heating.specs.Limits.{lowest_density, highest_density}
use Rattle.heating.specs.Steps.{expansion}
use Rattle.thermal_stored.specs.Stored.{field_count, Stored}

-- each number is B of the density r, of the next one, and so on
abbrev pub each_right : ℕ → List ℕ → Bool
each_right r [] = true
each_right r (b ∷ bs) = eqb b (expansion r) && each_right (suc r) bs

entry : (r : ℕ) (bs : List ℕ) → each_right r bs ≡ true → (k : ℕ) → k < length bs → get_or bs k 0 ≡ expansion (r + k)
entry r [] e k h = absurd (omega arith)
entry r (b ∷ bs) e zero h =
    let same : r + 0 ≡ r = omega arith in
    rw same (eqb-true b (expansion r) (both_hold (eqb b (expansion r)) (each_right (suc r) bs) e).0)
entry r (b ∷ bs) e (suc k) h =
    let same : r + suc k ≡ suc r + k = omega arith in
    rw same (entry (suc r) bs (both_hold (eqb b (expansion r)) (each_right (suc r) bs) e).1 k (omega arith))

-- the fields are those from 9,000 to 9,900
fields_counted : lowest_density + field_count ≡ suc highest_density
fields_counted = omega arith

pub stored_by_test : {bs : List ℕ} → each_right lowest_density bs ≡ true → length bs ≡ field_count → Stored bs
stored_by_test {bs} e n = record {
  count = n;
  each = λ r h.
      let place : lowest_density + (r - lowest_density) ≡ r = omega (arith, h.light) in
      rw place at (entry lowest_density bs e (r - lowest_density) (omega (arith, n, fields_counted, h.light, h.dense)));
}
