-- How the nearest field is known by a test of all fields.
use Prim.Native.Nat.{ℕ, zero, suc, ◌+◌, ◌≤◌, ◌<◌}
use mathlib.Core.Path.{◌≡◌, refl}
use mathlib.Core.Bool.{Bool, true, false, cond, ◌&&◌}
use mathlib.Core.Logic.{⊎_elim}
use native.Mathlib.Nat.{le_antisymm}
use native.Mathlib.Omega.{arith}
use lib.Dec.{ltb, leb}
use borrow.Author.Tests.{leb-true, ltb-true, ltb-false}
use Rattle.base.proofs.Choice.{below, both_hold}
use Rattle.heating.specs.Limits.{lowest_density, DensityInRange}
use Rattle.laboratory.specs.declared.Report.{Report}
use Rattle.laboratory.specs.Nearest.{distance, Nearest}

-- a test of the n numbers from s on
unfoldable pub all_from : (ℕ → Bool) → ℕ → ℕ → Bool
all_from t s zero = true
all_from t s (suc n) = t s && all_from t (suc s) n

all_from_lem : (t : ℕ → Bool) (s n k : ℕ) → all_from t s n ≡ true → s ≤ k → k < s + n → t k ≡ true
unfolding all_from
all_from_lem t s zero k e low high = absurd (omega arith)
all_from_lem t s (suc n) k e low high =
    let h = both_hold (t s) (all_from t (suc s) n) e in
    ⊎_elim (λ (q : s < k). all_from_lem t (suc s) n k h.1 (omega arith) (omega arith)) (λ (q : k ≤ s). rw (le_antisymm q low) h.0) (below s k)

module _ (p : Report) (r : ℕ) where
  -- the field s does not come before r: it lies no nearer, and farther off where it is smaller
  abbrev pub not_before : ℕ → Bool
  not_before s = cond (ltb s r) (ltb (distance p r) (distance p s)) (leb (distance p r) (distance p s))

  abbrev pub nearest_test : Bool
  nearest_test = all_from not_before lowest_density 901

  behind : (s : ℕ) → not_before s ≡ true → (distance p r ≤ distance p s) × (distance p s ≡ distance p r → r ≤ s)
  behind s e = go (ltb s r) refl e
    where
      go : (b : Bool) → ltb s r ≡ b → cond b (ltb (distance p r) (distance p s)) (leb (distance p r) (distance p s)) ≡ true
          → (distance p r ≤ distance p s) × (distance p s ≡ distance p r → r ≤ s)
      go true z e = let h = ltb-true (distance p r) (distance p s) e in (omega (arith, h), λ q. omega (arith, h, q))
      go false z e = (leb-true (distance p r) (distance p s) e, λ q. ltb-false s r z)

  pub nearest_by : DensityInRange r → nearest_test ≡ true → Nearest p r
  nearest_by field e = record {
    field = field;
    none_nearer = λ s f. (behind s (test s f)).0;
    smallest = λ s f. (behind s (test s f)).1;
  }
    where
      test : (s : ℕ) → DensityInRange s → not_before s ≡ true
      test s f = all_from_lem not_before lowest_density 901 s e f.light (omega (arith, f.dense))
