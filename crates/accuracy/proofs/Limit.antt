-- The limit: there is one only, and how it is known.
use Prim.Native.Nat.{ℕ, ◌*◌, ◌-◌, ◌≤◌, ◌<◌}
use mathlib.Core.Path.{◌≡◌, refl}
use mathlib.Core.Bool.{Bool, true, false, ◌&&◌, ◌||◌}
use mathlib.Core.Logic.{⊎_elim}
use native.Mathlib.Nat.{le_antisymm, mul-le-mul}
use native.Mathlib.Omega.{arith}
use lib.Dec.{ltb, leb, eqb}
use borrow.Author.Tests.{leb-true, ltb-true, eqb-true}
use Rattle.base.proofs.Choice.{below, both_hold}
use Rattle.accuracy.specs.Limit.{IsLimit}

-- figures beside the laws: 1 is too small for the sum 1, and 12 too large for 100, for which 11 is just enough
too_small : IsLimit 1 1 → ⊥
too_small l = omega (arith, l.enough)

too_large : IsLimit 100 12 → ⊥
too_large l = omega (arith, l.smallest 11 (omega arith))

pub limit_only : {s m n : ℕ} → IsLimit s m → IsLimit s n → m ≡ n
limit_only {s} {m} {n} a b = le_antisymm (a.smallest n b.enough) (b.smallest m a.enough)

-- what is enough is above each number whose square is not
pub above_short : (s l : ℕ) → 100 * (l * l) < 121 * s → (k : ℕ) → 121 * s ≤ 100 * (k * k) → l < k
above_short s l h k e =
    ⊎_elim (λ (p : l < k). p) (λ (p : k ≤ l). absurd (omega (arith, mul-le-mul p p))) (below l k)

-- a number that is enough, where the one before is not
abbrev pub limit_test : ℕ → ℕ → Bool
limit_test s n = leb (121 * s) (100 * (n * n)) && (eqb n 0 || ltb (100 * ((n - 1) * (n - 1))) (121 * s))

pub limit_by : (s n : ℕ) → limit_test s n ≡ true → IsLimit s n
limit_by s n e =
    let p = both_hold (leb (121 * s) (100 * (n * n))) (eqb n 0 || ltb (100 * ((n - 1) * (n - 1))) (121 * s)) e in
    record { enough = leb-true (121 * s) (100 * (n * n)) p.0; smallest = least (eqb n 0) refl p.1 }
  where
    least : (b : Bool) → eqb n 0 ≡ b → (b || ltb (100 * ((n - 1) * (n - 1))) (121 * s)) ≡ true → (k : ℕ) → 121 * s ≤ 100 * (k * k) → n ≤ k
    least true z e k h = omega (arith, eqb-true n 0 z)
    least false z e k h = omega (arith, above_short s (n - 1) (ltb-true (100 * ((n - 1) * (n - 1))) (121 * s) e) k h)
