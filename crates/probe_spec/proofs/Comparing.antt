-- What the code's comparison of a float with zero says of it.
use Prim.Native.Nat.{ℕ, zero, suc, ◌*◌, ◌<◌}
use mathlib.Core.Path.{◌≡◌, refl, sym, ◌∙◌}
use mathlib.Core.Bool.{Bool, true, false, not, ◌&&◌, ◌||◌, true≢false}
use native.Mathlib.Omega.{arith}
use lib.IntN.{pos}
use lib.Dec.{T, ltb, eqb}
use borrow.Author.Tests.{lt-ltb, eqb-true}
use lib.Ieee.{Float, nan, inf, fin, up, down, le, is_nan}
use lib.Ieee.Fits.{up_pos}
use lib.Ieee.Exact.{HasValue}
use Rattle.probe_spec.specs.Tenths.{no_number}

-- What passes it: no float that is not a number, and of the finite ones those that 31 does not refuse.

pub no_nan : (x : Float) → le (fin false 0 (pos 0)) x ≡ true → T (not (is_nan x))
unfolding le is_nan
no_nan nan h = absurd (true≢false (sym h))
no_nan (inf s) h = tt
no_nan (fin s m e) h = tt

first : (a b : Bool) → (a && b) ≡ true → a ≡ true
first true b h = refl
first false b h = h

never_zero : (a b : ℕ) → a ≡ 0 → 0 < b → a ≡ b → ⊥
never_zero a b h k l = omega arith

pub passed : (x : Float) (s : Bool) (a c : ℕ) → HasValue x s a c → le (fin false 0 (pos 0)) x ≡ true → no_number x ≡ false
unfolding le no_number
passed nan s a c v h = absurd v
passed (inf t) s a c v h = absurd v
passed (fin false m e) s a c v h = refl
passed (fin true zero e) s a c v h = refl
passed (fin true (suc m) e) s a c v h =
    let z = 0 * 1 * down e in
    let b = suc m * up e * 1 in
    absurd (never_zero z b (omega arith) (omega (arith, up_pos e)) (eqb-true z b (first (eqb z b) (eqb z 0) h)))

-- What fails it.

at_least_zero : (a b : ℕ) → a ≡ 0 → (ltb a b || (eqb a b && true)) ≡ true
at_least_zero a zero h = rw h
at_least_zero a (suc b) h = rw (h, lt-ltb 0 (suc b) (omega arith))

both_zero : (a b : ℕ) → a ≡ 0 → b ≡ 0 → (eqb a b && eqb a 0) ≡ true
both_zero a b h k = rw (h, k)

pub refused_low : (x : Float) → le (fin false 0 (pos 0)) x ≡ false → no_number x ≡ true
unfolding le no_number
refused_low nan h = refl
refused_low (inf s) h = refl
refused_low (fin false m e) h = absurd (true≢false (sym (at_least_zero (0 * 1 * down e) (m * up e * 1) (omega arith)) ∙ h))
refused_low (fin true zero e) h = absurd (true≢false (sym (both_zero (0 * 1 * down e) (0 * up e * 1) (omega arith) (omega arith)) ∙ h))
refused_low (fin true (suc m) e) h = rw (lt-ltb 0 (suc m) (omega arith))
