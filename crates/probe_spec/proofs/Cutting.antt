-- The answer to a fraction by cutting: half of one more than its twentieths, and 0 where the divisor is 2 ^ 64 or more.
use Prim.Native.Nat.{ℕ, ◌+◌, ◌*◌, ◌/◌, ◌^◌, ◌≤◌, ◌<◌}
use mathlib.Core.Path.{◌≡◌}
use mathlib.Core.List.{[], ◌∷◌}
use native.Mathlib.Nat.{div-mul-le_self, lt-div-mul-add, mul-le-mul_right}
use native.Mathlib.Omega.{arith}
use lib.Pow.{pow_mono}
use Rattle.base.specs.Limits.{largest}
use Rattle.base.specs.Answer.{figures, refusal}
use Rattle.probe_spec.specs.Nearest as nearest
use Rattle.probe_spec.specs.Nearest.{NearestTenths, TenthsOfFraction}

module _ (a c : ℕ) (C : 0 < c) where
  -- q twentieths, cut, are half of q + 1 tenths, cut
  halved : NearestTenths a c ((a * 20 / c + 1) / 2)
  halved =
      let q = a * 20 / c in
      let n = (q + 1) / 2 in
      let high : 2 * n ≤ q + 1 = omega arith in
      let low : q ≤ 2 * n = omega arith in
      record {
        above = omega (arith, mul-le-mul_right c high, div-mul-le_self (a * 20) c);
        below = omega (arith, mul-le-mul_right c low, lt-div-mul-add {a = a * 20} C);
      }

  pub cut_shown : {n : ℕ} → n ≤ largest → n ≡ (a * 20 / c + 1) / 2 → TenthsOfFraction a c (figures (n ∷ []))
  cut_shown {n} h e = nearest.shown n (rw e halved) h

  pub cut_refused : {n : ℕ} → largest < n → n ≡ (a * 20 / c + 1) / 2 → TenthsOfFraction a c (refusal 32)
  cut_refused {n} h e = nearest.too_great n (rw e halved) h

pub cut_away : (a k : ℕ) → a < 2 ^ 32 → 64 ≤ k → TenthsOfFraction a (2 ^ k) (figures (0 ∷ []))
cut_away a k h l = nearest.shown 0 (record { above = omega arith; below = omega (arith, pow_mono l) }) (omega arith)
