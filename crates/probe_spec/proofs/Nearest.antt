-- The definition is the nearest whole number to ten times any fraction that the float is, and there is no other.
use Prim.Native.Nat.{ℕ, zero, suc, ◌+◌, ◌*◌, ◌^◌, ◌≤◌, ◌<◌}
use mathlib.Core.Path.{◌≡◌, refl, sym, ap, ◌∙◌}
use mathlib.Core.Bool.{Bool, true, false, true≢false}
use mathlib.Core.List.{[], ◌∷◌}
use native.Mathlib.Nat.{mul-pos, le_antisymm, mul-le-mul_right, mul-lt-mul_of_pos_right, le_of_mul-le-mul_right, lt_of_mul-lt-mul_right}
use native.Mathlib.Omega.{arith}
use lib.Dec.{ltb}
use borrow.Author.Tests.{ltb-true, ltb-false, lt-ltb}
use lib.Ieee.{Float, nan, inf, fin, up, down}
use lib.Ieee.Fits.{up_pos, down_pos}
use lib.Ieee.Exact.{HasValue}
use Rattle.base.specs.Limits.{largest, tenths}
use Rattle.base.specs.Rounding.{rounded}
use Rattle.base.specs.Answer.{Answer, figures, refusal}
use Rattle.base.proofs.Rounding.{round_high, round_low, round_le}
use Rattle.probe_spec.specs.Tenths.{no_number, tenths_of, tenths_answer}
use Rattle.probe_spec.specs.Nearest as nearest
use Rattle.probe_spec.specs.Nearest.{NearestTenths, TenthsOfFraction, FloatsRight}
use Rattle.probe_spec.proofs.Answers.{no_number_lem, too_great, shown}

-- one of two such numbers is not the greater
no_more : (a c m n : ℕ) → NearestTenths a c m → NearestTenths a c n → m ≤ n
no_more a c m n p q = let h : m < n + 1 = lt_of_mul-lt-mul_right c (omega (arith, p.above, q.below)) in omega arith

one_only : (a c m n : ℕ) → NearestTenths a c m → NearestTenths a c n → m ≡ n
one_only a c m n p q = le_antisymm (no_more a c m n p q) (no_more a c n m q p)

-- a fraction has one answer
pub one_answer : {a c : ℕ} {p q : Answer} → TenthsOfFraction a c p → TenthsOfFraction a c q → p ≡ q
one_answer {a} {c} (nearest.shown m i h) (nearest.shown n j l) = ap (λ (k : ℕ). figures (k ∷ [])) (one_only a c m n i j)
one_answer {a} {c} (nearest.shown m i h) (nearest.too_great n j l) = absurd (omega (arith, one_only a c m n i j))
one_answer {a} {c} (nearest.too_great m i h) (nearest.shown n j l) = absurd (omega (arith, one_only a c m n i j))
one_answer (nearest.too_great m i h) (nearest.too_great n j l) = refl

-- from 2 ^ 24 on it is 32
pub from_2^24 : {a c : ℕ} {p : Answer} → 2 ^ 24 * c ≤ a → TenthsOfFraction a c p → refusal 32 ≡ p
from_2^24 {a} {c} l (nearest.shown n i h) = let k : 335_544_320 < 2 * n + 1 = lt_of_mul-lt-mul_right c (omega (arith, i.below)) in absurd (omega arith)
from_2^24 l (nearest.too_great n i h) = refl

-- R of ten times p / d is nearest to ten times every a / c that is p / d
module _ (p d a c : ℕ) (D : 0 < d) (C : 0 < c) (e : p * c ≡ a * d) where
  round_nearest : NearestTenths a c (rounded (tenths * p) d)
  round_nearest =
      let n = rounded (tenths * p) d in
      record {
        above = le_of_mul-le-mul_right {k = d} (omega (arith, mul-le-mul_right c (round_high (tenths * p) d))) D;
        below = lt_of_mul-lt-mul_right d (omega (arith, mul-lt-mul_of_pos_right (round_low (tenths * p) D) C));
      }

of_tests : (a c : ℕ) (x : Float) → no_number x ≡ false → NearestTenths a c (tenths_of x) → TenthsOfFraction a c (tenths_answer x)
of_tests a c x e n = go (ltb largest (tenths_of x)) refl
  where
    go : (b : Bool) → ltb largest (tenths_of x) ≡ b → TenthsOfFraction a c (tenths_answer x)
    go true f = rw (too_great x e (ltb-true largest (tenths_of x) f)) (nearest.too_great (tenths_of x) n (ltb-true largest (tenths_of x) f))
    go false f = rw (shown x e (ltb-false largest (tenths_of x) f)) (nearest.shown (tenths_of x) n (ltb-false largest (tenths_of x) f))

-- a float that 31 does not refuse, minus zero among them
pub of_number_lem : (x : Float) (s : Bool) (a c : ℕ) → 0 < c → no_number x ≡ false → HasValue x s a c → TenthsOfFraction a c (tenths_answer x)
unfolding tenths_of
of_number_lem nan s a c C n h = absurd h
of_number_lem (inf t) s a c C n h = absurd h
of_number_lem (fin t m e) s a c C n h = of_tests a c (fin t m e) n (round_nearest (m * up e) (down e) a c (down_pos e) C h.1)

of_fraction : (x : Float) (a c : ℕ) → 0 < c → HasValue x false a c → TenthsOfFraction a c (tenths_answer x)
unfolding no_number
of_fraction nan a c C h = absurd h
of_fraction (inf s) a c C h = absurd h
of_fraction (fin true m e) a c C h = absurd (true≢false h.0)
of_fraction (fin false m e) a c C h = of_number_lem (fin false m e) false a c C refl h

-- negative and not zero
of_negative : (x : Float) (a c : ℕ) → 0 < a → HasValue x true a c → tenths_answer x ≡ refusal 31
unfolding no_number
of_negative nan a c A h = absurd h
of_negative (inf s) a c A h = absurd h
of_negative (fin false m e) a c A h = absurd (true≢false (sym h.0))
of_negative (fin true zero e) a c A h = absurd (no h.1)
  where
    no : 0 * up e * c ≡ a * down e → ⊥
    no l = omega (arith, mul-pos A (down_pos e))
of_negative (fin true (suc m) e) a c A h = no_number_lem (fin true (suc m) e) (lt-ltb 0 (suc m) (omega arith))

nought : (u d : ℕ) → 0 < d → rounded (tenths * (0 * u)) d ≡ 0
nought u d D = le_antisymm (round_le 0 D (omega arith)) (omega arith)

of_minus_zero : (x : Float) (c : ℕ) → 0 < c → HasValue x true 0 c → tenths_answer x ≡ figures (0 ∷ [])
unfolding no_number tenths_of
of_minus_zero nan c C h = absurd h
of_minus_zero (inf s) c C h = absurd h
of_minus_zero (fin false m e) c C h = absurd (true≢false (sym h.0))
of_minus_zero (fin true zero e) c C h =
    let z = nought (up e) (down e) (down_pos e) in
    shown (fin true zero e) refl (omega (arith, z)) ∙ ap (λ (n : ℕ). figures (n ∷ [])) z
of_minus_zero (fin true (suc m) e) c C h = absurd (no h.1)
  where
    no : suc m * up e * c ≡ 0 * down e → ⊥
    no l = omega (arith, mul-pos (mul-pos {m = suc m} (omega arith) (up_pos e)) C)

pub floats_right : FloatsRight
unfolding no_number
floats_right = record {
  nearest = of_fraction;
  only = one_only;
  minus_zero = of_minus_zero;
  negative = of_negative;
  infinite = λ s. no_number_lem (inf s) refl;
  not_a_number = no_number_lem nan refl;
}
