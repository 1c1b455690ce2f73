-- Step 6 of document 01 between bounds: how the terms rise, and E falls, as X rises.
use Prim.Native.Nat.{ℕ, zero, suc, ◌+◌, ◌-◌, ◌*◌, ◌≤◌, ◌<◌}
use mathlib.Core.Path.{◌≡◌, ap}
use mathlib.Core.Logic.{⊎_elim}
use native.Mathlib.Nat.{mul-le-mul, mul-le-mul_left, mul-le-mul_right}
use native.Mathlib.Omega.{arith}
use Rattle.base.specs.Rounding.{rounded}
use Rattle.base.proofs.Choice.{below}
use Rattle.base.proofs.Rounding.{round_high, round_low, round_mono}
use Rattle.base.proofs.Near.{near_self, near_weaken}
use Rattle.heating.specs.Inner.{most_exponent}
use Rattle.heating.specs.Uncut.{AddsUp}
use Rattle.heating.specs.Steps.{unity, term, series}
use Rattle.heating.proofs.Budget.{exponent_error, series_adds_up}
use Rattle.heating.proofs.Bounds.{next_term_small}

term_small : (k x : ℕ) → x ≤ most_exponent → 32 * term (suc (suc k)) x ≤ term (suc k) x + 32
unfolding term
term_small k x h = next_term_small (term (suc k) x) (omega arith) h

-- from u2 on
term_most : (k x : ℕ) → x ≤ most_exponent → term (suc (suc k)) x ≤ 19_000_000
unfolding term
term_most zero x h = omega (arith, term_small 0 x h)
term_most (suc k) x h = omega (arith, term_small (suc k) x h, term_most k x h)

-- a term rises with x
term_mono : (k : ℕ) {x y : ℕ} → x ≤ y → term (suc k) x ≤ term (suc k) y
unfolding term
term_mono zero h = h
term_mono (suc k) h = round_mono (suc (suc k) * unity) (omega arith) (mul-le-mul (term_mono k h) h)

-- a smaller divisor
divisor_less : (v w n z : ℕ) → 2 * unity ≤ n → w * n ≤ v * n + n + z → 2 * unity * w ≤ 2 * unity * (v + 1) + z
divisor_less v w n z hn h =
    ⊎_elim
    (λ (p : v + 1 < w). let e = w - (v + 1) in let q : w ≡ v + 1 + e = omega arith in omega (arith, q, ap (λ (t : ℕ). t * n) q, mul-le-mul_left e hn))
    (λ (p : w ≤ v + 1). omega arith)
    (below (v + 1) w)

-- by how much a quotient rises: u by p at most and x by q, u at most m
quotient_rises : (n u t x q p m : ℕ) → 2 * unity ≤ n → t ≤ u + p → t ≤ m → x ≤ most_exponent
    → 2 * unity * rounded (t * (x + q)) n ≤ 2 * unity * (rounded (u * x) n + 1) + (p * most_exponent + m * q)
quotient_rises n u t x q p m hn hp hm hx =
    let pos : 0 < n = omega arith in
    divisor_less _ _ n _ hn
    (omega (arith, round_high (t * (x + q)) n, round_low (u * x) pos, mul-le-mul_right x hp, mul-le-mul_left p hx, mul-le-mul_right q hm))

-- the series adds up: nothing is cut off at 0
adds_up : {x : ℕ} → x ≤ most_exponent → AddsUp x
adds_up {x} h = series_adds_up (near_weaken most_exponent exponent_error h (omega arith) (near_self x))

-- by how much the terms rise, and E falls, from x to x + q
module _ (x q : ℕ) (h : x + q ≤ most_exponent) where
  low : x ≤ most_exponent
  low = omega arith

  -- u2
  second_rises : 16 * term 2 (x + q) ≤ 16 * term 2 x + q + 16
  unfolding term
  second_rises = omega (arith, quotient_rises (2 * unity) x (x + q) x q q most_exponent (omega arith) (omega arith) h low)

  -- u3 to u6
  after_rises : (k : ℕ) → 16 * term (suc (suc k)) (x + q) ≤ 16 * term (suc (suc k)) x + q + 32
      → 64 * term (suc (suc (suc k))) (x + q) ≤ 64 * term (suc (suc (suc k))) x + q + 128
  unfolding term
  after_rises k r =
      let u = term (suc (suc k)) x in
      let t = term (suc (suc k)) (x + q) in
      let most : t ≤ 19_000_000 = term_most k (x + q) h in
      omega (arith, r, quotient_rises (suc (suc (suc k)) * unity) u t x q (t - u) 19_000_000 (omega arith) (omega arith) most low)

  term_rises : (k : ℕ) → 64 * term (suc (suc (suc k))) (x + q) ≤ 64 * term (suc (suc (suc k))) x + q + 128
  term_rises zero = after_rises 0 (omega (arith, second_rises))
  term_rises (suc k) = after_rises (suc k) (omega (arith, term_rises k))

  -- E falls by 14/16 of what x rises at least, and by 17/16 at most, but for the roundings
  pub series_falls : 16 * series (x + q) + 14 * q ≤ 16 * series x + 80
  unfolding term
  series_falls =
      let up : x ≤ x + q = omega arith in
      omega (arith, adds_up low, adds_up h, second_rises, term_rises 1, term_rises 3, term_mono 2 up, term_mono 4 up)

  pub series_falls_most : 16 * series x ≤ 16 * series (x + q) + 17 * q + 64
  unfolding term
  series_falls_most =
      let up : x ≤ x + q = omega arith in
      omega (arith, adds_up low, adds_up h, term_rises 0, term_rises 2, term_mono 1 up, term_mono 3 up, term_mono 5 up)

-- E is at most 1, and at least 1 − x, but for the roundings
pub series_near_one : (x : ℕ) → x ≤ most_exponent → unity ≤ series x + x + 2
unfolding term
series_near_one x h = omega (arith, adds_up h, term_small 1 x h, term_small 3 x h)

pub series_most : (x : ℕ) → x ≤ most_exponent → series x ≤ unity + 3
unfolding term
series_most x h = omega (arith, adds_up h, term_small 0 x h, term_small 2 x h, term_small 4 x h)
