-- Laws of the difference by parts: it is the exact one to the nearest 0.01 mm with its sign, and passes where that is at most 2 mm either way.
use Prim.Native.Nat.{ℕ, ◌-◌, ◌*◌, ◌≤◌, ◌<◌}
use mathlib.Core.Path.{◌≡◌, refl, sym}
use mathlib.Core.Bool.{Bool, true, false}
use mathlib.Core.Logic.{inl, inr}
use native.Mathlib.Nat.{mul-le-mul_right}
use native.Mathlib.Omega.{arith}
use borrow.Author.Tests.{ltb-true, ltb-false, leb-true, le-leb}
use lib.Dec.{ltb}
use Rattle.base.specs.Rounding.{rounded}
use Rattle.base.specs.Fraction.{whole, ◌*ᶠ◌}
use Rattle.base.specs.Limits.{in_tenths}
use Rattle.base.specs.Numbers.{difference}
use Rattle.base.proofs.Choice.{below}
use Rattle.base.proofs.Numbers.{difference_sum}
use Rattle.base.proofs.Rounding.{round_low, round_le}
use Rattle.comparison.specs.Difference.{parts, signed, close, difference_of, passes_for}
use Rattle.comparison.specs.Answers.{most_readings}
use Rattle.comparison.specs.Told.{above_mean, below_mean, SideRight, SignedRight, AtMostTwo, PassRight}
use Rattle.comparison.proofs.Sides.{nearest_only, above_num, above_den, below_num, below_den, nearest_side}

-- Two lengths of which d parts make a mm, d being at most 200.
module _ (a b d : ℕ) (p : 0 < d) (few : d ≤ 200) where
  -- where they differ, more than 0 is shown
  pub shown_apart : 0 < difference a b → 0 < (signed a b d).size
  unfolding signed
  shown_apart h =
      let r = rounded (100 * difference a b) d in
      elim (below 0 r) [ inl k ↦ k | inr k ↦ absurd (omega (arith, round_low (100 * difference a b) p, mul-le-mul_right {m = r} {n = 0} d k)) ]

  -- 2 mm, and the figure 200
  pub close_shown : close a b d ≡ true → (signed a b d).size ≤ 200
  unfolding signed close
  close_shown e = round_le 200 p (omega (arith, leb-true (difference a b) (2 * d) e))

  pub shown_close : (signed a b d).size ≤ 200 → close a b d ≡ true
  unfolding signed close
  shown_close h = le-leb (difference a b) (2 * d) (omega (arith, round_low (100 * difference a b) p, mul-le-mul_right d h))

-- the difference of two numbers by which is the lesser
difference_below : {a b : ℕ} → a < b → difference a b ≡ b - a
difference_below {a} {b} h = omega (arith, difference_sum a b)

difference_above : {a b : ℕ} → b ≤ a → difference a b ≡ a - b
difference_above {a} {b} h = omega (arith, difference_sum a b)

-- m readings, not more than there is room for
module _ (stick sum m : ℕ) (p : 0 < m) (room : m ≤ most_readings) where
  abbrev a : ℕ
  a = stick * m

  abbrev b : ℕ
  b = in_tenths sum

  abbrev size : ℕ
  size = rounded (100 * difference a b) (parts m)

  -- the side on which the stick lies, and the other
  lies_below : a < b → SideRight (below_mean stick sum m) (above_mean stick sum m) size
  unfolding whole
  lies_below h = record {
    nearest = rw (difference_below h) (nearest_side (below_mean stick sum m) (below_num stick sum m p) (below_den stick sum m p));
    nought = record { le = omega (arith, above_num stick sum m p) };
  }

  lies_above : b ≤ a → SideRight (above_mean stick sum m) (below_mean stick sum m) size
  unfolding whole
  lies_above h = record {
    nearest = rw (difference_above h) (nearest_side (above_mean stick sum m) (above_num stick sum m p) (above_den stick sum m p));
    nought = record { le = omega (arith, below_num stick sum m p) };
  }

  pub signed_right : SignedRight stick sum m (difference_of stick sum m).negative (difference_of stick sum m).size
  unfolding signed
  signed_right = go (ltb a b) refl
    where
      go : (n : Bool) → ltb a b ≡ n → SignedRight stick sum m n size
      go true e = let h = ltb-true a b e in (lies_below h, shown_apart a b (parts m) (omega arith) (omega arith) (omega (arith, difference_below h)))
      go false e = lies_above (ltb-false a b e)

  -- whatever is right so is the definition's
  pub signed_only : (n : Bool) (shown : ℕ) → SignedRight stick sum m n shown → (n ≡ (difference_of stick sum m).negative) × (shown ≡ (difference_of stick sum m).size)
  unfolding signed whole ◌*ᶠ◌
  signed_only true shown (s, q) = go (ltb a b) refl
    where
      go : (n : Bool) → ltb a b ≡ n → (true ≡ n) × (shown ≡ size)
      go true e = (refl, nearest_only s.nearest (lies_below (ltb-true a b e)).nearest)
      go false e =
          let side = below_mean stick sum m in
          let h = ltb-false a b e in
          absurd (omega (arith, s.nearest.high, below_num stick sum m p, side.pos, mul-le-mul_right {m = 1} {n = shown} side.den q))
  signed_only false shown s = go (ltb a b) refl
    where
      go : (n : Bool) → ltb a b ≡ n → (false ≡ n) × (shown ≡ size)
      go true e = absurd (omega (arith, s.nought.le, below_num stick sum m p, ltb-true a b e))
      go false e = (refl, nearest_only s.nearest (lies_above (ltb-false a b e)).nearest)

  two_mm : difference a b ≤ 2 * parts m → AtMostTwo stick sum m
  unfolding whole
  two_mm h = record {
    above = record { le = omega (arith, difference_sum a b, above_num stick sum m p, above_den stick sum m p) };
    below = record { le = omega (arith, difference_sum a b, below_num stick sum m p, below_den stick sum m p) };
  }

  two_mm_back : AtMostTwo stick sum m → difference a b ≤ 2 * parts m
  unfolding whole
  two_mm_back t =
      omega (arith, difference_sum a b, t.above.le, t.below.le, above_num stick sum m p, above_den stick sum m p, below_num stick sum m p, below_den stick sum m p)

  pub pass_right : PassRight stick sum m (difference_of stick sum m).size (passes_for stick sum m)
  unfolding close
  pass_right = record {
    there = λ t. le-leb (difference a b) (2 * parts m) (two_mm_back t);
    nowhere_else = λ e. two_mm (leb-true (difference a b) (2 * parts m) e);
    shown = close_shown a b (parts m) (omega arith) (omega arith);
    shown_back = shown_close a b (parts m) (omega arith) (omega arith);
  }

  pub pass_only : (shown : ℕ) (t : Bool) → PassRight stick sum m shown t → t ≡ passes_for stick sum m
  pass_only shown true r = sym (pass_right.there (r.nowhere_else refl))
  pass_only shown false r = go (passes_for stick sum m) refl
    where
      go : (t : Bool) → passes_for stick sum m ≡ t → false ≡ t
      go true e = r.there (pass_right.nowhere_else e)
      go false e = refl
