-- Two lengths exchanged: their difference turns its sign, 0 having none, and is as close.
use Prim.Native.Nat.{ℕ, ◌*◌, ◌≤◌, ◌<◌}
use mathlib.Core.Path.{◌≡◌, refl}
use mathlib.Core.Bool.{false, cond, not}
use mathlib.Core.Logic.{inl, inr}
use native.Mathlib.Omega.{arith}
use borrow.Author.Tests.{lt-ltb, le-ltb, eq-eqb, ne_eqb}
use lib.Dec.{ltb, eqb}
use Rattle.base.specs.Numbers.{difference}
use Rattle.base.proofs.Choice.{below}
use Rattle.base.proofs.Numbers.{difference_sum}
use Rattle.base.proofs.Rounding.{round_le}
use Rattle.comparison.specs.Difference.{signed, close}
use Rattle.comparison.specs.Exchange.{turned}
use Rattle.comparison.proofs.Signed.{shown_apart}

-- where more than 0 is shown the sign turns, and 0 has none
sign_turned : (a b size : ℕ) → (0 < difference a b → 0 < size) → (difference a b ≡ 0 → size ≡ 0) → ltb b a ≡ cond (eqb size 0) false (not (ltb a b))
sign_turned a b size f g =
    elim (below a b) [
      | inl h ↦ rw (le-ltb b a (omega arith), lt-ltb a b h, ne_eqb size 0 (omega (arith, f (omega (arith, difference_sum a b))))) refl
      | inr h ↦
          elim (below b a) [
            | inl k ↦ rw (lt-ltb b a k, le-ltb a b h, ne_eqb size 0 (omega (arith, f (omega (arith, difference_sum a b))))) refl
            | inr k ↦ rw (le-ltb b a k, eq-eqb size 0 (g (omega (arith, difference_sum a b)))) refl
          ]
    ]

difference_turned : (a b : ℕ) → difference b a ≡ difference a b
difference_turned a b = omega (arith, difference_sum a b, difference_sum b a)

pub close_turned : (a b d : ℕ) → close b a d ≡ close a b d
unfolding close
close_turned a b d = rw (difference_turned a b) refl

-- d parts make a mm
module _ (a b d : ℕ) (p : 0 < d) (few : d ≤ 200) where
  nought_shown : difference a b ≡ 0 → (signed a b d).size ≡ 0
  unfolding signed
  nought_shown h = omega (arith, round_le {n = 100 * difference a b} {d = d} 0 p (omega (arith, h)))

  pub signed_turned : signed b a d ≡ turned (signed a b d)
  unfolding signed
  signed_turned = rw (difference_turned a b, sign_turned a b (signed a b d).size (shown_apart a b d p few) nought_shown) refl
