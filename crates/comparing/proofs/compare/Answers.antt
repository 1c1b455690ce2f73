-- `comparing::compare` meets its contract: every product fits its type, and 0.01 mm are compared as mm are.
use Prim.Native.Nat.{ℕ, ◌*◌, ◌≤◌, ◌<◌}
use mathlib.Core.Path.{◌≡◌, refl, sym, ◌∙◌}
use mathlib.Core.Logic.{⊎_elim}
use native.Mathlib.Nat.{mul-le-mul_right}
use native.Mathlib.Omega.{arith}
use lib.Dec.{leb}
use borrow.Author.Tests.{le-leb, lt-leb}
use Rattle.base.specs.Limits.{highest_level, tenths}
use Rattle.base.specs.Numbers.{difference}
use Rattle.base.proofs.Choice.{below}
use Rattle.base.proofs.Numbers.{difference_sum}
use Rattle.base.proofs.Rounding.{round_le}
use Rattle.comparison.specs.Difference.{signed, close}
use Rattle.comparing.proofs.compare.Goals as goal

-- in 0.01 mm as in mm
close-hundredths : (a b d : ℕ) → leb (100 * difference a b) (200 * d) ≡ close a b d
unfolding close
close-hundredths a b d =
    ⊎_elim
    (λ (h : 2 * d < difference a b). lt-leb (100 * difference a b) (200 * d) (omega arith) ∙ sym (lt-leb (difference a b) (2 * d) h))
    (λ (h : difference a b ≤ 2 * d). le-leb (100 * difference a b) (200 * d) (omega arith) ∙ sym (le-leb (difference a b) (2 * d) h))
    (below (2 * d) (difference a b))

pub returns : goal.returns
unfolding signed
returns c =
    rw (c.round_half_up-size.ensures, c.difference.ensures, ← close-hundredths _ _ _) refl

pub overflow_cast-size : goal.overflow_cast-size
overflow_cast-size c =
    let a = c.args.stick * c.args.m in
    let b = tenths * c.args.sum in
    let far : c.difference.result ≤ highest_level * (tenths * c.args.m) =
    omega (arith, c.difference.ensures, difference_sum a b, mul-le-mul_right c.args.m c.requires.most, c.requires.tape.most) in
    let some : 0 < tenths * c.args.m = omega (arith, c.requires.tape.counted.least) in
    omega (arith, c.round_half_up-size.ensures, round_le {n = 100 * c.difference.result} (100 * highest_level) some (omega (arith, far)))
