-- In range nothing is cut off at 0, neither in the rounded steps nor in the exact ones, so what is defined by differences is what document 01 says.
use Prim.Native.Nat.{ℕ}
use native.Mathlib.Omega.{arith}
use Rattle.heating.proofs.Uncut.{factor_uncut}
use Rattle.kilograms.specs.Uncut.{NothingCut}
use Rattle.kilograms.specs.Inner.{InRange}

pub nothing_cut : {v t r w i : ℕ} → InRange v t r w i → NothingCut t r w i
nothing_cut h =
    let f = h.fields in
    record { above20 = f.warm; above15 = omega arith; factor = factor_uncut f.density.light (omega arith); oil = f.oil }
