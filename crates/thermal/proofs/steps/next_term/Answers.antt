-- `thermal::steps::next_term` meets its contract: a term is at most a sixteenth of the one before it, but for the rounding.
use Prim.Native.Nat.{◌*◌}
use native.Mathlib.Omega.{arith}
use Rattle.heating.specs.Steps.{unity}
use Rattle.heating.proofs.Bounds.{next_term_small}
use Rattle.thermal.proofs.steps.next_term.Goals as goal

pub returns : goal.returns
returns c =
    let e = c.round_half_up.ensures in
    let p = c.requires in
    (e, omega (arith, e, next_term_small c.args.u {n = c.args.k * unity} (omega (arith, p.2)) p.1))
