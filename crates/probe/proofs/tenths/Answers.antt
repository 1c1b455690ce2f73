-- `probe::tenths` meets its contract: the laws of a float's bits, at what each arm knows.
use mathlib.Core.Path.{sym, subst}
use native.Mathlib.Omega.{arith}
use lib.Dec.{T}
use lib.Ieee.{of_bits, binary32, fits}
use Rattle.probe_spec.proofs.Comparing.{refused_low}
use Rattle.probe_spec.proofs.Answers.{no_number_lem}
use Rattle.probe_spec.proofs.Bits.{infinite, of_digits, of_significand, of_great}
use Rattle.probe.proofs.tenths.Goals as goal
use Rattle.probe.proofs.tenths.Goals.{Start}

-- an f32 holds it
held : (c : Start) → T (fits binary32 c.args.x)
held c = subst T (sym c.well_formed.0.1) tt

-- What it answers: 31, 32, the tenths.

-- What its numbers are within.

pub returns-else-x : goal.returns-else-x
unfolding of_bits
returns-else-x c = let x = c.args.x in sym (no_number_lem x (refused_low x c.if-x.false))

pub returns-else-exponent-lt255 : goal.returns-else-exponent-lt255
returns-else-exponent-lt255 c = infinite c.args.x (held (goal.at.returns-else-exponent-lt255 c).Start) (omega arith)

pub returns-then-exponent-lt255 : goal.returns-then-exponent-lt255
unfolding of_bits
returns-then-exponent-lt255 c =
    of_great c.args.x (held (goal.at.returns-then-exponent-lt255 c).Start) c.if-x.true (omega arith) (omega arith)

pub returns-then-exponent-le150 : goal.returns-then-exponent-le150
unfolding of_bits
returns-then-exponent-le150 c =
    of_significand c.args.x (held (goal.at.returns-then-exponent-le150 c).Start) c.if-x.true c.if-exponent-eq0.false (omega arith) c.nearest_tenths-then-exponent-le150.ensures

pub returns-then-exponent-eq0 : goal.returns-then-exponent-eq0
unfolding of_bits
returns-then-exponent-eq0 c =
    of_digits c.args.x (held (goal.at.returns-then-exponent-eq0 c).Start) c.if-x.true c.if-exponent-eq0.true c.nearest_tenths.ensures
