-- `probe::nearest_tenths` meets its contract: the laws of cutting, at what each arm knows.
use Prim.Native.Nat.{◌^◌}
use mathlib.Core.Path.{refl}
use native.Mathlib.Omega.{arith}
use lib.Pow.{pow_pos}
use Rattle.probe_spec.proofs.Cutting.{cut_shown, cut_refused, cut_away}
use Rattle.probe.proofs.nearest_tenths.Goals as goal

pub returns : goal.returns
returns c = let a = c.args in cut_shown a.significand (2 ^ a.shift) (pow_pos a.shift) c.if-n-gt-MOST.false refl

pub returns-then-n-gt-MOST : goal.returns-then-n-gt-MOST
returns-then-n-gt-MOST c = let a = c.args in cut_refused a.significand (2 ^ a.shift) (pow_pos a.shift) c.if-n-gt-MOST.true refl

pub returns-then-shift-ge64 : goal.returns-then-shift-ge64
returns-then-shift-ge64 c = cut_away c.args.significand c.args.shift c.ranges.significand.fits (omega arith)
