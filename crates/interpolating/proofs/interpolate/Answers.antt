-- `interpolating::interpolate` meets its contract: no product passes 64 bits, since no level passes 3,600 mm and no capacity 200,000 dm³, and neither
-- does the result 32.
use Prim.Native.Nat.{ℕ, ◌+◌, ◌-◌, ◌*◌, ◌≤◌}
use mathlib.Core.Path.{◌≡◌}
use native.Mathlib.Nat.{mul-le-mul}
use native.Mathlib.Omega.{arith}
use Rattle.base.specs.Limits.{in_tenths, highest_level, greatest_capacity}
use Rattle.table.proofs.Rising.{Follows, follows}
use Rattle.gauging.specs.Inner.{gap_of}
use Rattle.gauging.specs.Capacity.{Gap, interpolated}
use Rattle.gauging.proofs.Capacity.{interpolated_split, interpolated_most}
use Rattle.interpolating.proofs.interpolate.Goals as goal
use Rattle.interpolating.proofs.interpolate.Goals.{After-in_tenths, After-round_half_up-part, Start}

abbrev gap : Start → Gap
gap c = gap_of c.args.rows

rise : (c : Start) → Follows (gap c).low (gap c).high
rise c = follows _ _ c.requires.follows

-- a capacity times a difference of levels
most : {a b : ℕ} → a ≤ greatest_capacity → b ≤ in_tenths highest_level → a * b ≤ greatest_capacity * in_tenths highest_level
most h k = mul-le-mul h k

-- past the two levels in tenths
module _ (c : After-in_tenths) where
  abbrev start : Start
  start = c.before.before

  rise-product : ((gap start).high.capacity - (gap start).low.capacity) * (start.args.level - c.in_tenths-passed.result)
      ≤ greatest_capacity * in_tenths highest_level
  rise-product = let f = rise start in most (omega arith) (omega (arith, start.requires.reached))

-- the value in two parts, which is at most 20,000,000
value : (c : After-round_half_up-part) →
    let s = start c.before.before in
    (interpolated (gap s) s.args.level ≡ 100 * (gap s).low.capacity + c.round_half_up-part.result) × (interpolated (gap s) s.args.level ≤ 100 * greatest_capacity)
value c =
    let s = start c.before.before in
    (interpolated_split (gap s) (rise s) s.args.level c.in_tenths-passed.ensures c.in_tenths.ensures c.round_half_up-part.ensures, omega (arith, interpolated_most (gap s) (rise s) s.requires.reached, rise s))

pub overflow_cast-part : goal.overflow_cast-part
overflow_cast-part c = omega (arith, value c)

pub overflow_add-result : goal.overflow_add-result
overflow_add-result c = omega (arith, value c)

pub returns : goal.returns
returns c = omega (arith, value c)
