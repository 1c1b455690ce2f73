-- `capacity::volume_on` meets its contract: the two capacities are those of the rows, and the difference is not below 0 since the capacity never falls.
use Prim.Native.Nat.{ℕ, ◌-◌}
use mathlib.Core.List.{List, [], ◌∷◌}
use mathlib.Core.Path.{sym, ap, ap₂, ◌∙◌}
use native.Mathlib.Omega.{arith}
use Rattle.std.proofs.lemmas.Result.{err_from_is_err_and}
use Rattle.base.specs.Answer.{figures}
use Rattle.base.specs.Limits.{in_tenths}
use Rattle.base.proofs.Tests.{tests}
use Rattle.table.specs.Table.{Table, rows_of}
use Rattle.table.specs.Layout.{tables_in}
use Rattle.table.proofs.Rising.{tables_rising}
use Rattle.gauging.specs.Capacity.{v0, capacity_answer, volume_on}
use Rattle.gauging.proofs.Capacity.{capacity_mono}
use Rattle.gauging.proofs.Answers.{Reached, reached, level_refused, Accepted, volume_found, water_refused}
use Rattle.capacity.proofs.volume_on.Goals as goal
use Rattle.capacity.proofs.volume_on.Goals.{In_ok-full, In_ok-under}

-- the capacity at the mean level
full : (c : In_ok-full) → let a = c.args in Reached (tables_in a.tables.now) a.kind a.mean c.in_ok-full.full
full c = reached _ _ _ c.in_ok-full.ensures

-- past the tests, and the capacity at the water level
module _ (c : In_ok-under) where
  abbrev all : List Table
  all = tables_in c.args.tables.now

  mean : Reached all c.args.kind c.args.mean c.in_ok-full.full
  mean = reached all c.args.kind c.args.mean c.in_ok-full.ensures

  passed : Accepted all c.args.kind c.args.mean c.args.water
  passed = record { known = mean.known; positive = omega (arith, c.if-mean-eq0.false); low = mean.low; above_water = omega (arith, c.if-mean-bottom.false, c.in_tenths-bottom.ensures) }

  under : Reached all c.args.kind (in_tenths c.args.water) c.in_ok-under.under
  under = reached all c.args.kind (in_tenths c.args.water) (c.in_ok-under.ensures ∙ ap (capacity_answer all c.args.kind) c.in_tenths-bottom.ensures)

pub returns-in_err-full : goal.returns-in_err-full
returns-in_err-full c =
    let a = c.args in
    let p = err_from_is_err_and c.from_residual.result c.from_residual.ensures.1 in
    rw (p.1, p.2) (level_refused (tables_in a.tables.now) a.kind a.mean a.water c.in_err-full.ensures)

pub returns-then-mean-eq0 : goal.returns-then-mean-eq0
unfolding volume_on
returns-then-mean-eq0 c = let f = full (goal.at.returns-then-mean-eq0 c).In_ok-full in search (tests, f.known)

pub returns-then-mean-bottom : goal.returns-then-mean-bottom
returns-then-mean-bottom c =
    let a = c.args in
    let f = full (goal.at.returns-then-mean-bottom c).In_ok-full in
    sym (water_refused (tables_in a.tables.now) a.kind a.mean a.water f.known c.if-mean-eq0.false f.low (omega (arith, c.if-mean-bottom.true, c.in_tenths-bottom.ensures)))

pub overflow_sub-result : goal.overflow_sub-result
overflow_sub-result c =
    let t = (goal.at.overflow_sub-result c).In_ok-under in
    let p = passed t in
    omega (
      arith,
      (mean t).value,
      (under t).value,
      capacity_mono (rows_of c.args.kind (all t)) (tables_rising c.args.kind (all t) c.requires.accepted p.known) {h = in_tenths c.args.water} (omega (arith, p.above_water)) p.low,
    )

pub returns : goal.returns
unfolding v0
returns c =
    let t = (goal.at.returns c).In_ok-under in
    ap₂ (λ (x y : ℕ). figures ((x - y) ∷ [])) (mean t).value (under t).value ∙ sym (volume_found (all t) c.args.kind c.args.mean c.args.water (passed t))
