-- The filling order: of two accepted cars on the same capacity table, alike but for number and readings, the higher level never shows less.
use Prim.Native.Nat.{ℕ, ◌≤◌}
use mathlib.Core.Path.{◌≡◌, sym}
use mathlib.Core.List.{List}
use native.Mathlib.Nat.{le_antisymm}
use native.Mathlib.Omega.{arith}
use Rattle.base.specs.Answer.{Answer, figures, refusal}
use Rattle.table.specs.Table.{Table}
use Rattle.gauging.proofs.Capacity.{v0_mono}
use Rattle.kilograms.specs.Steps.{stick_coefficient}
use Rattle.kilograms.proofs.Order.{volume15_rises, gross_rises, net_rises}
use Rattle.car.specs.declared.Measured.{Measured}
use Rattle.car.specs.Measured.{rows, v0, six_figures}
use Rattle.car.specs.Inner.{Passed}
use Rattle.car.proofs.Accepted.{rising, low}
use Rattle.consist.specs.Demand3.{Answered, SameTable, Alike, Comparable, Figurewise, InOrder}
use Rattle.consist.proofs.Taken.{taken}

-- a level that is not higher
module _ {ts us : List Table} {m n : Measured} (same : SameTable ts us m n) (alike : Alike m n) (h : Passed us n) (k : m.level ≤ n.level) where
  v0_rises : v0 ts m ≤ v0 us n
  unfolding v0
  v0_rises = rw (same.rows, alike.water_level) (v0_mono (rows us n) (rising us n h) n.water_level k (low us n h))

  no_smaller : (x y : ℕ) → Figurewise ◌≤◌ (figures (six_figures ts x m)) (figures (six_figures us y n))
  unfolding six_figures v0
  no_smaller x y = (
    v0_rises,
    rw (alike.stick, alike.temperature, alike.density) (volume15_rises v0_rises (stick_coefficient n.stick) n.temperature n.density.0),
    rw (alike.stick, alike.temperature, alike.density) (gross_rises v0_rises (stick_coefficient n.stick) n.temperature n.density.0),
    rw (alike.stick, alike.temperature, alike.density, alike.water, alike.impurities)
        (net_rises v0_rises (stick_coefficient n.stick) n.temperature n.density.0 n.water n.impurities),
  )

table_turned : {ts us : List Table} {m n : Measured} → SameTable ts us m n → SameTable us ts n m
table_turned s = record { kind = sym s.kind; rows = sym s.rows }

alike_turned : {m n : Measured} → Alike m n → Alike n m
alike_turned a = record {
  grade = sym a.grade;
  stick = sym a.stick;
  water_level = sym a.water_level;
  temperature = sym a.temperature;
  density = sym a.density;
  water = sym a.water;
  impurities = sym a.impurities;
}

-- figures of which none is smaller either way are the same
both_ways : (a b : Answer) → Figurewise ◌≤◌ a b → Figurewise ◌≤◌ b a → Figurewise ◌≡◌ a b
both_ways (figures a) (figures b) (p, q, r, s) (p', q', r', s') = (le_antisymm p p', le_antisymm q q', le_antisymm r r', le_antisymm s s')
both_ways (figures a) (refusal n) h k = absurd h
both_ways (refusal m) b h k = absurd h

module _ (ts us : List Table) (m n : Measured) (a b : Answer) (w : Answered ts m a) (x : Answered us n b) (c : Comparable ts us m n a b) where
  rises : m.level ≤ n.level → Figurewise ◌≤◌ a b
  rises h =
      let k = taken ts w c.first in
      let l = taken us x c.second in
      rw (k.six, l.six) (no_smaller c.table c.alike l.passed h k.number l.number)

  falls : n.level ≤ m.level → Figurewise ◌≤◌ b a
  falls h =
      let k = taken ts w c.first in
      let l = taken us x c.second in
      rw (k.six, l.six) (no_smaller (table_turned c.table) (alike_turned c.alike) k.passed h l.number k.number)

pub in_order : (ts : List Table) (m : Measured) (a : Answer) → Answered ts m a → InOrder ts m a
in_order ts m a w = record {
  higher = λ us n b x c h. rises ts us m n a b w x c h;
  lower = λ us n b x c h. falls ts us m n a b w x c h;
  level_with = λ us n b x c h. both_ways a b (rises ts us m n a b w x c (omega arith)) (falls ts us m n a b w x c (omega arith));
}
