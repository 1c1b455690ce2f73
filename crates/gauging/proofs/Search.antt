-- The search for the row that reaches a level, as a loop over tables and rows goes.
use Prim.Native.Nat.{ℕ, zero, suc, ◌+◌, ◌-◌, ◌≤◌, ◌<◌}
use mathlib.Core.Path.{◌≡◌, refl, sym, ap, ◌∙◌, subst}
use mathlib.Core.List.{List, [], ◌∷◌}
use mathlib.Core.Logic.{⊎_elim}
use native.Mathlib.Nat.{le_refl, le_antisymm}
use native.Mathlib.Omega.{arith}
use lib.ListN.{get_or}
use borrow.Author.Tests.{le-ltb, lt-ltb, le-leb, lt-leb, eq-eqb, ne_eqb}
use Rattle.base.specs.Answer.{refuse_if, accepts, first, Answer, figures, refusal, answer}
use Rattle.base.specs.Limits.{in_tenths}
use Rattle.base.proofs.Choice.{below}
use Rattle.table.specs.Table.{Row, Table, later_tests, last_level}
use Rattle.table.specs.Layout.{rows_from}
use Rattle.table.proofs.Table.{passing}
use Rattle.table.proofs.Arrays.{one_left, row_at, rows_first}
use Rattle.table.proofs.Rising.{RisingFrom, follows, last_least}
use Rattle.gauging.specs.Capacity.{above, gap_after}
use Rattle.gauging.specs.Inner.{RowBelow, gap_numbers, around_answer}

-- what is found in the rows after `low`
abbrev pub found_after : Row → List Row → ℕ → Answer
found_after low rows level = answer (first (refuse_if 16 (above (low ∷ rows) level) ∷ [])) (gap_numbers (gap_after low rows level))

module _ (low : Row) (level : ℕ) where
  pub none_reaches : in_tenths low.level < level → found_after low [] level ≡ refusal 16
  none_reaches h = rw (lt-ltb (in_tenths low.level) level h)

  module _ (high : Row) (rows : List Row) where
    pub row_passed : in_tenths high.level < level → found_after low (high ∷ rows) level ≡ found_after high rows level
    row_passed h = rw (lt-leb level (in_tenths high.level) h)

    pub row_reaches : level ≤ in_tenths high.level → RisingFrom high rows
        → found_after low (high ∷ rows) level ≡ figures (gap_numbers (record { low = low; high = high }))
    row_reaches h r = rw (le-leb level (in_tenths high.level) h, le-ltb (in_tenths (last_level (high ∷ rows))) level (omega (arith, last_least high rows r)))

module _ (t : Table) (ts : List Table) (kind level : ℕ) where
  pub table_chosen : (row : Row) (rows : List Row) → t.kind ≡ kind → t.rows ≡ row ∷ rows
      → around_answer (t ∷ ts) kind level ≡ found_after row rows level
  table_chosen row rows h e = rw (eq-eqb t.kind kind h, e)

  pub table_skipped : (t.kind ≡ kind → ⊥) → around_answer (t ∷ ts) kind level ≡ around_answer ts kind level
  table_skipped h = rw (ne_eqb t.kind kind h)

-- Rows passed at once: what is found after a row is found after a later one that does not reach the level.

module _ (levels capacities : List ℕ) (last level : ℕ) where
  abbrev pub after : ℕ → List Row
  after at = rows_from levels capacities (at + 1) (last - at)

  pub record Skipped (at to : ℕ) : Type 0 where
    pub rises : get_or levels at 0 ≤ get_or levels to 0
    pub good : first (later_tests (row_at levels capacities to) (after to)) ≡ accepts
    pub same : found_after (row_at levels capacities at) (after at) level ≡ found_after (row_at levels capacities to) (after to) level

  pub rows_skipped : (n at to : ℕ) → to ≡ at + n → to ≤ last → (at < to → in_tenths (get_or levels to 0) < level)
      → first (later_tests (row_at levels capacities at) (after at)) ≡ accepts → Skipped at to
  rows_skipped zero at to e h f g =
      let back : at ≡ to = omega arith in
      subst (Skipped at) back (record { rises = le_refl (get_or levels at 0); good = g; same = refl })
  rows_skipped (suc n) at to e h f g =
      let low : Row = row_at levels capacities at in
      let next : Row = row_at levels capacities (at + 1) in
      let t : after at ≡ next ∷ after (at + 1) = rows_first levels capacities (at + 1) (one_left last at (omega arith)) in
      let p = passing 8 _ _ (sym (ap (λ (rows : List Row). first (later_tests low rows)) t) ∙ g) in
      let s = rows_skipped n (at + 1) to (omega arith) h (λ q. f (omega arith)) p.1 in
      record {
        rises = omega (arith, (follows low next p.0).rises, s.rises);
        good = s.good;
        same =
            ap (λ (rows : List Row). found_after low rows level) t
            ∙ row_passed low level next (after (at + 1)) (omega (arith, s.rises, f (omega arith)))
            ∙ s.same;
      }

-- a row below the level, and a further one from there
pub row_below_on : {levels : List ℕ} {low last reach at end r : ℕ} → RowBelow levels low last reach at → end ≤ last → RowBelow levels at end reach r
    → RowBelow levels low last reach r
row_below_on {levels} {low} {last} {reach} {at} {end} {r} a h b = record {
  from = omega (arith, a.from, b.from);
  to = omega (arith, b.to);
  below = λ p. ⊎_elim
      (λ (q : at < r). b.below q)
      (λ (q : r ≤ at). subst (λ (i : ℕ). get_or levels i 0 < reach) (le_antisymm b.from q) (a.below (omega (arith, b.from))))
      (below at r);
}
