-- Rows that rise: each exceeds the one before in both numbers, up to 3,600 mm and 200,000 dm³.
use Prim.Native.Nat.{ℕ, ◌≤◌, ◌<◌}
use mathlib.Core.Path.{◌≡◌, refl}
use mathlib.Core.Bool.{Bool, true, false, ◌&&◌, not, true≢false}
use mathlib.Core.List.{List, [], ◌∷◌}
use native.Mathlib.Nat.{le_refl}
use native.Mathlib.Omega.{arith}
use lib.Dec.{eqb}
use lib.ListN.{length}
use borrow.Author.Tests.{leb-false, ltb-false, eqb-true, not-false}
use Rattle.base.specs.Answer.{accepts, first}
use Rattle.base.specs.Limits.{highest_level, greatest_capacity}
use Rattle.base.proofs.Choice.{neither}
use Rattle.table.specs.Table.{Row, Table, later_row_bad, later_tests, rows_tests, tables_verdict, unknown, rows_of, last_level}
use Rattle.table.proofs.Table.{passing, good_rows}

pub record Follows (low high : Row) : Type 0 where
  pub rises : low.level < high.level
  pub fills : low.capacity < high.capacity
  pub reaches : high.level ≤ highest_level
  pub fits : high.capacity ≤ greatest_capacity

-- every two neighbours of a row and those after it
abbrev pub RisingFrom : Row → List Row → Type 0
RisingFrom low [] = Unit {0}
RisingFrom low (high ∷ rows) = Follows low high × RisingFrom high rows

-- a table of two rows or more that rises from 0 and 0
abbrev pub Rising : List Row → Type 0
Rising [] = ⊥
Rising (row ∷ []) = ⊥
Rising (row ∷ next ∷ rows) = (row.level ≡ 0) × (row.capacity ≡ 0) × RisingFrom row (next ∷ rows)

-- a later row that 8 does not refuse
pub follows : (low high : Row) → later_row_bad low high ≡ false → Follows low high
follows low high e =
    let a = neither _ _ e in
    let b = neither _ _ a.0 in
    let c = neither _ _ b.0 in
    record {
      rises = leb-false high.level low.level c.0;
      fills = leb-false high.capacity low.capacity c.1;
      reaches = ltb-false highest_level high.level b.1;
      fits = ltb-false greatest_capacity high.capacity a.1;
    }

-- the first row of good rows
pub record First (row : Row) (rows : List Row) : Type 0 where
  pub level-zero : row.level ≡ 0
  pub capacity-zero : row.capacity ≡ 0
  pub rest : first (later_tests row rows) ≡ accepts

pub first_row : (row : Row) (rows : List Row) → first (rows_tests (row ∷ rows)) ≡ accepts → First row rows
first_row row rows e =
    let p = passing 8 _ _ e in
    let q = nought (eqb row.level 0) (eqb row.capacity 0) p.0 in
    record {
      level-zero = eqb-true row.level 0 q.0;
      capacity-zero = eqb-true row.capacity 0 q.1;
      rest = p.1;
    }
  where
    nought : (a b : Bool) → not (a && b) ≡ false → (a ≡ true) × (b ≡ true)
    nought true b e = (refl, not-false b e)
    nought false b e = absurd (true≢false e)

-- Good rows rise.

pub rising_from_lem : (low : Row) (rows : List Row) → first (later_tests low rows) ≡ accepts → RisingFrom low rows
rising_from_lem low [] e = tt
rising_from_lem low (high ∷ rows) e = let p = passing 8 _ _ e in (follows low high p.0, rising_from_lem high rows p.1)

rising : (rows : List Row) → first (rows_tests rows) ≡ accepts → 2 ≤ length rows → Rising rows
rising [] e h = absurd (omega arith)
rising (row ∷ []) e h = absurd (omega arith)
rising (row ∷ next ∷ rows) e h =
    let f = first_row row (next ∷ rows) e in
    (f.level-zero, f.capacity-zero, rising_from_lem row (next ∷ rows) f.rest)

-- The last level of rows that rise.

pub last_least : (low : Row) (rows : List Row) → RisingFrom low rows → low.level ≤ last_level (low ∷ rows)
last_least low [] r = le_refl low.level
last_least low (high ∷ rows) (f, rest) = omega (arith, f.rises, last_least high rows rest)

last_most : (low : Row) (rows : List Row) → low.level ≤ highest_level → RisingFrom low rows → last_level (low ∷ rows) ≤ highest_level
last_most low [] h r = h
last_most low (high ∷ rows) h (f, rest) = last_most high rows f.reaches rest

rising_last_most : (rows : List Row) → Rising rows → last_level rows ≤ highest_level
rising_last_most [] r = absurd r
rising_last_most (row ∷ []) r = absurd r
rising_last_most (row ∷ next ∷ rows) (l, _, r) = last_most row (next ∷ rows) (omega (arith, l)) r

-- the rows of a type, on tables that are not refused
module _ (kind : ℕ) (ts : List Table) (e : tables_verdict ts ≡ accepts) (u : unknown kind ts ≡ false) where
  pub tables_rising : Rising (rows_of kind ts)
  tables_rising = let g = good_rows kind ts e u in rising (rows_of kind ts) g.good g.two

  pub tables_last_most : last_level (rows_of kind ts) ≤ highest_level
  tables_last_most = rising_last_most (rows_of kind ts) tables_rising
