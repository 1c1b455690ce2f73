-- `merge_conflicts::table_differs` meets its contract: the type is looked for among the tables not yet passed.
use Prim.Native.Nat.{ℕ, ◌*◌, ◌<◌}
use mathlib.Core.Path.{ap, sym, ◌∙◌}
use mathlib.Core.List.{List}
use native.Mathlib.Omega.{arith}
use lib.ListN.{get_or}
use borrow.Author.Tests.{ne_eqb}
use Rattle.base.specs.Limits.{most_rows, most_tables}
use Rattle.table.specs.Table.{Row}
use Rattle.table.specs.Layout.{rows_from}
use Rattle.table.proofs.Arrays.{GoodTable, good_table, length_rows}
use Rattle.merge_spec.specs.Merge.{same_rows}
use Rattle.merge_conflicts.proofs.Comparing.{by_rows, by_count}
use Rattle.merge_conflicts.proofs.rows.table_differs.Goals as goal
use Rattle.merge_conflicts.proofs.rows.table_differs.Goals.{Start}

-- the first sheet's table, and its rows
ours : (s : Start) → let t = s.args.first.now in GoodTable t.rows t.levels.now t.capacities.now s.args.k
ours s = good_table s.requires.1 s.args.k s.requires.0

abbrev our_rows : Start → List Row
our_rows s = let t = s.args.first.now in rows_from t.levels.now t.capacities.now (most_rows * s.args.k) (get_or t.rows s.args.k 0)

-- the second sheet's tables have places in the array
theirs : (s : Start) (j : ℕ) → j < s.args.second.now.count → j < most_tables
theirs s j h = (good_table s.requires.2 j h).few

pub offset_bounds-first-k : goal.offset_bounds-first-k
offset_bounds-first-k c = let few = (ours (goal.at.offset_bounds-first-k c).Start).few in omega arith

pub bounds-first-k : goal.bounds-first-k
bounds-first-k c = (ours (goal.at.bounds-first-k c).Start).few

pub bounds-first-k-2 : goal.bounds-first-k-2
bounds-first-k-2 c = (ours (goal.at.bounds-first-k-2 c).Start).few

pub bounds-second-j : goal.bounds-second-j
bounds-second-j c = theirs (goal.at.bounds-second-j c).Start c.loop-j.j c.loop-j-test.true

pub bounds-second-j-then-second-j : goal.bounds-second-j-then-second-j
bounds-second-j-then-second-j c = theirs (goal.at.bounds-second-j-then-second-j c).Start c.loop-j.j c.loop-j-test.true

pub same_rows-requires : goal.same_rows-requires
same_rows-requires c =
    let s = (goal.at.same_rows-requires c).Start in
    let g = ours s in
    let h = theirs s c.loop-j.j c.loop-j-test.true in
    (omega (arith, g.few, g.most), omega (arith, g.most, h))

pub returns-then-second-j-2 : goal.returns-then-second-j-2
returns-then-second-j-2 c =
    let s = (goal.at.returns-then-second-j-2 c).Start in
    let t = c.args.first.now in
    let n : ℕ = get_or t.rows c.args.k 0 in
    rw (ne_eqb (get_or c.args.second.now.rows c.loop-j.j 0) n c.if-second-j-2.true)
    (by_count (get_or t.types c.args.k 0) c.args.second.now c.loop-j.j c.loop-j-test.true c.loop-j.invariant c.if-second-j.true (our_rows s)
    (λ q. c.if-second-j-2.true (q ∙ length_rows t.levels.now t.capacities.now (most_rows * c.args.k) n)))

pub returns-else-second-j-2 : goal.returns-else-second-j-2
returns-else-second-j-2 c =
    let s = (goal.at.returns-else-second-j-2 c).Start in
    let u = c.args.second.now in
    by_rows (get_or c.args.first.now.types c.args.k 0) u c.loop-j.j c.loop-j-test.true c.loop-j.invariant c.if-second-j.true (our_rows s) c.same_rows.result
    (c.same_rows.ensures ∙ ap (λ (m : ℕ). same_rows (our_rows s) (rows_from u.levels.now u.capacities.now (most_rows * c.loop-j.j) m)) (sym c.if-second-j-2.false))
