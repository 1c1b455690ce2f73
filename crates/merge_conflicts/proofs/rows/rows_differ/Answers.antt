-- `merge_conflicts::rows_differ` meets its contract: the tables not yet passed tell of all.
use Prim.Native.Nat.{◌+◌, ◌-◌}
use mathlib.Core.Path.{ap, sym, ◌∙◌}
use mathlib.Core.Bool.{Bool, ◌||◌}
use mathlib.Core.List.{List}
use Rattle.table.specs.Table.{Table}
use Rattle.table.specs.Layout.{tables_from, tables_in}
use Rattle.table.proofs.Arrays.{tables_step}
use Rattle.merge_spec.specs.Merge.{rows_differ}
use Rattle.merge_conflicts.proofs.rows.rows_differ.Goals as goal

pub loop-k-preserved : goal.loop-k-preserved
loop-k-preserved c =
    let t = c.args.first.now in
    let us : List Table = tables_in c.args.second.now in
    let k = c.loop-k.k in
    c.loop-k.invariant
    ∙ ap (λ (ts : List Table). rows_differ ts us) (tables_step t.types t.rows t.levels.now t.capacities.now k t.count c.loop-k-test.true)
    ∙ ap (λ (b : Bool). b || rows_differ (tables_from t.types t.rows t.levels.now t.capacities.now (k + 1) (t.count - (k + 1))) us) (sym c.table_differs.ensures ∙ c.if-table_differs.false)
