-- `merge_write::write_tables` meets its contract: each turn copies a table.
use Rattle.merge_write.proofs.TableTurns.{table_ready, table_laid}
use Rattle.merge_write.proofs.tables.write_tables.Goals as goal

pub copy_by-place-requires : goal.copy_by-place-requires
copy_by-place-requires c =
    let a = c.args in
    let l = c.loop-entry in
    table_ready a.first.now a.second.now a.order.now a.out.now a.at l.out l.place l.entry-index l.invariant c.loop-entry-test.true

pub loop-entry-preserved : goal.loop-entry-preserved
loop-entry-preserved c =
    let a = c.args in
    let l = c.loop-entry in
    let p = c.copy_by-place in
    table_laid a.first.now a.second.now a.order.now a.out.now a.at l.out l.place l.entry-index l.invariant c.loop-entry-test.true p.new.out p.result p.ensures.1 p.ensures.0 p.auto.out
