-- `merge_write::write_tables` meets its contract: each turn copies a table.
use Rattle.merge_write.proofs.TableTurns.{TablesLaid}
use Rattle.merge_write.proofs.tables.write_tables.Given as goal

abbrev pub invariant-loop-entry : goal.invariant-loop-entry
invariant-loop-entry l = TablesLaid l.first l.second l.order l.initial.out l.initial.place l.out l.place l.entry-index
