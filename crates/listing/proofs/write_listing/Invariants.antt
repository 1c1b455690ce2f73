-- `listing::write_listing` meets its contract: each turn writes a line, and the totals come last.
use Rattle.table.specs.Layout.{tables_in}
use Rattle.consist.specs.Lent.{train_in}
use Rattle.listing.proofs.Run.{Written}
use Rattle.listing.proofs.write_listing.Given as goal

abbrev pub invariant-loop-i : goal.invariant-loop-i
invariant-loop-i l = Written (tables_in l.tables) l.fields l.lines l.initial.out l.out (train_in l.cars) l.at l.i
