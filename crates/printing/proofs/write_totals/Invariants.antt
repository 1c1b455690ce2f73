-- `printing::write_totals` meets its contract: S, and each turn writes a grade's line.
use Rattle.printing.proofs.Totals.{Closed}
use Rattle.printing.proofs.write_totals.Given as goal

abbrev pub invariant-loop-i : goal.invariant-loop-i
invariant-loop-i l = Closed l.initial.out l.initial.place l.sums l.out l.place l.i
