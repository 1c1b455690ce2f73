-- `scanning::numbers_at` meets its contract: the fields passed are numbers, and the list holds them.
use mathlib.Core.Path.{◌≡◌}
use mathlib.Core.Bool.{true}
use Rattle.reading.specs.Reading.{good, values, filled}
use Rattle.scanning.proofs.numbers_at.Given as goal

abbrev pub invariant-loop-j : goal.invariant-loop-j
invariant-loop-j l = (good l.s l.at l.j ≡ true) × (l.list ≡ filled (values l.s l.at l.j) l.j)
