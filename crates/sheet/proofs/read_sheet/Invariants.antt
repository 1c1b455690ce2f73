-- `sheet::read_sheet` meets its contract: the lines from the place reached bring what the whole sheet does.
use Prim.Native.Nat.{◌-◌, ◌≤◌}
use mathlib.Core.Path.{◌≡◌}
use lib.ListN.{length}
use Rattle.grammar.specs.Sheet.{longest, read_from, sheet_of}
use Rattle.grammar.specs.Inner.{SoundState, LinesRead}
use Rattle.holding.specs.Inner.{state_in}
use Rattle.sheet.proofs.read_sheet.Given as goal

abbrev pub invariant-loop-outcome : goal.invariant-loop-outcome
invariant-loop-outcome l = SoundState (length l.s) (state_in l.reader l.levels l.capacities l.fields) × (length l.s ≤ longest) × (read_from l.s (state_in l.reader l.levels l.capacities l.fields) ≡ sheet_of l.s) × LinesRead l.s (state_in l.reader l.levels l.capacities l.fields)

abbrev pub decreases-loop-outcome : goal.decreases-loop-outcome
decreases-loop-outcome l = length l.s - l.reader.at
