-- What the code holds once a sheet was read: the outcome is that of the definition.
use Prim.Native.Nat.{ℕ, ◌+◌, ◌≤◌}
use mathlib.Core.Path.{◌≡◌, ap, sym, ◌∙◌}
use mathlib.Core.List.{List}
use Rattle.std.specs.Prelude.{Result, Ok, Err}
use lib.ListN.{length}
use Rattle.table.specs.Layout.{tables_of}
use Rattle.grammar.specs.Grammar.{WholeSheet}
use Rattle.grammar.specs.Sheet.{refused_at, whole, sheet_of}
use Rattle.grammar.specs.Proper.{ProperRefusal}
use Rattle.grammar.proofs.Turns.{sheet_proper}
use Rattle.base.specs.Limits.{most_car_lines, most_strikes}
use Rattle.base.specs.Refusal.{refusal_number}
use Rattle.holding.specs.declared.LineRefusal.{LineRefusal}
use Rattle.holding.specs.Layout.{history_of, outcome_told}
use Rattle.holding.proofs.Arrays.{few_lines}
use Rattle.sheet.specs.declared.Contents.{Contents}
use Rattle.sheet.specs.Layout.{read_in, Held}

-- a whole sheet has no more lines behind its tables than it may
pub few : {s l c f : List ℕ} {r : Contents} → Held s r l c f → r.outcome ≡ Ok tt → r.cars + r.struck ≤ most_car_lines + most_strikes
few {f = f} {r = r} h w = few_lines f (r.cars + r.struck) (h.few_cars w) (h.few_strikes w)

module _ (s : List ℕ) (r : Contents) (l c f : List ℕ) (e : read_in r l c f ≡ sheet_of s) where
  told : {x : Result Unit LineRefusal} → r.outcome ≡ x → outcome_told x (tables_of r.directory l c) (history_of f (r.cars + r.struck)) ≡ sheet_of s
  told o = sym (ap (λ (x : Result Unit LineRefusal). outcome_told x (tables_of r.directory l c) (history_of f (r.cars + r.struck))) o) ∙ e

  pub refused_read : {why : LineRefusal} → r.outcome ≡ Err why → refused_at why.line (refusal_number why.refusal) ≡ sheet_of s
  refused_read o = told o

  pub whole_read : r.outcome ≡ Ok tt → whole (tables_of r.directory l c) (history_of f (r.cars + r.struck)) ≡ sheet_of s
  whole_read o = told o

  pub refused_proper : {why : LineRefusal} → r.outcome ≡ Err why → ProperRefusal (length s) why.line (refusal_number why.refusal)
  refused_proper o = rw (← refused_read o) at (sheet_proper s)

  pub whole_proper : r.outcome ≡ Ok tt → WholeSheet (tables_of r.directory l c) (history_of f (r.cars + r.struck))
  whole_proper o = rw (← whole_read o) at (sheet_proper s)
