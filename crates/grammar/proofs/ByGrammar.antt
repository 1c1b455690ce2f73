-- Every sheet is read by its grammar.
use Prim.Native.Nat.{ℕ}
use mathlib.Core.Path.{◌≡◌}
use mathlib.Core.List.{List}
use Rattle.table.specs.Table.{Table}
use Rattle.grammar.specs.Grammar.{TrainLine, WholeSheet}
use Rattle.grammar.specs.Sheet.{whole, sheet_of}
use Rattle.grammar.specs.ByGrammar.{ReadByGrammar}
use Rattle.grammar.proofs.Turns.{sheet_proper}
use Rattle.grammar.proofs.Text.{text_short}
use Rattle.grammar.proofs.Every.{every_text, refused_read}
use Rattle.grammar.proofs.Only.{only_text, only_refusal}

good_read : (s : List ℕ) (ts : List Table) (history : List TrainLine) → sheet_of s ≡ whole ts history → WholeSheet ts history
good_read s ts history e = rw e at (sheet_proper s)

pub by_grammar : (s : List ℕ) → ReadByGrammar s
by_grammar s = record { every = every_text; short = text_short; only = only_text s; good = good_read s; refused = refused_read s; refusal = only_refusal s }
