-- What holds of every reading of a sheet, for those who use it.
use Rattle.std.specs.Prelude.{ℕ, ◌+◌, ◌≤◌, ◌<◌, ◌≡◌}
use Rattle.grammar.specs.Grammar.{WholeSheet}
use Rattle.grammar.specs.Sheet.{longest, SheetRead, refused_at, whole}

-- a refusal is one of 2 to 9, and 2 only where the sheet is too long; no line number exceeds the longest sheet's bytes by more than one
pub record ProperRefusal (bytes line number : ℕ) : Type 0 where
  pub lines : line ≤ longest + 1
  pub least : 2 ≤ number
  pub most : number ≤ 9
  pub long : number ≡ 2 → longest < bytes

-- what was read of so many bytes
abbrev pub Proper : ℕ → SheetRead → Type 0
Proper bytes (refused_at line number) = ProperRefusal bytes line number
Proper bytes (whole tables history) = WholeSheet tables history
