-- A sheet is read by its grammar: whole exactly where it is the text of tables and lines behind them as document 01 has them, and refused exactly where and why
-- the tests say so that are listed there.
use Rattle.std.specs.Prelude.{ℕ, ◌+◌, ◌≤◌, ◌<◌, ◌≡◌, List, [], ◌++◌, length}
use Rattle.base.specs.Answer.{refuses, first}
use Rattle.table.specs.Table.{Table}
use Rattle.grammar.specs.Text.{text_of}
use Rattle.grammar.specs.Grammar.{TrainLine, sheet_lines, sheet_text, WholeSheet, lines_begun, Begun}
use Rattle.grammar.specs.Faults.{line_faults}
use Rattle.grammar.specs.Sheet.{longest, refused_at, whole, sheet_of}

-- Why a sheet is refused at a line by a number, with the tables and lines behind them that were read before.

module _ (s : List ℕ) (line number : ℕ) (tables : List Table) (history : List TrainLine) where
  -- 2: it is too long; the line number is 0, and nothing was read
  pub record TooLong : Type 0 where
    pub long : longest < length s
    pub nought : line ≡ 0
    pub two : number ≡ 2
    pub no_tables : tables ≡ []
    pub no_cars_lem : history ≡ []

  -- 3 to 9: the lines before are the beginning of a sheet, and of the tests on the rest the number's is the first that applies
  pub record Fault : Type 0 where
    pub owed : ℕ
    pub rest : List ℕ
    pub begun : Begun tables owed history
    pub text : s ≡ text_of (lines_begun tables owed history) ++ rest
    pub short : length s ≤ longest
    pub due : line ≡ 1 + length (lines_begun tables owed history)
    pub fault : first (line_faults tables owed history rest) ≡ refuses number

  -- 9: bytes follow a whole sheet; the line number is the next line's
  pub record BytesAfter : Type 0 where
    pub rest : List ℕ
    pub good : WholeSheet tables history
    pub text : s ≡ sheet_text tables history ++ rest
    pub some : 0 < length rest
    pub short : length s ≤ longest
    pub due : line ≡ 1 + length (sheet_lines tables history)
    pub nine : number ≡ 9

pub data Refusal (s : List ℕ) (line number : ℕ) (tables : List Table) (history : List TrainLine) : Type 0 where
  too_long : TooLong s line number tables history → Refusal s line number tables history
  fault : Fault s line number tables history → Refusal s line number tables history
  bytes_after : BytesAfter s line number tables history → Refusal s line number tables history

pub record RefusedSheet (s : List ℕ) (line number : ℕ) : Type 0 where
  pub tables : List Table
  pub history : List TrainLine
  pub why : Refusal s line number tables history

pub record ReadByGrammar (s : List ℕ) : Type 0 where
  -- every text of a sheet is read whole, and none is too long
  pub every : (tables : List Table) (history : List TrainLine) → WholeSheet tables history → sheet_of (sheet_text tables history) ≡ whole tables history
  pub short : (tables : List Table) (history : List TrainLine) → WholeSheet tables history → length (sheet_text tables history) ≤ longest
  -- where s is read whole, it is the text of what was read, and that is as it must be
  pub only : (tables : List Table) (history : List TrainLine) → sheet_of s ≡ whole tables history → s ≡ sheet_text tables history
  pub good : (tables : List Table) (history : List TrainLine) → sheet_of s ≡ whole tables history → WholeSheet tables history
  -- where s is to be refused it is, and where it is refused it is to be
  pub refused : (line number : ℕ) (tables : List Table) (history : List TrainLine) → Refusal s line number tables history → sheet_of s ≡ refused_at line number
  pub refusal : (line number : ℕ) → sheet_of s ≡ refused_at line number → RefusedSheet s line number
