-- A line written by the byte of its letter and numbers that were copied.
use Prim.Native.Nat.{ℕ}
use mathlib.Core.Path.{◌≡◌}
use mathlib.Core.Bool.{Bool, true, cond}
use mathlib.Core.List.{List}
use Rattle.std.specs.Prelude.{Option, Some, None}
use Rattle.base.specs.Answer.{refusal}
use Rattle.reading.specs.declared.letter.Letter.{Letter}
use Rattle.line.specs.Writing.{write_answer, after_write}
use Rattle.marshalling.specs.Handed.{bad_letter, sized}
use Rattle.exported_parts.specs.Lines.{line_with, write_answer_by, after_write_by}

module _ {found : Option Letter} {letter : Letter} {fields numbers : List ℕ} {right : Bool} (e : found ≡ Some letter) (copied : fields ≡ numbers) (r : right ≡ true) where
  pub answer_by : (room : ℕ) → write_answer (line_with letter fields) 0 room ≡ sized right (write_answer_by found numbers room)
  answer_by room = cc

  pub after_by_lem : (lent : List ℕ) → after_write (line_with letter fields) 0 lent ≡ cond right (after_write_by found numbers lent) lent
  after_by_lem lent = cc

-- no letter
module _ {found : Option Letter} {right : Bool} (numbers : List ℕ) (e : found ≡ None) (r : right ≡ true) where
  pub answer_none : (room : ℕ) → refusal bad_letter ≡ sized right (write_answer_by found numbers room)
  answer_none room = cc

  pub after_none : (lent : List ℕ) → lent ≡ cond right (after_write_by found numbers lent) lent
  after_none lent = cc
