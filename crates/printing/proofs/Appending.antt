-- Laws of a line that has room: it is written, and its width is handed back.
use Prim.Native.Nat.{ℕ, ◌+◌, ◌≤◌}
use mathlib.Core.Path.{◌≡◌, ap, sym, ◌∙◌}
use mathlib.Core.Bool.{true}
use mathlib.Core.List.{List, [], ◌∷◌}
use Rattle.std.specs.Prelude.{Result, Ok, Err}
use lib.ListN.{length}
use Rattle.base.specs.declared.refusal.Refusal.{Refusal}
use Rattle.base.specs.Refusal.{refusal_number, figure_told}
use Rattle.base.specs.Answer.{figures, refusal}
use Rattle.base.specs.Buffer.{put}
use Rattle.base.proofs.Choice.{never}
use Rattle.reading.specs.declared.letter.Line.{Line}
use Rattle.reading.specs.Letter.{width_of}
use Rattle.line.specs.Writing.{line_of, writable, write_answer, after_write}
use Rattle.line.proofs.Bytes.{has_room, line_written, answered}

module _ (l : Line) (at : ℕ) (out : List ℕ) (h : writable l at (length out) ≡ true) where
  pub fits : at + width_of l.letter ≤ length out
  fits = (has_room l at (length out) h).0

  pub laid_bytes : after_write l at out ≡ put out at (line_of l)
  laid_bytes = sym (line_written l at out h)

  pub laid_width : {r : Result ℕ Refusal} {n : ℕ} → figure_told r ≡ write_answer l at (length out) → r ≡ Ok n → n ≡ width_of l.letter
  laid_width {r} {n} e f =
      let g : figures (n ∷ []) ≡ figures (width_of l.letter ∷ []) = sym (ap figure_told f) ∙ e ∙ sym (answered l at (length out) h) in
      cc

  pub never_refused : {C : Type 0} {r : Result ℕ Refusal} {n : Refusal} → figure_told r ≡ write_answer l at (length out) → r ≡ Err n → C
  never_refused {r = r} {n = n} e f =
      let g : refusal (refusal_number n) ≡ figures (width_of l.letter ∷ []) = sym (ap figure_told f) ∙ e ∙ sym (answered l at (length out) h) in
      never (cc)
