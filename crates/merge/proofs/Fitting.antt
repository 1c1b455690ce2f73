-- The parts of a sheet's text written one after another are its text.
use Prim.Native.Nat.{ℕ, ◌+◌, ◌≤◌}
use mathlib.Core.Path.{◌≡◌, refl, ap, ap₂, sym, ◌∙◌}
use mathlib.Core.Bool.{true}
use mathlib.Core.List.{List, [], ◌∷◌, ◌++◌, append-nil, append_assoc}
use native.Mathlib.Omega.{arith}
use lib.ListN.{length, length-append}
use borrow.Author.Tests.{le-leb}
use Rattle.base.specs.Buffer.{put}
use Rattle.base.specs.Limits.{largest}
use Rattle.base.proofs.Buffer.{put_put}
use Rattle.reading.specs.declared.letter.Line.{Line}
use Rattle.line.specs.Writing.{line_of, small_to, writable}
use Rattle.line.proofs.Bytes.{length_line_of, can_write}
use Rattle.grammar.specs.Text.{text_of}
use Rattle.grammar.specs.Grammar.{e_line}
use Rattle.grammar.proofs.Text.{text-append}

-- E with a number of at most sixty
pub end_room : (n at room : ℕ) → n ≤ 60 → at + 11 ≤ room → writable (e_line n) at room ≡ true
unfolding small_to
end_room n at room h k = can_write (e_line n) at room k (simp (le-leb n largest (omega arith)))

-- Bytes b, the lines cs, then E.

module _ (b : List ℕ) (cs : List Line) (n : ℕ) where
  abbrev all : List ℕ
  all = b ++ text_of (cs ++ (e_line n ∷ []))

  end_width : length (line_of (e_line n)) ≡ 11
  end_width = length_line_of (e_line n) refl

  ends : text_of (cs ++ (e_line n ∷ [])) ≡ text_of cs ++ line_of (e_line n)
  unfolding text_of
  ends = text-append cs (e_line n ∷ []) ∙ ap (λ (x : List ℕ). text_of cs ++ x) (append-nil (line_of (e_line n)))

  pub parts-length : length all ≡ length b + length (text_of cs) + 11
  parts-length =
      let a = length-append b (text_of (cs ++ (e_line n ∷ []))) in
      let c = ap length ends ∙ length-append (text_of cs) (line_of (e_line n)) in
      omega (arith, a, c, end_width)

  module _ (lent : List ℕ) (fits : length all ≤ length lent) (out₁ out₂ out₃ : List ℕ) (at₁ at₂ at₃ : ℕ) (e₁ : out₁ ≡ put lent 0 b) (p₁ : at₁ ≡ 0 + length b) (e₂ : out₂ ≡ put out₁ at₁ (text_of cs)) (p₂ : at₂ ≡ at₁ + length (text_of cs))
      (e₃ : out₃ ≡ put out₂ at₂ (line_of (e_line n))) (p₃ : at₃ ≡ at₂ + 11) where
    pub parts_at : at₃ ≡ length all
    parts_at = omega (arith, p₁, p₂, p₃, parts-length)

    pub parts_laid : out₃ ≡ put lent 0 all
    parts_laid =
        let q : at₂ ≡ 0 + length (b ++ text_of cs) = p₂ ∙ ap (λ (x : ℕ). x + length (text_of cs)) p₁ ∙ (let l = length-append b (text_of cs) in omega arith) in
        let two : out₂ ≡ put lent 0 (b ++ text_of cs) =
        e₂ ∙ ap₂ (λ (o : List ℕ) (a : ℕ). put o a (text_of cs)) e₁ p₁ ∙ put_put lent 0 b (text_of cs) (omega (arith, parts-length, fits)) in
        e₃
        ∙ ap₂ (λ (o : List ℕ) (a : ℕ). put o a (line_of (e_line n))) two q
        ∙ put_put lent 0 (b ++ text_of cs) (line_of (e_line n)) (omega (arith, parts-length, fits, end_width, length-append b (text_of cs)))
        ∙ ap (put lent 0) (append_assoc b (text_of cs) (line_of (e_line n)) ∙ ap (λ (x : List ℕ). b ++ x) (sym ends))
