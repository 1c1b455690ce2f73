-- Bytes written one after another: those written and those still to be written make one text over the buffer as lent. Lines likewise, by their bytes.
use Prim.Native.Nat.{ℕ, ◌+◌, ◌≤◌}
use mathlib.Core.Path.{◌≡◌, refl, ap, ap₂, sym, ◌∙◌}
use mathlib.Core.Bool.{true}
use mathlib.Core.List.{List, [], ◌∷◌, ◌++◌}
use native.Mathlib.Nat.{add-zero}
use native.Mathlib.Omega.{arith}
use lib.ListN.{length, length-append}
use Rattle.base.specs.Buffer.{put}
use Rattle.base.proofs.Buffer.{put_nil, put_put}
use Rattle.reading.specs.declared.letter.Line.{Line}
use Rattle.reading.specs.Letter.{count_of, width_of, most_fields}
use Rattle.line.specs.Writing.{line_of, small_to, writable}
use Rattle.line.proofs.Bytes.{length_line_of, can_write}
use Rattle.grammar.specs.Text.{text_of}

-- `out` has the bytes up to `at`, `left` are still to be written, and with them it is `all` from the place `from` on
pub record BytesLaid (lent : List ℕ) (from : ℕ) (all out : List ℕ) (at : ℕ) (left : List ℕ) : Type 0 where
  pub same : length out ≡ length lent
  pub bytes : put out at left ≡ put lent from all
  pub total : at + length left ≡ from + length all

pub none_laid : (lent : List ℕ) (from : ℕ) (all : List ℕ) → BytesLaid lent from all lent from all
none_laid lent from all = record { same = refl; bytes = refl; total = refl }

-- the next bytes have room, and with them written the others are left
module _ (lent : List ℕ) (from : ℕ) (all : List ℕ) (fits : from + length all ≤ length lent) (out : List ℕ) (at : ℕ) (some left : List ℕ)
    (m : BytesLaid lent from all out at (some ++ left)) where
  ahead : at + (length some + length left) ≡ from + length all
  ahead = ap (λ (n : ℕ). at + n) (sym (length-append some left)) ∙ m.total

  pub some_room : at + length some ≤ length out
  some_room = omega (arith, ahead, m.same, fits)

  pub some_laid : (out' : List ℕ) (at' : ℕ) → out' ≡ put out at some → at' ≡ at + length some → length out' ≡ length out → BytesLaid lent from all out' at' left
  some_laid out' at' eo ea en = record {
    same = en ∙ m.same;
    bytes = ap₂ (λ (o : List ℕ) (a : ℕ). put o a left) eo ea ∙ put_put out at some left (omega (arith, ahead, m.same, fits)) ∙ m.bytes;
    total = omega (arith, ea, ahead);
  }

-- no byte is left
pub bytes_all : {lent : List ℕ} {from : ℕ} {all out : List ℕ} {at : ℕ} → BytesLaid lent from all out at [] → (at ≡ from + length all) × (out ≡ put lent from all)
bytes_all {out = out} {at = at} m = (sym (add-zero at) ∙ m.total, sym (put_nil out at) ∙ m.bytes)

-- Lines.

abbrev pub Laid : List ℕ → ℕ → List Line → List ℕ → ℕ → List Line → Type 0
Laid lent from all out at left = BytesLaid lent from (text_of all) out at (text_of left)

-- a line whose numbers its fields hold has room, and with it written the others are left
module _ (lent : List ℕ) (from : ℕ) (all : List Line) (fits : from + length (text_of all) ≤ length lent) (out : List ℕ) (at : ℕ) (l : Line) (left : List Line)
    (m : Laid lent from all out at (l ∷ left)) (fourteen : length l.numbers ≡ most_fields) (small : small_to l.numbers (count_of l.letter) ≡ true) where
  width : length (line_of l) ≡ width_of l.letter
  width = length_line_of l fourteen

  first : BytesLaid lent from (text_of all) out at (line_of l ++ text_of left)
  unfolding text_of
  first = m

  pub line_room : writable l at (length out) ≡ true
  line_room = can_write l at (length out) (omega (arith, width, some_room lent from (text_of all) fits out at (line_of l) (text_of left) first)) small

  pub line_laid : (l' : Line) (out' : List ℕ) (at' : ℕ) → l' ≡ l → out' ≡ put out at (line_of l') → at' ≡ at + width_of l'.letter → length out' ≡ length out
      → Laid lent from all out' at' left
  line_laid l' out' at' el eo ea en =
      some_laid lent from (text_of all) fits out at (line_of l) (text_of left) first out' at'
      (eo ∙ ap (λ (x : Line). put out at (line_of x)) el)
      (ea ∙ ap (λ (x : Line). at + width_of x.letter) el ∙ ap (λ (n : ℕ). at + n) (sym width))
      en

-- no line is left
pub all_laid : {lent : List ℕ} {from : ℕ} {all out : List ℕ} {at : ℕ} → BytesLaid lent from all out at (text_of []) → (at ≡ from + length all) × (out ≡ put lent from all)
unfolding text_of
all_laid m = bytes_all m
