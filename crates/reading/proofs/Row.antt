-- An R line by its letter, its two fields and its line feed, each at the place where it must stand.
use Prim.Native.Nat.{ℕ, ◌+◌, ◌*◌, ◌<◌}
use mathlib.Core.Path.{◌≡◌, refl, ap, sym, ◌∙◌}
use mathlib.Core.Bool.{true}
use mathlib.Core.Logic.{◌⊎◌, inl, inr, ⊎_elim}
use mathlib.Core.List.{List, [], ◌∷◌}
use Rattle.std.specs.Prelude.{Option, Some, None, Result, Ok, Err}
use native.Mathlib.Omega.{arith}
use lib.ListN.{length, get_or}
use Rattle.base.specs.declared.refusal.Refusal.{Refusal}
use Rattle.base.proofs.Choice.{never}
use Rattle.field.specs.Field.{field_at}
use Rattle.reading.specs.declared.letter.Letter.{Letter}
use Rattle.reading.specs.declared.letter.Letter.TheVariants.{Row}
use Rattle.reading.specs.declared.letter.Line.{Line}
use Rattle.reading.specs.Reading.{letter_of, feed_at, field_value, good, values, filled, numbers_at, line_at, row_only, row_read, row_by, row_at}
use Rattle.reading.proofs.Letters.{found, from_letter}
use Rattle.reading.proofs.Fields.{feed_byte, good_at}
use Rattle.reading.proofs.Lines.{line_quick, is_line}

-- what `row_at` tests: an R line of the level a and the capacity b
pub record RowBytes (s : List ℕ) (at a b : ℕ) : Type 0 where
  pub letter : get_or s at 0 ≡ 82
  pub room : at + 19 < length s
  pub feed : get_or s (at + 19) 0 ≡ 10
  pub level : field_at s (at + 1) ≡ Some a
  pub capacity : field_at s (at + 10) ≡ Some b

row_quick : (s : List ℕ) (at a b : ℕ) → RowBytes s at a b → line_at s at row_only ≡ row_read a b
unfolding good values letter_of
row_quick s at a b h =
    let pa : field_at s (at + 1 + 9 * 0) ≡ Some a = ap (λ (j : ℕ). field_at s j) (omega arith) ∙ h.level in
    let pb : field_at s (at + 1 + 9 * 1) ≡ Some b = ap (λ (j : ℕ). field_at s j) (omega arith) ∙ h.capacity in
    let n : Some (filled (a ∷ b ∷ []) 2) ≡ numbers_at s (at + 1) 2 = sym (simp (pa, pb)) in
    line_quick s at row_only Row 2 (sym (ap (λ (x : ℕ). letter_of x row_only) h.letter)) refl (omega arith) h.feed (filled (a ∷ b ∷ []) 2) n

pub row_some : (s : List ℕ) (at a b : ℕ) → RowBytes s at a b → Some (a, b) ≡ row_at s at
unfolding row_at
row_some s at a b h = sym (ap row_by (row_quick s at a b h))

-- a line that is read where only a row may come passes these tests
only_row : (b : ℕ) (l : Letter) → letter_of b row_only ≡ Some l → l ≡ Row
only_row b l = found (λ m. m ≡ Row) b l row_only ((λ e d. never (cc)), ((λ e d. refl), ((λ e d. never (cc)), ((λ e d. never (cc)), ((λ e d. never (cc)), tt)))))

row_bytes : (s : List ℕ) (at : ℕ) (line : Line) → line_at s at row_only ≡ Ok line → RowBytes s at (field_value (field_at s (at + 1))) (field_value (field_at s (at + 10)))
row_bytes s at line z =
    let h = is_line s at row_only line z in
    let r : line.letter ≡ Row = only_row (get_or s at 0) line.letter h.found in
    let e : feed_at s at ≡ at + 19 = omega (arith, rw r at h.place) in
    let g : good s (at + 1) 2 ≡ true = rw r at h.fields in
    record {
      letter = rw r at (from_letter row_only (get_or s at 0) line.letter h.found);
      room = omega (arith, h.within);
      feed = ap (λ (j : ℕ). get_or s j 0) (sym e) ∙ feed_byte s at h.within;
      level = number (at + 1) (at + 1 + 9 * 0) (omega arith) (good_at s (at + 1) 2 0 g (omega arith));
      capacity = number (at + 10) (at + 1 + 9 * 1) (omega arith) (good_at s (at + 1) 2 1 g (omega arith));
    }
  where
    number : (i j : ℕ) → j ≡ i → field_at s j ≡ Some (field_value (field_at s j)) → field_at s i ≡ Some (field_value (field_at s i))
    number i j e f = rw (← e) f

-- a row is found, or none is
row_cases : (s : List ℕ) (at : ℕ) → RowBytes s at (field_value (field_at s (at + 1))) (field_value (field_at s (at + 10))) ⊎ (row_at s at ≡ None)
unfolding row_at
row_cases s at = go (line_at s at row_only) refl
  where
    go : (x : Result Line Refusal) → line_at s at row_only ≡ x → RowBytes s at (field_value (field_at s (at + 1))) (field_value (field_at s (at + 10))) ⊎ (row_by x ≡ None)
    go (Ok line) e = inl (row_bytes s at line e)
    go (Err r) e = inr refl

pub row_none : (s : List ℕ) (at : ℕ) → ((a b : ℕ) → RowBytes s at a b → ⊥) → None ≡ row_at s at
row_none s at h = ⊎_elim (λ g. absurd (h _ _ g)) (λ (e : row_at s at ≡ None). sym e) (row_cases s at)

-- a row that is found is the line that is read
pub row_known : (s : List ℕ) (at a b : ℕ) → Some (a, b) ≡ row_at s at → line_at s at row_only ≡ row_read a b
row_known s at a b e =
    ⊎_elim
    (λ (h : RowBytes s at (field_value (field_at s (at + 1))) (field_value (field_at s (at + 10)))).
    let x : ℕ = field_value (field_at s (at + 1)) in
    let y : ℕ = field_value (field_at s (at + 10)) in
    let q : ◌≡◌ {A = Option (ℕ × ℕ)} (Some (a, b)) (Some (x, y)) = e ∙ sym (row_some s at x y h) in
    let p : ◌≡◌ {A = ℕ × ℕ} (a, b) (x, y) = cc in
    let first : a ≡ x = ap (λ (r : ℕ × ℕ). r.0) p in
    let second : b ≡ y = ap (λ (r : ℕ × ℕ). r.1) p in
    rw (first, second) (row_quick s at x y h))
    (λ (n : row_at s at ≡ None). never (cc))
    (row_cases s at)
