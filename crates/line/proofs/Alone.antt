-- A line read alone is read off its bytes up to the first line feed.
use Prim.Native.Nat.{ℕ, zero, suc, ◌+◌, ◌-◌, ◌*◌, ◌≤◌, ◌<◌}
use mathlib.Core.Path.{◌≡◌, refl, ap, sym, ◌∙◌}
use mathlib.Core.Bool.{Bool, true, false, cond}
use mathlib.Core.List.{List, [], ◌∷◌, ◌++◌}
use Rattle.std.specs.Prelude.{Option, Some, None, Result, Ok, Err}
use native.Mathlib.Nat.{zero-add}
use native.Mathlib.Omega.{arith}
use lib.ListN.{length, get_or, take, length-append, get_or-append}
use lib.Seq.{get_or-take, length-take-le}
use lib.Dec.{eqb}
use borrow.Author.Tests.{eqb-true, eqb-false, lt-ltb}
use Rattle.base.specs.declared.refusal.Refusal.{Refusal}
use Rattle.base.specs.declared.refusal.Refusal.TheVariants.{LineLength, NotNumber}
use Rattle.field.specs.Field.{field_at}
use Rattle.field.proofs.Reading.{field_same}
use Rattle.reading.specs.declared.letter.Letter.{Letter}
use Rattle.reading.specs.declared.letter.Line.{Line}
use Rattle.reading.specs.Letter.{count_of}
use Rattle.reading.specs.Reading.{letter_of, feed, feed_at, is_number, field_value, good, values, filled, line_by, any, line_at}
use Rattle.line.specs.Alone.{read_line, EndsAtFeed}
use Rattle.reading.proofs.Fields.{feed_run, feed_byte}

-- no byte before the first line feed is one
before_feed : (s : List ℕ) (i : ℕ) → i < feed s → get_or s i 0 ≡ 10 → ⊥
unfolding feed
before_feed [] i h e = omega arith
before_feed (b ∷ s) i h e = go (λ j. before_feed s j) i (eqb b 10) refl h e
  where
    go : ((j : ℕ) → j < feed s → get_or s j 0 ≡ 10 → ⊥) → (i : ℕ) (t : Bool) → eqb b 10 ≡ t → i < cond t 0 (suc (feed s)) → get_or (b ∷ s) i 0 ≡ 10 → ⊥
    go later i true f h e = omega arith
    go later zero false f h e = eqb-false b 10 f e
    go later (suc i) false f h e = later i (omega arith) e

-- fields are read off their columns
fields_same : (s t : List ℕ) (at k : ℕ) → ((i : ℕ) → i < 9 * k → get_or s (at + i) 0 ≡ get_or t (at + i) 0) → (good s at k ≡ good t at k) × (values s at k ≡ values t at k)
unfolding good values
fields_same s t at zero h = (refl, refl)
fields_same s t at (suc k) h =
    let r = fields_same s t at k (λ i l. h i (omega arith)) in
    let f : field_at s (at + 9 * k) ≡ field_at t (at + 9 * k) =
    field_same s t (at + 9 * k) (λ i l. let p : at + 9 * k + i ≡ at + (9 * k + i) = omega arith in rw p (h (9 * k + i) (omega arith))) in (
      ap (λ (x : Bool). cond x (is_number (field_at s (at + 9 * k))) false) r.0 ∙ ap (λ (x : Option ℕ). cond (good t at k) (is_number x) false) f,
      ap (λ (x : List ℕ). x ++ (field_value (field_at s (at + 9 * k)) ∷ [])) r.1 ∙ ap (λ (x : Option ℕ). values t at k ++ (field_value x ∷ [])) f,
    )

module _ (s t : List ℕ) (e : ℕ) (h : (i : ℕ) → i ≤ e → get_or s i 0 ≡ get_or t i 0) where
  by_same : (f : Option Letter) → line_by s 0 e f ≡ line_by t 0 e f
  unfolding line_by
  by_same None = refl
  by_same (Some l) = go (eqb (e - 0) (1 + 9 * count_of l)) refl
    where
      inner : List ℕ → Result Line Refusal
      inner u =
          cond (good u (0 + 1) (count_of l)) (Ok (record { letter = l; numbers = filled (values u (0 + 1) (count_of l)) (count_of l) })) (Err NotNumber)

      go : (b : Bool) → eqb (e - 0) (1 + 9 * count_of l) ≡ b → cond b (inner s) (Err LineLength) ≡ cond b (inner t) (Err LineLength)
      go false p = refl
      go true p =
          let n : e - 0 ≡ 1 + 9 * count_of l = eqb-true (e - 0) (1 + 9 * count_of l) p in
          let r = fields_same s t (0 + 1) (count_of l) (λ i q. h (0 + 1 + i) (omega arith)) in
          simp (r.0, r.1)

  line_same : e < length s → e < length t → feed_at s 0 ≡ e → feed_at t 0 ≡ e → read_line s ≡ read_line t
  unfolding line_at
  line_same ls lt fs ft =
      simp (fs, ft, lt-ltb e (length s) ls, lt-ltb e (length t) lt)
      (by_same (letter_of (get_or s 0 0) any) ∙ ap (λ (b : ℕ). line_by t 0 e (letter_of b any)) (h 0 (omega arith)))

pub ends_at_feed : (s : List ℕ) → EndsAtFeed s (read_line s)
unfolding feed_at
ends_at_feed s = record {
  same = λ rest l.
      let e : ℕ = feed s in
      let p : List ℕ = take (e + 1) s in
      let n : length p ≡ e + 1 = length-take-le (e + 1) s (omega arith) in
      let h : (i : ℕ) → i ≤ e → get_or (p ++ rest) i 0 ≡ get_or s i 0 = λ i k. get_or-append p rest 0 i (omega arith) ∙ get_or-take (e + 1) s i 0 (omega arith) in
      let fs : feed_at s 0 ≡ e = zero-add e in
      let ft : feed_at (p ++ rest) 0 ≡ 0 + e =
      feed_run e (p ++ rest) 0 (λ i k z. before_feed s i k (sym (h i (omega arith)) ∙ ap (λ (j : ℕ). get_or (p ++ rest) j 0) (sym (zero-add i)) ∙ z)) (simp length-append (omega arith))
      (h (0 + e) (omega arith) ∙ ap (λ (j : ℕ). get_or s j 0) (zero-add e ∙ sym fs) ∙ feed_byte s 0 (rw fs l)) in
      line_same (p ++ rest) s e h (simp length-append (omega arith)) l (ft ∙ zero-add e) fs;
}
