-- Columns that hold the end of a number, and what is seen past them.
use Prim.Native.Nat.{ℕ, ◌+◌, ◌*◌, ◌/◌, ◌%◌, ◌≤◌, ◌<◌}
use mathlib.Core.Path.{◌≡◌, ap, sym, ◌∙◌}
use mathlib.Core.Logic.{◌⊎◌, inl, ⊎_elim}
use mathlib.Core.Bool.{true}
use mathlib.Core.List.{List}
use Rattle.std.specs.Prelude.{Some}
use native.Mathlib.Nat.{add-zero}
use native.Mathlib.Omega.{arith}
use lib.ListN.{get_or}
use lib.Dec.{eqb}
use borrow.Author.Tests.{eq-eqb, ne_eqb}
use Rattle.base.specs.Limits.{largest}
use Rattle.field.specs.declared.Seen.{Seen}
use Rattle.field.specs.declared.Seen.TheVariants.{Blank, Digits}
use Rattle.field.specs.Field.{column_of, glyph_of, seen_to, finish, field_at}
use Rattle.field.proofs.RoundTrip.{seen_of, one_more_lem, glyph_more}
use Rattle.quick.specs.declared.Four.{Four}
use Rattle.quick.specs.Inner.{first_four, last_four, DigitsOf, past_two, past_four, ShortOf, HighOf}

-- the column of m's last digit: a space where m is 0
abbrev pub Shown : ℕ → ℕ → Type 0
Shown b m = ((b ≡ 48 + m % 10) × (0 < m)) ⊎ ((b ≡ 32) × (m ≡ 0))

one_shown : (x : Seen) (b m : ℕ) → m ≤ largest → x ≡ seen_of (m / 10) → Shown b m → column_of x b ≡ seen_of m
one_shown x b m h e g = ap (λ (z : ℕ). column_of x z) glyph ∙ ap (λ (z : Seen). column_of z (glyph_of m)) e ∙ glyph_more m h
  where
    glyph : b ≡ glyph_of m
    glyph =
        ⊎_elim
        (λ (w : (b ≡ 48 + m % 10) × (0 < m)). w.0 ∙ simp (ne_eqb m 0 (λ z. omega arith)))
        (λ (w : (b ≡ 32) × (m ≡ 0)). w.0 ∙ simp (eq-eqb m 0 w.1))
        g

two_shown : (x : Seen) (c d m : ℕ) → m ≤ largest → x ≡ seen_of (m / 10 / 10) → Shown c (m / 10) → d ≡ 48 + m % 10 → past_two x c d ≡ Digits m
two_shown x c d m h e g q =
    ap (λ (z : ℕ). column_of (column_of x c) z) q ∙ ap (λ (z : Seen). column_of z (48 + m % 10)) (one_shown x c (m / 10) (omega arith) e g) ∙ one_more_lem m h

four_shown : (x : Seen) (f : Four) (m : ℕ) → m ≤ largest → x ≡ seen_of (m / 10 / 10 / 10 / 10)
    → Shown f.a (m / 10 / 10 / 10) → Shown f.b (m / 10 / 10) → Shown f.c (m / 10) → f.d ≡ 48 + m % 10 → past_four x f ≡ Digits m
four_shown x f m h e i j k q =
    two_shown _ f.c f.d m h (one_shown _ f.b (m / 10 / 10) (omega arith) (one_shown x f.a (m / 10 / 10 / 10) (omega arith) e i) j) k q

blank : (m : ℕ) → m ≡ 0 → Blank ≡ seen_of m
unfolding seen_of
blank m e = simp (eq-eqb m 0 e)

-- Behind spaces: four columns, and two.

pub short_seen : (f : Four) (n : ℕ) → n ≤ 9_999 → Shown f.a (n / 10 / 10 / 10) → Shown f.b (n / 10 / 10) → Shown f.c (n / 10) → f.d ≡ 48 + n % 10 → ShortOf f n
short_seen f n h = four_shown Blank f n (omega arith) (blank _ (omega arith))

pub high_seen : (c d n : ℕ) → 1 ≤ n → n ≤ 99 → Shown c (n / 10) → d ≡ 48 + n % 10 → HighOf c d n
high_seen c d n l h g q = record { seen = two_shown Blank c d n (omega arith) (blank _ (omega arith)) g q; some = l; most = h }

-- Four digits behind a number.

digits_seen : (f : Four) (u n : ℕ) → 1 ≤ u → u ≤ 99 → DigitsOf 0 f.a f.b f.c f.d n → past_four (Digits u) f ≡ Digits (10_000 * u + n)
unfolding seen_of
digits_seen f u n l h g =
    let b : f.b ≡ 48 + n / 10 / 10 % 10 = omega arith in
    let p : (10_000 * u + n) / 10 / 10 / 10 / 10 ≡ u = omega arith in
    let q : (10_000 * u + n) / 10 / 10 ≡ 100 * u + n / 10 / 10 = omega arith in
    four_shown (Digits u) f (10_000 * u + n) (omega arith) (simp (p, ne_eqb u 0 (λ z. omega arith)))
    (inl (omega arith, omega arith)) (inl (omega arith, omega arith)) (inl (omega arith, omega arith)) (omega arith)

-- The whole field.

module _ (s : List ℕ) (at : ℕ) (f l : Four) (ef : f ≡ first_four s at) (el : l ≡ last_four s at) (z : get_or s at 0 ≡ 32) (a : eqb f.a 32 ≡ true) (b : eqb f.b 32 ≡ true) where
  read : (x : Seen) (n : ℕ) → past_two Blank f.c f.d ≡ x → past_four x l ≡ Digits n → Some n ≡ field_at s at
  unfolding field_at seen_to
  read x n e g =
      let four : past_four Blank (first_four s at) ≡ x = ap (λ (f : Four). past_four Blank f) (sym ef) ∙ simp (a, b) e in
      sym
      (ap (λ (b : ℕ). finish (past_four (past_four (column_of Blank b) (first_four s at)) (last_four s at))) (ap (λ (i : ℕ). get_or s i 0) (add-zero at) ∙ z)
      ∙ ap (λ (y : Seen). finish (past_four y (last_four s at))) four
      ∙ ap (λ (l : Four). finish (past_four x l)) (sym el)
      ∙ ap (λ (y : Seen). finish y) g)

  pub short_read : (n : ℕ) → eqb f.c 32 ≡ true → eqb f.d 32 ≡ true → ShortOf l n → Some n ≡ field_at s at
  short_read n c d g = read Blank n (simp (c, d)) g

  pub long_read : (high low : ℕ) → HighOf f.c f.d high → DigitsOf 0 l.a l.b l.c l.d low → Some (10_000 * high + low) ≡ field_at s at
  long_read high low h g = read (Digits high) (10_000 * high + low) h.seen (digits_seen l high low h.some h.most g)
