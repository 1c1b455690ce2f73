-- A float by its bits: the number that the exponent and the digits stand for, and the answer to it.
use Prim.Native.Nat.{ℕ, zero, suc, ◌+◌, ◌-◌, ◌*◌, ◌/◌, ◌%◌, ◌^◌, ◌≤◌, ◌<◌}
use mathlib.Core.Path.{◌≡◌, refl, sym, ap, ◌∙◌, subst}
use mathlib.Core.Bool.{Bool, true, false, cond}
use native.Mathlib.Nat.{mul-one, add_comm, eq_of_mul-eq-mul_right, mul-le-mul}
use native.Mathlib.Omega.{arith}
use lib.IntN.{pos}
use lib.Dec.{T, leb, eqb, eqb→eq, not_T}
use lib.Pow.{pow-add, pow_pos, pow_mono, field}
use lib.Bits.{bit_and, and_mask, mask_lt}
use lib.Ieee.{Float, nan, inf, fin, binary32, odd, of_fields, of_bits, to_bits, fits, le, up, down}
use lib.Ieee.Bits.{of_bits-to_bits, cond_no}
use lib.Ieee.Exact.{HasValue, odd_sign}
use Rattle.base.specs.Answer.{Answer, refusal}
use Rattle.probe_spec.specs.Tenths.{no_number, tenths_answer}
use Rattle.probe_spec.specs.Nearest.{TenthsOfFraction}
use Rattle.probe_spec.proofs.Answers.{no_number_lem}
use Rattle.probe_spec.proofs.Comparing.{passed}
use Rattle.probe_spec.proofs.Nearest.{of_number_lem, one_answer, from_2^24}

-- The sign, the exponent and the digits, as the code cuts the last two out.

fields : (b : ℕ) → of_bits binary32 b ≡ of_fields binary32 (leb (2 ^ 31) b) (bit_and (b / 2 ^ 23) 255) (bit_and b 8_388_607)
unfolding of_bits
fields b =
    ap (λ (e : ℕ). of_fields binary32 (leb (2 ^ 31) b) e (b % 2 ^ 23)) (field b 8 23 ∙ sym (and_mask (b / 2 ^ 23) 8))
    ∙ ap (λ (t : ℕ). of_fields binary32 (leb (2 ^ 31) b) (bit_and (b / 2 ^ 23) 255) t) (sym (and_mask b 23))

-- What they stand for, by the exponent: no leading one, a leading one, an infinity or not a number.

no_lead : (s : Bool) (t : ℕ) → HasValue (of_fields binary32 s 0 t) s t (2 ^ 149)
unfolding of_fields
no_lead s t = subst (λ (a : ℕ). HasValue (odd 24 s t 0 149) s a (2 ^ 149)) (mul-one t) (odd_sign 24 s t 0 149)

not_top : (j : ℕ) → suc j < 255 → suc j ≡ 255 → ⊥
not_top j h e = omega arith

lead : (s : Bool) (j t : ℕ) → suc j < 255 → HasValue (of_fields binary32 s (suc j) t) s ((t + 2 ^ 23) * 2 ^ j) (2 ^ 149)
unfolding of_fields
lead s j t h =
    let v = odd 24 s (2 ^ 23 + t) j 149 in
    let is : of_fields binary32 s (suc j) t ≡ v =
    cond_no (eqb (suc j) 255) (cond (eqb t 0) (inf s) nan) v (not_T (eqb (suc j) 255) (λ (u : T (eqb (suc j) 255)). not_top j h (eqb→eq (suc j) 255 u))) in
    subst (λ (x : Float). HasValue x s ((t + 2 ^ 23) * 2 ^ j) (2 ^ 149)) (sym is)
    (subst (λ (q : ℕ). HasValue v s (q * 2 ^ j) (2 ^ 149)) (add_comm (2 ^ 23) t) (odd_sign 24 s (2 ^ 23 + t) j 149))

top : (s : Bool) (t : ℕ) → no_number (of_fields binary32 s 255 t) ≡ true
unfolding of_fields no_number
top s t = go (eqb t 0)
  where
    go : (b : Bool) → no_number (cond b (inf s) nan) ≡ true
    go true = refl
    go false = refl

-- A fraction in lower terms.

lower : (x : Float) (s : Bool) (a c k : ℕ) → 0 < k → HasValue x s (a * k) (c * k) → HasValue x s a c
lower nan s a c k K v = v
lower (inf t) s a c k K v = v
lower (fin t m e) s a c k K v = (v.0, eq_of_mul-eq-mul_right k K (m * up e * c) (a * down e) (omega (arith, v.1)))

together : (j : ℕ) → suc j ≤ 150 → 2 ^ 149 ≡ 2 ^ (150 - suc j) * 2 ^ j
together j h = let k : 149 ≡ 150 - suc j + j = omega arith in ap (λ (i : ℕ). 2 ^ i) k ∙ pow-add 2 (150 - suc j) j

-- The answer to a float that is not below zero, from its sign, exponent and digits.

module _ (x : Float) (above : le (fin false 0 (pos 0)) x ≡ true) (s : Bool) where
  by_value : (a c : ℕ) → 0 < c → HasValue x s a c → TenthsOfFraction a c (tenths_answer x)
  by_value a c C v = of_number_lem x s a c C (passed x s a c v above) v

  small : (e t : ℕ) → of_fields binary32 s e t ≡ x → e ≡ 0 → TenthsOfFraction t (2 ^ 149) (tenths_answer x)
  small zero t is z = by_value t (2 ^ 149) (pow_pos 149) (subst (λ (y : Float). HasValue y s t (2 ^ 149)) is (no_lead s t))
  small (suc j) t is z = absurd (omega arith)

  middle : (e t : ℕ) → of_fields binary32 s e t ≡ x → (e ≡ 0 → ⊥) → e ≤ 150 → TenthsOfFraction (t + 2 ^ 23) (2 ^ (150 - e)) (tenths_answer x)
  middle zero t is n h = absurd (n refl)
  middle (suc j) t is n h =
      let q = t + 2 ^ 23 in
      let c = 2 ^ (150 - suc j) in
      let v : HasValue x s (q * 2 ^ j) (2 ^ 149) = subst (λ (y : Float). HasValue y s (q * 2 ^ j) (2 ^ 149)) is (lead s j t (omega arith)) in
      by_value q c (pow_pos (150 - suc j)) (lower x s q c (2 ^ j) (pow_pos j) (subst (λ (d : ℕ). HasValue x s (q * 2 ^ j) d) (together j h) v))

  great : (e t : ℕ) → of_fields binary32 s e t ≡ x → 150 < e → e < 255 → refusal 32 ≡ tenths_answer x
  great zero t is l h = absurd (omega arith)
  great (suc j) t is l h =
      let a = (t + 2 ^ 23) * 2 ^ j in
      let i : 150 ≤ j = omega arith in
      let k : 2 ^ 23 ≤ t + 2 ^ 23 = omega arith in
      from_2^24 (mul-le-mul k (pow_mono i)) (by_value a (2 ^ 149) (pow_pos 149) (subst (λ (y : Float). HasValue y s a (2 ^ 149)) is (lead s j t h)))

-- The same from its bits.

module _ (x : Float) (held : T (fits binary32 x)) where
  abbrev sign : Bool
  sign = leb (2 ^ 31) (to_bits binary32 x)

  abbrev exponent : ℕ
  exponent = bit_and (to_bits binary32 x / 2 ^ 23) 255

  abbrev digits : ℕ
  digits = bit_and (to_bits binary32 x) 8_388_607

  parts : of_fields binary32 sign exponent digits ≡ x
  parts = sym (fields (to_bits binary32 x)) ∙ of_bits-to_bits binary32 x held

  pub few_digits : digits < 2 ^ 23
  few_digits = mask_lt (to_bits binary32 x) 23

  pub infinite : 255 ≤ exponent → refusal 31 ≡ tenths_answer x
  infinite h =
      let e : exponent ≡ 255 = omega (arith, mask_lt (to_bits binary32 x / 2 ^ 23) 8) in
      sym (no_number_lem x (subst (λ (y : Float). no_number y ≡ true) parts (rw e (top sign digits))))

  module _ (above : le (fin false 0 (pos 0)) x ≡ true) {p : Answer} where
    pub of_digits : exponent ≡ 0 → TenthsOfFraction digits (2 ^ 149) p → p ≡ tenths_answer x
    of_digits z a = one_answer a (small x above sign exponent digits parts z)

    pub of_significand : (exponent ≡ 0 → ⊥) → exponent ≤ 150 → TenthsOfFraction (digits + 2 ^ 23) (2 ^ (150 - exponent)) p → p ≡ tenths_answer x
    of_significand n h a = one_answer a (middle x above sign exponent digits parts n h)

  pub of_great : le (fin false 0 (pos 0)) x ≡ true → 150 < exponent → exponent < 255 → refusal 32 ≡ tenths_answer x
  of_great above = great x above sign exponent digits parts
