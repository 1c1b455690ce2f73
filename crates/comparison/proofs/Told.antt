-- The answer by its tests and over parts, and the answer as it is told without them, are one, both ways.
use Prim.Native.Nat.{ℕ, ◌≤◌}
use mathlib.Core.Path.{◌≡◌, refl, sym, ◌∙◌}
use mathlib.Core.Bool.{Bool, true, false, true≢false}
use mathlib.Core.List.{List}
use mathlib.Core.Logic.{inl, inr, ⊎_elim}
use Rattle.std.proofs.Common.{Result, Ok, Err}
use native.Mathlib.Omega.{arith}
use lib.ListN.{length}
use Rattle.base.specs.declared.refusal.Refusal.{Refusal}
use Rattle.base.specs.Refusal.{refusal_number}
use Rattle.base.specs.Answer.{first}
use Rattle.base.specs.Numbers.{one_if}
use Rattle.base.proofs.Choice.{never}
use Rattle.base.proofs.Answer.{neither_applies, either_applies, answer_figures, answer_refusal}
use Rattle.comparison.specs.declared.Comparison.{Comparison}
use Rattle.comparison.specs.Answers.{most_readings, given, sum_of, count_bad, level_bad, check_tests, comparison_of, four_figures, check_answer, check_told}
use Rattle.comparison.specs.Told.{ToldRight, ToldOnly}
use Rattle.comparison.proofs.Signed.{signed_right, signed_only, pass_right, pass_only}
use Rattle.comparison.proofs.Ranges.{count_in, count_in_back, levels_in, levels_in_back}

-- A test that applies, and what it tests.

not_so : {P : Type 0} {b : Bool} → b ≡ true → (P → b ≡ false) → P → ⊥
not_so e f h = true≢false (sym e ∙ f h)

applies : {P : Type 0} (b : Bool) → (b ≡ false → P) → (P → ⊥) → b ≡ true
applies true f n = refl
applies false f n = absurd (n (f refl))

-- Figures as numbers, and what they stand for.

one_same : (b c : Bool) → one_if b ≡ one_if c → b ≡ c
one_same true true e = refl
one_same true false e = never (cc)
one_same false true e = never (cc)
one_same false false e = refl

record Same (x y : Comparison) : Type 0 where
  pub negative : x.difference.negative ≡ y.difference.negative
  pub size : x.difference.size ≡ y.difference.size
  pub passes : x.passes ≡ y.passes
  pub allowance : x.allowance ≡ y.allowance

same_figures : (x y : Comparison) → four_figures x ≡ four_figures y → Same x y
same_figures x y e = record {
  negative = one_same x.difference.negative y.difference.negative cc;
  size = cc;
  passes = one_same x.passes y.passes cc;
  allowance = cc;
}

module _ (stick count : ℕ) (places : List ℕ) (full : length places ≡ most_readings) where
  room : count_bad count ≡ false → count ≤ length places
  room e = omega (arith, full, (count_in count e).most)

  pub told_right : (a : Result Comparison Refusal) → check_told a ≡ check_answer stick count places → ToldRight stick count places a
  unfolding check_answer
  told_right (Ok x) w =
      let h = answer_figures (first (check_tests stick count places)) w in
      let t = neither_applies 28 29 (count_bad count) (level_bad stick (given count places)) h.0 in
      let s = same_figures x (comparison_of stick count places) h.1 in
      let c = count_in count t.0 in
      let sum = sum_of (given count places) in
      record {
        counted = c;
        levels = levels_in stick count places (room t.0) t.1;
        difference = rw (s.negative, s.size) (signed_right stick sum count (omega (arith, c.least)) c.most);
        passes = rw (s.size, s.passes) (pass_right stick sum count (omega (arith, c.least)) c.most);
        allowance = s.allowance;
      }
  told_right (Err r) w =
      ⊎_elim
      (λ (h : (refusal_number r ≡ 28) × (count_bad count ≡ true)). inl (h.0, not_so h.1 (count_in_back count)))
      (λ (h : (refusal_number r ≡ 29) × (count_bad count ≡ false) × (level_bad stick (given count places) ≡ true)).
      inr (h.0, count_in count h.1, not_so h.2 (levels_in_back stick count places (room h.1))))
      (either_applies 28 29 (count_bad count) (level_bad stick (given count places)) (answer_refusal (first (check_tests stick count places)) (four_figures (comparison_of stick count places)) w))

  pub right_told : (a : Result Comparison Refusal) → ToldRight stick count places a → check_told a ≡ check_answer stick count places
  unfolding check_answer
  right_told (Ok x) f =
      let c = f.counted in
      let sum = sum_of (given count places) in
      let d = signed_only stick sum count (omega (arith, c.least)) c.most x.difference.negative x.difference.size f.difference in
      let p = pass_only stick sum count (omega (arith, c.least)) c.most x.difference.size x.passes f.passes in
      let e = count_in_back count c in
      rw (e, levels_in_back stick count places (room e) f.levels, d.0, d.1, p, f.allowance) refl
  right_told (Err r) (inl h) = rw (h.0, applies (count_bad count) (count_in count) h.1) refl
  right_told (Err r) (inr h) =
      let e = count_in_back count h.1 in
      rw (h.0, e, applies (level_bad stick (given count places)) (levels_in stick count places (room e)) h.2) refl

  pub told_only : (a : Result Comparison Refusal) → check_told a ≡ check_answer stick count places → ToldOnly stick count places a
  told_only a w = record { right = told_right a w; only = λ b r. right_told b r ∙ sym w }
