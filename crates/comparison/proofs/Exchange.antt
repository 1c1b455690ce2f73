-- Stick and tape exchanged, the tape's readings being all alike: the difference turns its sign, the verdict and every refusal stay.
use Prim.Native.Nat.{ℕ, zero, suc, ◌*◌, ◌≤◌, ◌<◌}
use mathlib.Core.Path.{◌≡◌, sym, ap, ap₂, ◌∙◌, subst}
use mathlib.Core.Bool.{Bool}
use mathlib.Core.List.{List, [], ◌∷◌}
use mathlib.Core.Logic.{inl, inr}
use Rattle.std.proofs.Common.{Result, Ok, Err}
use native.Mathlib.Omega.{arith}
use lib.ListN.{length, get_or}
use lib.Seq.{length-take-le, get_or-take}
use Rattle.base.specs.declared.refusal.Refusal.{Refusal}
use Rattle.base.specs.Limits.{in_tenths}
use Rattle.base.specs.Lists.{Each}
use Rattle.base.specs.Total.{total}
use Rattle.comparison.specs.declared.Difference.{Difference}
use Rattle.comparison.specs.declared.Comparison.{Comparison}
use Rattle.comparison.specs.Difference.{parts, signed, close}
use Rattle.comparison.specs.Answers.{most_readings, given, sum_of, check_answer, check_told}
use Rattle.comparison.specs.Told.{CountInRange, LevelsInRange, ComparisonRight, ToldRight, ToldOnly}
use Rattle.comparison.specs.Exchange.{turned, ComparisonTurned, Turned, AllAt, ExchangeRight}
use Rattle.comparison.specs.Card.{ChecksRight}
use Rattle.comparison.proofs.AgainstCard.{checks_right}
use Rattle.comparison.proofs.Signed.{signed_only, pass_only}
use Rattle.comparison.proofs.Told.{told_right, told_only}
use Rattle.comparison.proofs.Turned.{close_turned, signed_turned}

same_difference : (d e : Difference) → d.negative ≡ e.negative → d.size ≡ e.size → d ≡ e
same_difference d e p q = ap₂ {A = Bool} {B = ℕ} {C = Difference} (λ n s. record { negative = n; size = s }) p q

-- Readings that are all alike.

alike_sum : (level : ℕ) (l : List ℕ) → Each (λ (mm : ℕ). mm ≡ level) l → sum_of l ≡ level * length l
unfolding total
alike_sum level [] h = omega arith
alike_sum level (mm ∷ l) (h, hs) = omega (arith, h, alike_sum level l hs)

alike_at : (level : ℕ) (l : List ℕ) → Each (λ (mm : ℕ). mm ≡ level) l → (i : ℕ) → i < length l → get_or l i 0 ≡ level
alike_at level [] h i k = absurd (omega arith)
alike_at level (mm ∷ l) (h, hs) zero k = h
alike_at level (mm ∷ l) (h, hs) (suc i) k = alike_at level l hs i (omega arith)

-- A tape that reads one level in mm, a stick that stands at another.
module _ (count stood read : ℕ) (places : List ℕ) (full : length places ≡ most_readings) (alike : AllAt read count places) (c : CountInRange count) where
  room : count ≤ length places
  room = omega (arith, full, c.most)

  sum_given : in_tenths (sum_of (given count places)) ≡ in_tenths read * count
  sum_given = omega (arith, alike_sum read (given count places) alike, ap (λ (n : ℕ). read * n) (length-take-le count places room))

  pub at_given : (i : ℕ) → i < count → get_or places i 0 ≡ read
  at_given i h = sym (get_or-take count places i 0 h) ∙ alike_at read (given count places) alike i (rw (length-take-le count places room) h)

  -- what is shown, over the two levels
  pub by_levels : (x : Comparison) → ComparisonRight (in_tenths stood) count places x
      → (x.difference ≡ signed (in_tenths stood * count) (in_tenths read * count) (parts count))
      × (x.passes ≡ close (in_tenths stood * count) (in_tenths read * count) (parts count))
  by_levels x f =
      let p : 0 < count = omega (arith, c.least) in
      let sum = sum_of (given count places) in
      let a = in_tenths stood * count in
      let d = parts count in
      let r = signed_only (in_tenths stood) sum count p c.most x.difference.negative x.difference.size f.difference in (
        same_difference x.difference (signed a (in_tenths sum) d) r.0 r.1 ∙ ap (λ (n : ℕ). signed a n d) sum_given,
        pass_only (in_tenths stood) sum count p c.most x.difference.size x.passes f.passes ∙ ap (λ (n : ℕ). close a n d) sum_given,
      )

-- the levels are in range after the exchange where they were before it
levels_exchanged : (count stood read : ℕ) (places others : List ℕ) → length places ≡ most_readings → length others ≡ most_readings
    → AllAt read count places → AllAt stood count others
    → CountInRange count → LevelsInRange (in_tenths stood) count places → LevelsInRange (in_tenths read) count others
levels_exchanged count stood read places others full full' alike alike' c h = record {
  readings = λ i k. rw (at_given count read stood others full' alike' c i k) (omega (arith, h.level.least, h.level.most));
  level =
      let first = h.readings 0 (omega (arith, c.least)) in
      omega (arith, at_given count stood read places full alike c 0 (omega (arith, c.least)), first.least, first.most);
}

-- Before the exchange and after it.
module _ (count stood read : ℕ) (places others : List ℕ) (full : length places ≡ most_readings) (full' : length others ≡ most_readings)
    (alike : AllAt read count places) (alike' : AllAt stood count others) where
  there : CountInRange count → LevelsInRange (in_tenths stood) count places → LevelsInRange (in_tenths read) count others
  there = levels_exchanged count stood read places others full full' alike alike'

  back : CountInRange count → LevelsInRange (in_tenths read) count others → LevelsInRange (in_tenths stood) count places
  back = levels_exchanged count read stood others places full' full alike' alike

  figures_turned : (x y : Comparison) → ComparisonRight (in_tenths stood) count places x → ComparisonRight (in_tenths read) count others y → ComparisonTurned read x y
  figures_turned x y f g =
      let c = f.counted in
      let a = in_tenths stood * count in
      let b = in_tenths read * count in
      let d = parts count in
      let h = by_levels count stood read places full alike c x f in
      let k = by_levels count read stood others full' alike' c y g in
      record {
        difference = k.0 ∙ signed_turned a b d (omega (arith, c.least)) (omega (arith, c.most)) ∙ ap turned (sym h.0);
        passes = k.1 ∙ close_turned a b d ∙ sym h.1;
        allowance = g.allowance;
      }

  turned_told : (a b : Result Comparison Refusal) → ToldRight (in_tenths stood) count places a → ToldRight (in_tenths read) count others b → Turned read a b
  turned_told (Ok x) (Ok y) f g = figures_turned x y f g
  turned_told (Ok x) (Err s) f (inl g) = g.1 f.counted
  turned_told (Ok x) (Err s) f (inr g) = g.2 (there g.1 f.levels)
  turned_told (Err r) (Ok y) (inl f) g = f.1 g.counted
  turned_told (Err r) (Ok y) (inr f) g = f.2 (back f.1 g.levels)
  turned_told (Err r) (Err s) (inl f) (inl g) = g.0 ∙ sym f.0
  turned_told (Err r) (Err s) (inl f) (inr g) = absurd (f.1 g.1)
  turned_told (Err r) (Err s) (inr f) (inl g) = absurd (g.1 f.1)
  turned_told (Err r) (Err s) (inr f) (inr g) = g.0 ∙ sym f.0

exchange_right : (stick count : ℕ) (places : List ℕ) (a : Result Comparison Refusal) → length places ≡ most_readings → check_told a ≡ check_answer stick count places → ExchangeRight stick count places a
exchange_right stick count places a full w = λ stood read others b e alike alike' full' v.
    turned_told count stood read places others full full' alike alike' a b
    (subst (λ (n : ℕ). ToldRight n count places a) e (told_right stick count places full a w))
    (told_right (in_tenths read) count others full' b v)

-- all that is said of an answer
pub check_right : (stick count : ℕ) (places : List ℕ) (a : Result Comparison Refusal) → length places ≡ most_readings → check_told a ≡ check_answer stick count places
    → (check_told a ≡ check_answer stick count places) × ToldOnly stick count places a × ExchangeRight stick count places a × ChecksRight
check_right stick count places a full w = (w, told_only stick count places full a w, exchange_right stick count places a full w, checks_right)
