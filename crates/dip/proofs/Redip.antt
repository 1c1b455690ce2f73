-- 23 by the three closest readings is 23 by counting: both triples of neighbours span more than 3 mm exactly where no 3 mm hold three readings.
use Prim.Native.Nat.{ℕ, ◌+◌, ◌-◌, ◌≤◌, ◌<◌}
use mathlib.Core.Path.{◌≡◌, refl, sym, ap, ◌∙◌, subst}
use mathlib.Core.Bool.{Bool, true, false, cond, ◌&&◌}
use mathlib.Core.List.{List, [], ◌∷◌}
use mathlib.Core.Logic.{inl, inr}
use native.Mathlib.Omega.{arith}
use borrow.Author.Tests.{ltb-true, lt-ltb, leb-true, le-leb, eqb-true}
use lib.Dec.{ltb, leb, eqb}
use lib.ListN.{length, get_or}
use Rattle.base.specs.Answer.{refuse_if, first, Answer, refusal, answer}
use Rattle.base.proofs.Choice.{below, never, both_hold, cond_either}
use Rattle.dip.specs.Level.{inserted, sorted, closest_of, apart, span, mean_level, unused_bad, disagree, scattered, mean_level_answer}
use Rattle.dip.specs.Redip.{held_from, RedipRight}
use Rattle.dip.proofs.Sorting.{sort_four, elements_of_four, Rising, rising, of_closest}

-- 1 for a reading within the 3 mm from w on, else 0
abbrev within : ℕ → ℕ → ℕ
within w y = cond (leb w y && leb y (w + 3)) 1 0

within_is : (w y : ℕ) → w ≤ y → y ≤ w + 3 → within w y ≡ 1
within_is w y l m = rw (le-leb w y l, le-leb y (w + 3) m)

-- of two readings more than 3 mm apart at most one
not_both : (w a c : ℕ) → 3 < c - a → within w a + within w c ≤ 1
not_both w a c far = go (leb w a && leb a (w + 3)) refl (leb w c && leb c (w + 3)) refl
  where
    go : (s : Bool) → (leb w a && leb a (w + 3)) ≡ s → (t : Bool) → (leb w c && leb c (w + 3)) ≡ t → cond s 1 0 + cond t 1 0 ≤ 1
    go true e true f =
        let low = leb-true w a (both_hold (leb w a) (leb a (w + 3)) e).0 in
        let high = leb-true c (w + 3) (both_hold (leb w c) (leb c (w + 3)) f).1 in
        absurd (omega arith)
    go true e false f = omega arith
    go false e true f = omega arith
    go false e false f = omega arith

-- Sorting does not change the count.

held_inserted : (w a : ℕ) (ps : List ℕ) → held_from w (inserted a ps) ≡ within w a + held_from w ps
held_inserted w a [] = refl
held_inserted w a (p ∷ ps) =
    cond_either
    (λ (l : List ℕ). held_from w l ≡ within w a + held_from w (p ∷ ps)) (leb a p) (a ∷ p ∷ ps) (p ∷ inserted a ps)
    (λ _. refl)
    (λ _. omega (arith, held_inserted w a ps))

held_sorted : (w : ℕ) (x : List ℕ) → held_from w (sorted x) ≡ held_from w x
held_sorted w [] = refl
held_sorted w (a ∷ xs) = held_inserted w a (sorted xs) ∙ ap (λ (k : ℕ). within w a + k) (held_sorted w xs)

-- Four readings in rising order: both triples of neighbours span more than 3 mm.
abbrev Wide : List ℕ → Type 0
Wide s = (3 < get_or s 2 0 - get_or s 0 0) × (3 < get_or s 3 0 - get_or s 1 0)

wide_few : (s : List ℕ) → length s ≡ 4 → Wide s → (w : ℕ) → held_from w s < 3
wide_few s e h w =
    let a = get_or s 0 0 in
    let b = get_or s 1 0 in
    let c = get_or s 2 0 in
    let d = get_or s 3 0 in
    rw (elements_of_four s e) (omega (arith, not_both w a c h.0, not_both w b d h.1))

-- three of the four within the 3 mm from the lowest of them on are too many
too_many : (a b c k : ℕ) → a ≤ b → b ≤ c → c ≤ a + 3 → within a a + within a b + within a c + k < 3 → ⊥
too_many a b c k l m n few =
    let p = within_is a a (omega arith) (omega arith) in
    let q = within_is a b l (omega arith) in
    let r = within_is a c (omega arith) n in
    omega arith

few_wide : (s : List ℕ) → length s ≡ 4 → Rising s → ((w : ℕ) → held_from w s < 3) → Wide s
few_wide s e r few =
    let a = get_or s 0 0 in
    let b = get_or s 1 0 in
    let c = get_or s 2 0 in
    let d = get_or s 3 0 in
    let four : (w : ℕ) → held_from w (a ∷ b ∷ c ∷ d ∷ []) < 3 = λ w. subst (λ (l : List ℕ). held_from w l < 3) (elements_of_four s e) (few w) in
    let lower : (c ≤ a + 3) → ⊥ = λ h. too_many a b c (within a d) r.0 r.1 h (omega (arith, four a)) in
    let upper : (d ≤ b + 3) → ⊥ = λ h. too_many b c d (within b a) r.1 r.2 h (omega (arith, four b)) in
    (elim (below 3 (c - a)) [ inl h ↦ h | inr h ↦ absurd (lower (omega arith)) ], elim (below 3 (d - b)) [ inl h ↦ h | inr h ↦ absurd (upper (omega arith)) ])

-- The three closest span more than 3 mm exactly where both triples do.

closest_wide : (s : List ℕ) → ltb 3 (span (closest_of s)) ≡ true → Wide s
closest_wide s =
    let lower = get_or s 2 0 - get_or s 0 0 in
    let upper = get_or s 3 0 - get_or s 1 0 in
    of_closest s (λ (t : List ℕ). ltb 3 (span t) ≡ true → Wide s)
    (λ l e. let h = ltb-true 3 lower e in (omega arith, omega arith))
    (λ l e. let h = ltb-true 3 upper e in (omega arith, omega arith))

wide_closest : (s : List ℕ) → Wide s → ltb 3 (span (closest_of s)) ≡ true
wide_closest s h = of_closest s (λ (t : List ℕ). ltb 3 (span t) ≡ true) (λ _. lt-ltb 3 (get_or s 2 0 - get_or s 0 0) h.0) (λ _. lt-ltb 3 (get_or s 3 0 - get_or s 1 0) h.1)

-- Four readings and the same sorted.
module _ (x : List ℕ) (e : length x ≡ 4) where
  sorted-length : length (sorted x) ≡ 4
  sorted-length = ap (λ (l : List ℕ). length (sorted l)) (elements_of_four x e) ∙ ap length (sort_four (get_or x 0 0) (get_or x 1 0) (get_or x 2 0) (get_or x 3 0))

  span_few : ltb 3 (span (closest_of (sorted x))) ≡ true → (w : ℕ) → held_from w x < 3
  span_few h w = rw (sym (held_sorted w x)) (wide_few (sorted x) sorted-length (closest_wide (sorted x) h) w)

  few_span : ((w : ℕ) → held_from w x < 3) → ltb 3 (span (closest_of (sorted x))) ≡ true
  few_span few = wide_closest (sorted x) (few_wide (sorted x) sorted-length (rising x (sorted x) e refl) (λ w. rw (held_sorted w x) (few w)))

-- of the tests of a mean level 23's applies where 23 is the answer
by_23 : (a b c d : Bool) (values : List ℕ) → answer (first (refuse_if 14 a ∷ refuse_if 15 b ∷ refuse_if 23 c ∷ refuse_if 16 d ∷ [])) values ≡ refusal 23 → c ≡ true
by_23 true b c d values e = never (cc)
by_23 false true c d values e = never (cc)
by_23 false false true d values e = refl
by_23 false false false true values e = never (cc)
by_23 false false false false values e = never (cc)

-- the mean level's answer is 23 where no three readings agree, and nowhere else
pub redip_right : (n : ℕ) (x : List ℕ) {a : Answer} → length x ≡ 4 → a ≡ mean_level_answer n x → RedipRight n x a
unfolding mean_level_answer
redip_right n x e f = record {
  there = λ h. f ∙ rw (h.four, h.first_two, few_span x e h.none);
  nowhere_else = λ g.
      let applies = by_23 (unused_bad n x) (disagree n x) (scattered n x) (eqb (mean_level x) 0) (mean_level x ∷ []) (sym f ∙ g) in
      let p = both_hold (eqb n 4) (apart (get_or x 0 0) (get_or x 1 0) && ltb 3 (span (closest_of (sorted x)))) applies in
      let q = both_hold (apart (get_or x 0 0) (get_or x 1 0)) (ltb 3 (span (closest_of (sorted x)))) p.1 in
      record { four = eqb-true n 4 p.0; first_two = q.0; none = span_few x e q.1 };
}
