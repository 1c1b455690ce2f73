-- Laws of sums: one car more among others, the grades together, and the tests that the code makes of them.
use Prim.Native.Nat.{ℕ, zero, suc, ◌+◌, ◌-◌, ◌≤◌, ◌<◌}
use mathlib.Core.Path.{◌≡◌, refl, ap, ap₂, sym, ◌∙◌}
use mathlib.Core.Bool.{Bool, true, false, cond, ◌&&◌, true≢false}
use mathlib.Core.List.{List, [], ◌∷◌, ◌++◌, append-nil}
use native.Mathlib.Omega.{arith}
use lib.Dec.{eqb}
use lib.ListN.{length, get_or, set, length-append}
use borrow.Author.Tests.{eq-eqb, ne_eqb, eqb-true}
use Rattle.base.specs.Limits.{grade_count}
use Rattle.base.specs.Lists.{Each}
use Rattle.base.specs.Total.{total}
use Rattle.base.proofs.Choice.{both_hold}
use Rattle.base.proofs.Lists.{selected-append}
use Rattle.base.proofs.Total.{total-append, total_same, total_selected, part_most}
use Rattle.car.specs.Measured.{gross, net}
use Rattle.summing.specs.declared.Totals.{Totals}
use Rattle.summing.specs.declared.Sums.{Sums}
use Rattle.summing.specs.Sums.{Shown, shown_mass, of_grade, totals_of, sums_of, totals_from, no_totals, no_sums, total_in, grade_totals, together, same_totals, same_each, same_sums, with_car, without_car, grade_changed, sums_with, sums_without}
use Rattle.summing.specs.Inner.{Low, Sound, Small, Room}

same_parts : {a b c x y z : ℕ} → a ≡ x → b ≡ y → c ≡ z → totals_from a b c ≡ totals_from x y z
same_parts p q r = rw (p, q, r)

-- One car more among others.

module _ (k : List Shown) (s : Shown) (l : List Shown) where
  one_more_lem : (f : Shown → ℕ) → total f (k ++ s ∷ l) ≡ total f (k ++ l) + f s
  unfolding total
  one_more_lem f = omega (arith, total-append f k (s ∷ l), total-append f k l)

  length_more : length (k ++ s ∷ l) ≡ length (k ++ l) + 1
  length_more = omega (arith, length-append k (s ∷ l), length-append k l)

  totals_more : totals_of (k ++ s ∷ l) ≡ with_car s (totals_of (k ++ l))
  unfolding totals_of
  totals_more = same_parts length_more (one_more_lem (shown_mass gross)) (one_more_lem (shown_mass net))

grade_more : (k : List Shown) (s : Shown) (l : List Shown) (g : ℕ)
    → totals_of (of_grade g (k ++ s ∷ l)) ≡ cond (eqb s.grade g) (with_car s (totals_of (of_grade g (k ++ l)))) (totals_of (of_grade g (k ++ l)))
grade_more k s l g =
    ap totals_of (selected-append (λ x. eqb x.grade g) k (s ∷ l))
    ∙ by_test (eqb s.grade g)
    ∙ ap (λ (x : List Shown). cond (eqb s.grade g) (with_car s (totals_of x)) (totals_of x)) (sym (selected-append (λ x. eqb x.grade g) k l))
  where
    by_test : (t : Bool) → totals_of (of_grade g k ++ cond t (s ∷ of_grade g l) (of_grade g l)) ≡ cond t (with_car s (totals_of (of_grade g k ++ of_grade g l))) (totals_of (of_grade g k ++ of_grade g l))
    by_test true = totals_more (of_grade g k) s (of_grade g l)
    by_test false = refl

pub sums_more_lem : (k : List Shown) (s : Shown) (l : List Shown) → sums_of (k ++ s ∷ l) ≡ sums_with (sums_of (k ++ l)) s
unfolding sums_of
sums_more_lem k s l = rw (totals_more k s l, grade_more k s l 1, grade_more k s l 2, grade_more k s l 3, grade_more k s l 4)

-- behind the others
pub sums_snoc : (ss : List Shown) (s : Shown) → sums_of (ss ++ (s ∷ [])) ≡ sums_with (sums_of ss) s
sums_snoc ss s = sums_more_lem ss s [] ∙ ap (λ (x : List Shown). sums_with (sums_of x) s) (append-nil ss)

-- A car taken out again: the sums are those of the others.

module _ (s : Shown) where
  taken_back : (t : Totals) → without_car s (with_car s t) ≡ t
  taken_back t =
      let a : t.accepted + 1 - 1 ≡ t.accepted = omega arith in
      let g : t.gross + s.gross - s.gross ≡ t.gross = omega arith in
      let n : t.net + s.net - s.net ≡ t.net = omega arith in
      rw (a, g, n)

  grades_back : (g : ℕ) (ts : List Totals) → grade_changed (without_car s) s.grade g (grade_changed (with_car s) s.grade g ts) ≡ ts
  grades_back g [] = refl
  grades_back g (t ∷ ts) = ap₂ (λ (x : Totals) (l : List Totals). x ∷ l) (by_test (eqb s.grade g)) (grades_back (g + 1) ts)
    where
      by_test : (b : Bool) → cond b (without_car s (cond b (with_car s t) t)) (cond b (with_car s t) t) ≡ t
      by_test true = taken_back t
      by_test false = refl

  sums_back : (x : Sums) → sums_without (sums_with x s) s ≡ x
  sums_back x = rw (taken_back x.all, grades_back 1 x.grades)

  pub sums_less_lem : (k l : List Shown) → sums_without (sums_of (k ++ s ∷ l)) s ≡ sums_of (k ++ l)
  sums_less_lem k l = ap (λ (x : Sums). sums_without x s) (sums_more_lem k s l) ∙ sums_back (sums_of (k ++ l))

pub all_of : (ss : List Shown) → (sums_of ss).all ≡ totals_of ss
unfolding sums_of
all_of ss = refl

pub four_grades : (ss : List Shown) → length (sums_of ss).grades ≡ grade_count
unfolding sums_of
four_grades ss = refl

pub sums_none : no_sums ≡ sums_of []
unfolding sums_of totals_of total
sums_none = refl

-- Cars of grades 1 to 4.

abbrev pub Known : Shown → Type 0
Known s = (1 ≤ s.grade) × (s.grade ≤ grade_count)

-- each is of one grade
one_of_four : (g x : ℕ) → 1 ≤ g → g ≤ 4 → cond (eqb g 1) x 0 + (cond (eqb g 2) x 0 + (cond (eqb g 3) x 0 + cond (eqb g 4) x 0)) ≡ x
one_of_four zero x h k = absurd (omega arith)
one_of_four (suc zero) x h k = omega arith
one_of_four (suc (suc zero)) x h k = omega arith
one_of_four (suc (suc (suc zero))) x h k = omega arith
one_of_four (suc (suc (suc (suc zero)))) x h k = omega arith
one_of_four (suc (suc (suc (suc (suc g))))) x h k = absurd (omega arith)

by_grades : (f : Shown → ℕ) (ss : List Shown) → Each Known ss
    → total f ss ≡ total f (of_grade 1 ss) + (total f (of_grade 2 ss) + (total f (of_grade 3 ss) + (total f (of_grade 4 ss) + 0)))
unfolding total
by_grades f [] h = refl
by_grades f (s ∷ ss) (h, hs) =
    let part : (g : ℕ) → total f (of_grade g (s ∷ ss)) ≡ cond (eqb s.grade g) (f s) 0 + total f (of_grade g ss) = λ g. total_selected f (λ x. eqb x.grade g) s ss in
    omega (arith, part 1, part 2, part 3, part 4, one_of_four s.grade (f s) h.0 h.1, by_grades f ss hs)

-- the count is the sum of ones
counted : (ss : List Shown) → length ss ≡ total (λ _. 1) ss
counted ss = omega (arith, total_same 1 ss)

pub sums_split : (ss : List Shown) → Each Known ss → (sums_of ss).all ≡ together (sums_of ss).grades
unfolding sums_of totals_of total
sums_split ss h =
    same_parts
    (omega (arith, counted ss, counted (of_grade 1 ss), counted (of_grade 2 ss), counted (of_grade 3 ss), counted (of_grade 4 ss), by_grades (λ _. 1) ss h))
    (by_grades (shown_mass gross) ss h)
    (by_grades (shown_mass net) ss h)

-- no car is of another grade
none_of : (g : ℕ) → ((n : ℕ) → 1 ≤ n → n ≤ grade_count → n ≡ g → ⊥) → (ss : List Shown) → Each Known ss → of_grade g ss ≡ []
none_of g other [] h = refl
none_of g other (s ∷ ss) (h, hs) =
    ap (λ (t : Bool). cond t (s ∷ of_grade g ss) (of_grade g ss)) (ne_eqb s.grade g (other s.grade h.0 h.1)) ∙ none_of g other ss hs

no_totals_lem : totals_of [] ≡ no_totals
unfolding totals_of total
no_totals_lem = refl

pub grade_totals_lem : (ss : List Shown) → Each Known ss → (g : ℕ) → grade_totals g (sums_of ss) ≡ totals_of (of_grade g ss)
unfolding sums_of
grade_totals_lem ss h zero = sym (ap totals_of (none_of 0 (λ n a b e. omega arith) ss h) ∙ no_totals_lem)
grade_totals_lem ss h (suc zero) = refl
grade_totals_lem ss h (suc (suc zero)) = refl
grade_totals_lem ss h (suc (suc (suc zero))) = refl
grade_totals_lem ss h (suc (suc (suc (suc zero)))) = refl
grade_totals_lem ss h (suc (suc (suc (suc (suc g))))) = sym (ap totals_of (none_of (suc (suc (suc (suc (suc g))))) (λ n a b e. omega arith) ss h) ∙ no_totals_lem)

-- Sums that a train keeps.

-- the totals of a grade are no more than those of all
pub grade_low : {s : Sums} → Sound s → (i : ℕ) → i < length s.grades → Low (get_or s.grades i no_totals)
grade_low {s} h i k =
    let a : s.all.accepted ≡ total (λ t. t.accepted) s.grades = ap (λ (t : Totals). t.accepted) h.split in
    let g : s.all.gross ≡ total (total_in gross) s.grades = ap (λ (t : Totals). t.gross) h.split in
    let n : s.all.net ≡ total (total_in net) s.grades = ap (λ (t : Totals). t.net) h.split in
    record {
      few = omega (arith, h.low.few, part_most (λ t. t.accepted) s.grades i no_totals k);
      gross_low = omega (arith, h.low.gross_low, part_most (total_in gross) s.grades i no_totals k);
      net_low = omega (arith, h.low.net_low, part_most (total_in net) s.grades i no_totals k);
    }

-- Sums of n cars, whatever they are.

pub small_next : {n : ℕ} {t : Totals} → Small n t → Small (n + 1) t
small_next h = record { few = omega (arith, h.few); gross_low = omega (arith, h.gross_low); net_low = omega (arith, h.net_low) }

pub room_next : {n : ℕ} {x : Sums} → Room n x → Room (n + 1) x
room_next h = record { all = small_next h.all; grade = λ k. small_next (h.grade k) }

pub room_none : Room 0 no_sums
room_none = record { all = none; grade = at }
  where
    none : Small 0 no_totals
    none = record { few = omega arith; gross_low = omega arith; net_low = omega arith }

    at : (k : ℕ) → Small 0 (get_or no_sums.grades k no_totals)
    at zero = none
    at (suc zero) = none
    at (suc (suc zero)) = none
    at (suc (suc (suc zero))) = none
    at (suc (suc (suc (suc k)))) = none

pub room_up : {n m : ℕ} {x : Sums} → n ≤ m → Room n x → Room m x
room_up {n} {m} i h = record { all = up h.all; grade = λ k. up (h.grade k) }
  where
    up : {t : Totals} → Small n t → Small m t
    up a = record { few = omega (arith, a.few); gross_low = omega (arith, a.gross_low); net_low = omega (arith, a.net_low) }

each_place : {A : Type 0} (P : A → Type 0) (l : List A) (d : A) → ((i : ℕ) → i < length l → P (get_or l i d)) → Each P l
each_place P [] d f = tt
each_place P (a ∷ l) d f = (f zero (omega arith), each_place P l d (λ i h. f (suc i) (omega arith)))

pub grades_low : {s : Sums} → Sound s → Each Low s.grades
grades_low {s} h = each_place Low s.grades no_totals (grade_low h)

-- what is changed stands in the place of the car's grade
module _ (change : Totals → Totals) (grade : ℕ) where
  later_grades : (g : ℕ) (ts : List Totals) → grade < g → grade_changed change grade g ts ≡ ts
  later_grades g [] h = refl
  later_grades g (t ∷ ts) h = rw (ne_eqb grade g (λ e. omega arith)) (ap (λ (l : List Totals). t ∷ l) (later_grades (g + 1) ts (omega arith)))

  pub grade-set : (g i : ℕ) (ts : List Totals) → grade ≡ g + i → i < length ts → set ts i (change (get_or ts i no_totals)) ≡ grade_changed change grade g ts
  grade-set g i [] e h = absurd (omega arith)
  grade-set g zero (t ∷ ts) e h = rw (eq-eqb grade g (omega arith)) (ap (λ (l : List Totals). change t ∷ l) (sym (later_grades (g + 1) ts (omega arith))))
  grade-set g (suc i) (t ∷ ts) e h = rw (ne_eqb grade g (λ q. omega arith)) (ap (λ (l : List Totals). t ∷ l) (grade-set (g + 1) i ts (omega arith) (omega arith)))

  -- in none where there is no such grade
  pub grade_none : (g : ℕ) (ts : List Totals) → g + length ts ≤ grade → grade_changed change grade g ts ≡ ts
  grade_none g [] h = refl
  grade_none g (t ∷ ts) h = rw (ne_eqb grade g (λ e. omega arith)) (ap (λ (l : List Totals). t ∷ l) (grade_none (g + 1) ts (omega arith)))

-- Equality as a test.

pub same_totals_lem : {a b : Totals} → same_totals a b ≡ true → a ≡ b
same_totals_lem {a} {b} e =
    let p = both_hold (eqb a.accepted b.accepted && eqb a.gross b.gross) (eqb a.net b.net) e in
    let q = both_hold (eqb a.accepted b.accepted) (eqb a.gross b.gross) p.0 in
    same_parts (eqb-true a.accepted b.accepted q.0) (eqb-true a.gross b.gross q.1) (eqb-true a.net b.net p.1)

pub totals_same : {a b : Totals} → a ≡ b → same_totals a b ≡ true
totals_same {a} {b} e =
    let p = eq-eqb a.accepted b.accepted (ap (λ (t : Totals). t.accepted) e) in
    let q = eq-eqb a.gross b.gross (ap (λ (t : Totals). t.gross) e) in
    let r = eq-eqb a.net b.net (ap (λ (t : Totals). t.net) e) in
    rw (p, q, r)

same_each_lem : (ts us : List Totals) → same_each ts us ≡ true → ts ≡ us
same_each_lem [] [] e = refl
same_each_lem [] (u ∷ us) e = absurd (true≢false (sym e))
same_each_lem (t ∷ ts) [] e = absurd (true≢false (sym e))
same_each_lem (t ∷ ts) (u ∷ us) e =
    let p = both_hold (same_totals t u) (same_each ts us) e in
    ap₂ (λ (x : Totals) (l : List Totals). x ∷ l) (same_totals_lem p.0) (same_each_lem ts us p.1)

each_same : (ts : List Totals) → same_each ts ts ≡ true
each_same [] = refl
each_same (t ∷ ts) = rw (totals_same {a = t} {b = t} refl, each_same ts)

pub same_sums_lem : {a b : Sums} → same_sums a b ≡ true → a ≡ b
same_sums_lem {a} {b} e =
    let p = both_hold (same_totals a.all b.all) (same_each a.grades b.grades) e in
    let all = same_totals_lem {a = a.all} {b = b.all} p.0 in
    let grades = same_each_lem a.grades b.grades p.1 in
    ap₂ (λ (t : Totals) (l : List Totals). record { all = t; grades = l }) all grades

pub sums_same : {a b : Sums} → a ≡ b → same_sums a b ≡ true
sums_same {a} {b} e = rw e (rw (totals_same {a = b.all} {b = b.all} refl, each_same b.grades))

-- the sum over the four grades, as the code forms it
abbrev pub four : (Totals → ℕ) → List Totals → ℕ
four f ts = f (get_or ts 0 no_totals) + (f (get_or ts 1 no_totals) + (f (get_or ts 2 no_totals) + (f (get_or ts 3 no_totals) + 0)))

total_four : (f : Totals → ℕ) (ts : List Totals) → length ts ≡ grade_count → total f ts ≡ four f ts
unfolding total
total_four f [] e = absurd (omega arith)
total_four f (a ∷ []) e = absurd (omega arith)
total_four f (a ∷ b ∷ []) e = absurd (omega arith)
total_four f (a ∷ b ∷ c ∷ []) e = absurd (omega arith)
total_four f (a ∷ b ∷ c ∷ d ∷ []) e = refl
total_four f (a ∷ b ∷ c ∷ d ∷ x ∷ ts) e = absurd (omega arith)

pub added_up : (s : Sums) → length s.grades ≡ grade_count
    → (eqb s.all.accepted (four (λ t. t.accepted) s.grades) && eqb s.all.gross (four (total_in gross) s.grades) && eqb s.all.net (four (total_in net) s.grades))
    ≡ same_totals s.all (together s.grades)
added_up s e = rw (total_four (λ t. t.accepted) s.grades e, total_four (total_in gross) s.grades e, total_four (total_in net) s.grades e)
