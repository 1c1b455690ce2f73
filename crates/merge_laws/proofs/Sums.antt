-- The sums of a sheet are those of the cars that it holds; over the cars of two lists they are those of both.
use Prim.Native.Nat.{ℕ, zero, suc, ◌+◌}
use mathlib.Core.Path.{◌≡◌, refl, ap, ap₂, sym, ◌∙◌}
use mathlib.Core.Bool.{Bool, true, false, cond, ◌||◌}
use mathlib.Core.List.{List, [], ◌∷◌, map}
use native.Mathlib.Omega.{arith}
use lib.Dec.{eqb}
use lib.ListN.{length}
use Rattle.base.specs.Answer.{Answer, figures, refusal}
use Rattle.base.specs.Total.{total, selected}
use Rattle.base.proofs.Total.{total_same, total_selected}
use Rattle.table.specs.Table.{Table}
use Rattle.car.specs.Measured.{gross, net}
use Rattle.car.specs.Car.{car_of, dipped, measured_of}
use Rattle.summing.specs.Sums.{Shown, shown_mass, of_grade, totals_of, sums_of, totals_from, grade_totals, together}
use Rattle.consist.specs.Train.{empty_train}
use Rattle.consist.specs.Demand3.{mass_in, answers_from, struck_in, standing, shown_of, shown}
use Rattle.consist.proofs.Book.{reconciled}
use Rattle.grammar.specs.Grammar.{TrainLine, enters, strikes}
use Rattle.answers.specs.Listing.{items_of}
use Rattle.merge_spec.specs.Order.{In, Joined}
use Rattle.merge_spec.specs.Held.{number_of, HeldCar, held_number, kept_out, held_in, held_on}
use Rattle.merge_spec.specs.Merged.{sums_on, AddUp}
use Rattle.merge_spec.specs.Inner.{Distinct, joined}
use Rattle.merge_spec.proofs.Order.{joined_is, joined_one, total_joined}

-- What a held car adds to a sum, by its answer; a refused one adds nothing.

abbrev adds_by : (Shown → ℕ) → List ℕ → Answer → ℕ
adds_by f x (figures values) = f (record { grade = (measured_of (dipped (car_of x))).grade; gross = mass_in gross (figures values); net = mass_in net (figures values) })
adds_by f x (refusal n) = 0

abbrev adds : (Shown → ℕ) → HeldCar → ℕ
adds f h = adds_by f h.car h.answer

-- the accepted cars that no later line strikes, among those that are held
held_total : (ts : List Table) (f : Shown → ℕ) (history : List TrainLine) (answers : List Answer) → total f (shown (items_of ts history) answers) ≡ total (adds f) (held_in ts history answers)
unfolding total
held_total ts f [] answers = refl
held_total ts f (enters x ∷ history) [] = refl
held_total ts f (strikes n ∷ history) [] = refl
held_total ts f (strikes n ∷ history) (a ∷ answers) = held_total ts f history answers
held_total ts f (enters x ∷ history) (figures values ∷ answers) = go (held_total ts f history answers) (struck_in (items_of ts history) (number_of x))
  where
    go : total f (shown (items_of ts history) answers) ≡ total (adds f) (held_in ts history answers) → (b : Bool)
        → total f (map shown_of (cond b (standing (items_of ts history) answers) (record { tables = ts; car = dipped (car_of x); values = values } ∷ standing (items_of ts history) answers)))
        ≡ total (adds f) (cond b (held_in ts history answers) (record { car = x; answer = figures values } ∷ held_in ts history answers))
    go later true = later
    go later false = ap (λ (n : ℕ). adds_by f x (figures values) + n) later
held_total ts f (enters x ∷ history) (refusal n ∷ answers) = held_total ts f history answers ∙ go (kept_out (refusal n) || struck_in (items_of ts history) (number_of x))
  where
    go : (b : Bool) → total (adds f) (held_in ts history answers) ≡ total (adds f) (cond b (held_in ts history answers) (record { car = x; answer = refusal n } ∷ held_in ts history answers))
    go true = refl
    go false = omega arith

-- Totals as sums: the count is a sum of ones, and a selection is a sum in which the others add nothing.

module _ (ss ts us : List Shown) (h : (f : Shown → ℕ) → total f us ≡ total f ss + total f ts) where
  counts : (k : List Shown) → length k ≡ total (λ _. 1) k
  counts k = omega (arith, total_same 1 k)

  parts : {a b c x y z : ℕ} → a ≡ x → b ≡ y → c ≡ z → totals_from a b c ≡ totals_from x y z
  parts p q r = rw (p, q, r)

  totals_add : totals_of us ≡ together (totals_of ss ∷ totals_of ts ∷ [])
  unfolding totals_of total
  totals_add =
      parts (omega (arith, counts us, counts ss, counts ts, h (λ _. 1))) (omega (arith, h (shown_mass gross))) (omega (arith, h (shown_mass net)))

select_total : (test : Shown → Bool) (f : Shown → ℕ) (k : List Shown) → total f (selected test k) ≡ total (λ s. cond (test s) (f s) 0) k
unfolding total
select_total test f [] = refl
select_total test f (s ∷ k) = total_selected f test s k ∙ ap (λ (n : ℕ). cond (test s) (f s) 0 + n) (select_total test f k)

module _ (ss ts us : List Shown) (h : (f : Shown → ℕ) → total f us ≡ total f ss + total f ts) where
  grade-add : (g : ℕ) → totals_of (of_grade g us) ≡ together (totals_of (of_grade g ss) ∷ totals_of (of_grade g ts) ∷ [])
  grade-add g =
      let test : Shown → Bool = λ s. eqb s.grade g in
      totals_add (of_grade g ss) (of_grade g ts) (of_grade g us)
      (λ f. select_total test f us ∙ h (λ s. cond (test s) (f s) 0) ∙ sym (ap₂ (λ (m n : ℕ). m + n) (select_total test f ss) (select_total test f ts)))

  sums-add : AddUp (sums_of ss) (sums_of ts) (sums_of us)
  unfolding sums_of total
  sums-add = record { all = totals_add ss ts us h; grade = by_grade_lem }
    where
      by_grade_lem : (g : ℕ) → grade_totals g (sums_of us) ≡ together (grade_totals g (sums_of ss) ∷ grade_totals g (sums_of ts) ∷ [])
      by_grade_lem zero = refl
      by_grade_lem (suc zero) = grade-add 1
      by_grade_lem (suc (suc zero)) = grade-add 2
      by_grade_lem (suc (suc (suc zero))) = grade-add 3
      by_grade_lem (suc (suc (suc (suc zero)))) = grade-add 4
      by_grade_lem (suc (suc (suc (suc (suc g))))) = refl

-- The cars of two sheets.

shown_on : (ts : List Table) (history : List TrainLine) → sums_on ts history ≡ sums_of (shown (items_of ts history) (answers_from empty_train (items_of ts history)))
shown_on ts history = (reconciled (items_of ts history)).sums

pub sums_both : (ts : List Table) (h : List TrainLine) (us : List Table) (k : List TrainLine) (ms : List Table) (l : List TrainLine)
    → Distinct held_number (held_on ts h) → Distinct held_number (held_on us k) → ((x y : HeldCar) → In x (held_on ts h) → In y (held_on us k) → held_number x ≡ held_number y → ⊥)
    → Joined held_number (held_on ts h) (held_on us k) (held_on ms l) → AddUp (sums_on ts h) (sums_on us k) (sums_on ms l)
sums_both ts h us k ms l d e apart j =
    let same : held_on ms l ≡ joined held_number (held_on ts h) (held_on us k) =
    joined_one held_number (held_on ts h) (held_on us k) (held_on ms l) (joined held_number (held_on ts h) (held_on us k)) j
    (joined_is held_number (held_on ts h) (held_on us k) d e (record { same = λ x y i m q. absurd (apart x y i m q) })) in
    rw (shown_on ts h, shown_on us k, shown_on ms l)
    (sums-add _ _ _ (λ f.
    held_total ms f l (answers_from empty_train (items_of ms l))
    ∙ ap (total (adds f)) same
    ∙ total_joined held_number (adds f) (held_on ts h) (held_on us k) d e apart
    ∙ sym (ap₂ (λ (m n : ℕ). m + n) (held_total ts f h (answers_from empty_train (items_of ts h))) (held_total us f k (answers_from empty_train (items_of us k))))))
