-- The answer on the permitted error: there is one only, and how it is known in each case.
use Prim.Native.Nat.{ℕ}
use mathlib.Core.Path.{◌≡◌, refl, sym, ap, ◌∙◌}
use mathlib.Core.Bool.{true}
use mathlib.Core.List.{List}
use Rattle.base.specs.Answer.{Verdict, accepts, refuses, first, Answer, figures, refusal, answer}
use Rattle.base.proofs.Choice.{never}
use Rattle.table.specs.Table.{Table}
use Rattle.car.specs.Car.{Intake, measured_of}
use Rattle.accuracy.specs.declared.Errors.{Errors}
use Rattle.accuracy.specs.Terms.{sum_of_squares}
use Rattle.accuracy.specs.Limit.{IsLimit}
use Rattle.accuracy.specs.Permitted.{terms_of, permitted_tests, eight_figures, PermittedAnswer, OnlyAnswer}
use Rattle.accuracy.proofs.Limit.{limit_only, limit_test, limit_by}

module _ {ts : List Table} {c : Intake} {e : Errors} where
  -- figures with the limit n, and a refusal
  pub limited : {values : List ℕ} (n : ℕ) → IsLimit (sum_of_squares (terms_of ts (measured_of c) e)) n → first (permitted_tests ts c e) ≡ accepts
      → values ≡ eight_figures ts c n → PermittedAnswer ts c e (figures values)
  limited n l v h = record {
    limit = n;
    smallest = λ _. l;
    answered = ap figures h ∙ sym (ap (λ (w : Verdict). answer w (eight_figures ts c n)) v);
  }

  pub by_test : {values : List ℕ} (n : ℕ) → limit_test (sum_of_squares (terms_of ts (measured_of c) e)) n ≡ true → first (permitted_tests ts c e) ≡ accepts
      → values ≡ eight_figures ts c n → PermittedAnswer ts c e (figures values)
  by_test n t v h = limited n (limit_by (sum_of_squares (terms_of ts (measured_of c) e)) n t) v h

  pub turned_away_lem : {k : ℕ} → first (permitted_tests ts c e) ≡ refuses k → PermittedAnswer ts c e (refusal k)
  turned_away_lem v = record {
    limit = 0;
    smallest = λ a. never (cc);
    answered = sym (ap (λ (w : Verdict). answer w (eight_figures ts c 0)) v);
  }

  -- there is no other answer
  pub only_answer : {a : Answer} → PermittedAnswer ts c e a → OnlyAnswer ts c e a
  only_answer {a} p = record { right = p; only = λ b q. q.answered ∙ go q.limit q.smallest (first (permitted_tests ts c e)) refl ∙ sym p.answered }
    where
      go : (n : ℕ) → (first (permitted_tests ts c e) ≡ accepts → IsLimit (sum_of_squares (terms_of ts (measured_of c) e)) n)
          → (v : Verdict) → first (permitted_tests ts c e) ≡ v → answer v (eight_figures ts c n) ≡ answer v (eight_figures ts c p.limit)
      go n l accepts h = ap (λ (k : ℕ). figures (eight_figures ts c k)) (limit_only (l h) (p.smallest h))
      go n l (refuses k) h = refl
