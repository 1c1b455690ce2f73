-- Demand 3 of the figures beside a limit: distance and filling order are those of the six figures, which the car alone shows too.
use Prim.Native.Nat.{ℕ, ◌≤◌}
use mathlib.Core.Path.{◌≡◌, refl, sym, ap, subst}
use mathlib.Core.List.{List, ◌++◌}
use Rattle.base.specs.Answer.{Verdict, accepts, refuses, first, Answer, figures, refusal, answer}
use Rattle.base.specs.Fraction.{Within}
use Rattle.base.proofs.Choice.{never}
use Rattle.base.proofs.Answer.{accepted_parts}
use Rattle.table.specs.Table.{Table}
use Rattle.heating.specs.Exact.{Power}
use Rattle.car.specs.declared.Measured.{Measured}
use Rattle.car.specs.Measured.{Mass, gross, net, six_figures}
use Rattle.car.specs.Car.{Intake, measured_of, figures_of, alone_tests, alone_answer}
use Rattle.car.specs.Exact.{massˣ, distance}
use Rattle.consist.specs.Demand3.{mass_in, Close, Comparable, Figurewise, InOrder, alone}
use Rattle.consist.proofs.Taken.{close}
use Rattle.consist.proofs.Order.{in_order}
use Rattle.accuracy.specs.declared.Errors.{Errors}
use Rattle.accuracy.specs.Permitted.{error_tests, term_tests, permitted_tests, eight_figures, PermittedAnswer}

-- both hold of a refusal, since they speak of accepted cars
module _ (ts : List Table) (m : Measured) (k : ℕ) where
  refused_close : Close ts m (refusal k)
  refused_close = record { near = λ e. never (cc); uncut = λ e. never (cc) }

  refused_in_order : InOrder ts m (refusal k)
  refused_in_order = record {
    higher = λ us n b w c h. let e = c.first in never (cc);
    lower = λ us n b w c h. let e = c.first in never (cc);
    level_with = λ us n b w c h. let e = c.first in never (cc);
  }

-- two numbers more behind the six figures
abbrev six : List Table → Intake → Answer
six ts c = figures (figures_of ts c)

abbrev more : List Table → Intake → List ℕ → Answer
more ts c tail = figures (figures_of ts c ++ tail)

module _ (ts : List Table) (c : Intake) (tail : List ℕ) where
  close_more : Close ts (measured_of c) (six ts c) → Close ts (measured_of c) (more ts c tail)
  unfolding six_figures
  close_more h = record { near = λ e. near; uncut = λ e. h.uncut refl }
    where
      near : (k : Mass) (p : Power) → Within 100 (distance k) (mass_in k (more ts c tail)) (massˣ k p ts (measured_of c))
      near gross p = h.near refl gross p
      near net p = h.near refl net p

  in_order_more : InOrder ts (measured_of c) (six ts c) → InOrder ts (measured_of c) (more ts c tail)
  unfolding six_figures
  in_order_more h = record {
    higher = λ us n b w x l. first_of ◌≤◌ b (h.higher us n b w (comparable x) l);
    lower = λ us n b w x l. second_of ◌≤◌ b (h.lower us n b w (comparable x) l);
    level_with = λ us n b w x l. first_of ◌≡◌ b (h.level_with us n b w (comparable x) l);
  }
    where
      comparable : {us : List Table} {n : Measured} {b : Answer} → Comparable ts us (measured_of c) n (more ts c tail) b → Comparable ts us (measured_of c) n (six ts c) b
      comparable x = record { first = refl; second = x.second; table = x.table; alike = x.alike }

      first_of : (R : ℕ → ℕ → Type 0) (b : Answer) → Figurewise R (six ts c) b → Figurewise R (more ts c tail) b
      first_of R (figures bs) p = p
      first_of R (refusal k) p = p

      second_of : (R : ℕ → ℕ → Type 0) (b : Answer) → Figurewise R b (six ts c) → Figurewise R b (more ts c tail)
      second_of R (figures bs) p = p
      second_of R (refusal k) p = p

-- so both hold of the answer on the permitted error
module _ (ts : List Table) (c : Intake) (e : Errors) {a : Answer} (p : PermittedAnswer ts c e a) where
  alone_six : first (permitted_tests ts c e) ≡ accepts → alone_answer ts c ≡ six ts c
  unfolding alone_answer permitted_tests
  alone_six v =
      ap (λ (w : Verdict). answer w (figures_of ts c)) (accepted_parts (error_tests e ++ term_tests ts (measured_of c) e) (alone_tests ts c) v).0

  held : (P : Answer → Type 0) → ((k : ℕ) → P (refusal k)) → ((tail : List ℕ) → P (six ts c) → P (more ts c tail)) → P (alone_answer ts c) → P a
  held P refused longer h = subst P (sym p.answered) (go (first (permitted_tests ts c e)) refl)
    where
      go : (v : Verdict) → first (permitted_tests ts c e) ≡ v → P (answer v (eight_figures ts c p.limit))
      go accepts v = longer _ (subst P (alone_six v) h)
      go (refuses k) v = refused k

  pub permitted_close : Close ts (measured_of c) a
  permitted_close =
      held (λ (x : Answer). Close ts (measured_of c) x) (refused_close ts (measured_of c)) (close_more ts c) (close ts (measured_of c) (alone_answer ts c) (alone c))

  pub permitted_in_order : InOrder ts (measured_of c) a
  permitted_in_order =
      held (λ (x : Answer). InOrder ts (measured_of c) x) (refused_in_order ts (measured_of c)) (in_order_more ts c) (in_order ts (measured_of c) (alone_answer ts c) (alone c))
