-- A car's answer by its tests in the parts in which the code takes them: the first refusal is that of the whole list.
use Prim.Native.Nat.{ℕ}
use mathlib.Core.Path.{◌≡◌, refl, sym, ap, ◌∙◌}
use mathlib.Core.Bool.{true}
use mathlib.Core.List.{List, [], ◌∷◌, ◌++◌, append_assoc}
use Rattle.base.specs.Answer.{Test, Verdict, accepts, refuses, first, figures, refusal, answer}
use Rattle.base.proofs.Answer.{numbered, answer_figures, refuses-append, accepted-append, accepted_parts}
use Rattle.probe_spec.specs.Tenths.{set_tests}
use Rattle.table.specs.Table.{Table, tables_tests, tables_verdict}
use Rattle.gauging.specs.Capacity.{kind_tests, level_tests, volume_tests, volume_on}
use Rattle.gauging.proofs.Answers.{volume_refused}
use Rattle.grading.specs.Grades.{code_tests, oil_tests}
use Rattle.car.specs.declared.Measured.{Measured}
use Rattle.car.specs.Measured.{rows, early_tests, late_tests, measured_tests, v0, figures_from, six_figures}
use Rattle.car.specs.Car.{number_tests, Intake, dipped, probed, intake_number, before_tests, dip_tests, measured_of, car_tests, figures_of, own_answer, alone_tests, alone_answer}

-- the answer by an equal verdict
by_verdict : (values : List ℕ) {v w : Verdict} → w ≡ v → answer v values ≡ answer w values
by_verdict values e = sym (ap (λ (u : Verdict). answer u values) e)

-- the tests have numbers
pub before_numbered : (h : Intake) → numbered (before_tests h) ≡ true
unfolding set_tests
before_numbered (dipped c) = refl
before_numbered (probed c) = refl

pub own_numbered : (ts : List Table) (h : Intake) → numbered (car_tests ts h) ≡ true
unfolding car_tests measured_tests
own_numbered ts (dipped c) = refl
own_numbered ts (probed c) = refl

-- 12 and 13, the readings' tests, then 16 to 21.
module _ (ts : List Table) (c : Intake) where
  abbrev m : Measured
  m = measured_of c

  abbrev readings : List Test
  readings = dip_tests c

  pub own_early : {k : ℕ} → first (early_tests ts m) ≡ refuses k → refusal k ≡ own_answer ts c
  unfolding own_answer car_tests measured_tests
  own_early e = by_verdict (figures_of ts c) (refuses-append (readings ++ late_tests ts m) (early_tests ts m) e)

  module _ (e : first (early_tests ts m) ≡ accepts) where
    from_readings : first (car_tests ts c) ≡ first (readings ++ late_tests ts m)
    unfolding car_tests measured_tests
    from_readings = accepted-append (readings ++ late_tests ts m) (early_tests ts m) e

    pub own_readings : {k : ℕ} → first readings ≡ refuses k → refusal k ≡ own_answer ts c
    unfolding own_answer
    own_readings f = by_verdict (figures_of ts c) (from_readings ∙ refuses-append (late_tests ts m) readings f)

    pub own_late : first readings ≡ accepts → answer (first (late_tests ts m)) (figures_of ts c) ≡ own_answer ts c
    unfolding own_answer
    own_late f = by_verdict (figures_of ts c) (from_readings ∙ accepted-append (late_tests ts m) readings f)

-- 16 and 17 with the volume, then 18 to 21.
module _ (ts : List Table) (m : Measured) (number : ℕ) (early : first (early_tests ts m) ≡ accepts) where
  abbrev at_level : List Test
  at_level = level_tests (rows ts m) m.level m.water_level

  abbrev of_oil : List Test
  of_oil = oil_tests m.grade m.temperature m.density.0 m.water m.impurities

  -- the volume's tests are 16 and 17
  from_volume : first (volume_tests ts m.kind m.level m.water_level) ≡ first at_level
  from_volume = accepted-append at_level (kind_tests ts m.kind) (accepted_parts (code_tests m.grade m.stick) (kind_tests ts m.kind) early).0

  pub volume_away : {n : ℕ} → refusal n ≡ volume_on ts m.kind m.level m.water_level → refusal n ≡ answer (first (late_tests ts m)) (six_figures ts number m)
  volume_away e =
      by_verdict (six_figures ts number m) (refuses-append of_oil at_level (sym from_volume ∙ volume_refused ts m.kind m.level m.water_level e))

  pub volume_known : {v : ℕ} → figures (v ∷ []) ≡ volume_on ts m.kind m.level m.water_level
      → answer (first of_oil) (figures_from number m v) ≡ answer (first (late_tests ts m)) (six_figures ts number m)
  unfolding volume_on v0 six_figures
  volume_known {v} e =
      let p = answer_figures (first (volume_tests ts m.kind m.level m.water_level)) e in
      let shown : v ≡ v0 ts m = let q = p.1 in cc in
      rw shown (by_verdict (figures_from number m (v0 ts m)) (accepted-append of_oil at_level (sym from_volume ∙ p.0)))

-- A car alone: the tests before all others, 7, 8 and 10, then its own tests.

pub alone_before : (ts : List Table) (h : Intake) {k : ℕ} → first (before_tests h) ≡ refuses k → refusal k ≡ alone_answer ts h
unfolding alone_answer alone_tests
alone_before ts h e = by_verdict (figures_of ts h) (refuses-append (tables_tests ts ++ (number_tests (intake_number h) ++ car_tests ts h)) (before_tests h) e)

abbrev admission : List Table → ℕ → List Test
admission ts number = tables_tests ts ++ number_tests number

pub alone_tables : (ts : List Table) (number : ℕ) → first (admission ts number) ≡ accepts → tables_verdict ts ≡ accepts
alone_tables ts number e = (accepted_parts (number_tests number) (tables_tests ts) e).0

module _ (ts : List Table) (h : Intake) (none : first (before_tests h) ≡ accepts) where
  from_admission : first (alone_tests ts h) ≡ first (admission ts (intake_number h) ++ car_tests ts h)
  unfolding alone_tests
  from_admission =
      accepted-append (tables_tests ts ++ (number_tests (intake_number h) ++ car_tests ts h)) (before_tests h) none
      ∙ ap first (sym (append_assoc (tables_tests ts) (number_tests (intake_number h)) (car_tests ts h)))

  pub alone_away : {k : ℕ} → first (admission ts (intake_number h)) ≡ refuses k → refusal k ≡ alone_answer ts h
  unfolding alone_answer
  alone_away e = by_verdict (figures_of ts h) (from_admission ∙ refuses-append (car_tests ts h) (admission ts (intake_number h)) e)

  pub alone_own : first (admission ts (intake_number h)) ≡ accepts → own_answer ts h ≡ alone_answer ts h
  unfolding alone_answer own_answer
  alone_own e = by_verdict (figures_of ts h) (from_admission ∙ accepted-append (car_tests ts h) (admission ts (intake_number h)) e)
