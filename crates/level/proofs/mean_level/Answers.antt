-- `level::mean_level` meets its contract: a refusal of the readings stands before 16, and without one the mean decides.
use Prim.Native.Nat.{ℕ}
use mathlib.Core.Path.{◌≡◌, ◌∙◌, ap, sym}
use mathlib.Core.Bool.{Bool}
use mathlib.Core.List.{List, [], ◌∷◌}
use lib.Dec.{eqb}
use borrow.Author.Rules.{rules}
use borrow.Author.Tests.{eq-eqb, ne_eqb}
use Rattle.std.proofs.lemmas.Result.{err_from_is_err_and}
use Rattle.base.specs.Answer.{refuse_if, first, accepts, refuses, answer, figures, refusal}
use Rattle.base.proofs.Answer.{refuses-append, accepted-append}
use Rattle.dip.specs.Level.{mean_level, readings_tests, mean_level_answer}
use Rattle.dip.proofs.Redip.{redip_right}
use Rattle.dip.proofs.Tenths.{tenths_right}
use Rattle.level.proofs.mean_level.Goals as goal

-- with a refusal of the readings
by-readings : (n : ℕ) (x : List ℕ) {k : ℕ} → refuses k ≡ first (readings_tests n x) → refusal k ≡ mean_level_answer n x
unfolding mean_level_answer
by-readings n x e = sym (rw (refuses-append (refuse_if 16 (eqb (mean_level x) 0) ∷ []) (readings_tests n x) (sym e)))

-- with none
by-mean : (n : ℕ) (x : List ℕ) → accepts ≡ first (readings_tests n x) → {t : Bool} → eqb (mean_level x) 0 ≡ t
    → answer (first (refuse_if 16 t ∷ [])) (mean_level x ∷ []) ≡ mean_level_answer n x
unfolding mean_level_answer
by-mean n x e f = sym (rw (accepted-append (refuse_if 16 (eqb (mean_level x) 0) ∷ []) (readings_tests n x) (sym e), f))

pub returns-in_err-check_readings : goal.returns-in_err-check_readings
returns-in_err-check_readings c =
    let n = c.args.n in
    let x = c.args.readings in
    let p = err_from_is_err_and c.from_residual.result c.from_residual.ensures.1 in
    let e = by-readings n x c.in_err-check_readings.ensures in
    rw (p.1, p.2) (e, redip_right n x (search rules) e, tenths_right n x e)

pub returns-then-level-eq0 : goal.returns-then-level-eq0
returns-then-level-eq0 c =
    let x = c.args.readings in
    let e = by-mean c.args.n x c.in_ok-check_readings.ensures (eq-eqb (mean_level x) 0 (sym c.mean_of-level.ensures ∙ c.if-level-eq0.true)) in
    (e, redip_right c.args.n x (search rules) e, tenths_right c.args.n x e)

pub returns : goal.returns
returns c =
    let x = c.args.readings in
    let level = c.mean_of-level.ensures in
    let e = ap (λ (k : ℕ). figures (k ∷ [])) level ∙ by-mean c.args.n x c.in_ok-check_readings.ensures (ne_eqb (mean_level x) 0 (λ z. c.if-level-eq0.false (level ∙ z))) in
    (e, redip_right c.args.n x (search rules) e, tenths_right c.args.n x e)
