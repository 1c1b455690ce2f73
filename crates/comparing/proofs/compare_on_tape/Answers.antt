-- `comparing::compare_on_tape` meets its contract: the tape refuses a level exactly where 29 does.
use Prim.Native.Nat.{ℕ, ◌*◌}
use mathlib.Core.Path.{◌≡◌, refl}
use mathlib.Core.Bool.{true, false}
use mathlib.Core.List.{[], ◌∷◌}
use Rattle.base.specs.Limits.{highest_level, tenths}
use Rattle.base.specs.Answer.{refuse_if, first, figures, refusal}
use Rattle.base.proofs.Answer.{one_applies, one_passes, answer_figures, answer_refusal}
use Rattle.base.proofs.Numbers.{inside}
use Rattle.dip.specs.Tape.{listed, off_tape, allowance_answer}
use Rattle.comparing.proofs.compare_on_tape.Goals as goal

-- what the tape's answer tells of a level: its allowance there, or that it does not take it

allowed : (stick : ℕ) {a : ℕ} → figures (a ∷ []) ≡ allowance_answer stick → (off_tape stick ≡ false) × (a ≡ listed stick)
unfolding allowance_answer
allowed stick e = let h = answer_figures (first (refuse_if 16 (off_tape stick) ∷ [])) e in (one_passes 16 (off_tape stick) h.0, cc)

not-allowed : (stick : ℕ) {n : ℕ} → refusal n ≡ allowance_answer stick → off_tape stick ≡ true
unfolding allowance_answer
not-allowed stick e = (one_applies 16 (off_tape stick) (answer_refusal (first (refuse_if 16 (off_tape stick) ∷ [])) (listed stick ∷ []) e)).0

pub compare-requires : goal.compare-requires
compare-requires c =
    let on = allowed c.args.stick c.in-Ok.ensures.0 in
    record { tape = c.requires; most = (inside tenths (tenths * highest_level) c.args.stick on.0).1 }

pub returns-in-Ok : goal.returns-in-Ok
returns-in-Ok c =
    let on = allowed c.args.stick c.in-Ok.ensures.0 in
    rw (c.compare.ensures, on.0, on.1) refl

pub returns-in-Err : goal.returns-in-Err
returns-in-Err c = rw (not-allowed c.args.stick c.in-Err.ensures.0) refl
