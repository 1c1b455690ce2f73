-- The answer to a float by its two tests, and that to a set by the answers to its three floats.
use Prim.Native.Nat.{ℕ, ◌≤◌, ◌<◌}
use mathlib.Core.Path.{◌≡◌, refl, sym, ap, ◌∙◌}
use mathlib.Core.Bool.{true, false}
use mathlib.Core.List.{List, [], ◌∷◌, ◌++◌}
use borrow.Author.Tests.{lt-ltb, le-ltb}
use lib.Ieee.{Float}
use Rattle.base.specs.Limits.{largest}
use Rattle.base.specs.Answer.{Test, Verdict, accepts, refuses, first, figures, refusal, answer}
use Rattle.base.proofs.Answer.{answer_figures, answer_refusal, refuses-append, accepted-append}
use Rattle.probe_spec.specs.declared.ProbeSet.{ProbeSet}
use Rattle.probe_spec.specs.declared.SetTenths.{SetTenths}
use Rattle.probe_spec.specs.Tenths.{no_number, tenths_of, float_tests, tenths_answer, set_tests, set_answer}
use Rattle.probe_spec.specs.Inner.{SetShown}

-- By the two tests.

pub no_number_lem : (x : Float) → no_number x ≡ true → tenths_answer x ≡ refusal 31
unfolding tenths_answer
no_number_lem x e = rw e

pub too_great : (x : Float) → no_number x ≡ false → largest < tenths_of x → tenths_answer x ≡ refusal 32
unfolding tenths_answer
too_great x e h = rw (e, lt-ltb largest (tenths_of x) h)

pub shown : (x : Float) → no_number x ≡ false → tenths_of x ≤ largest → tenths_answer x ≡ figures (tenths_of x ∷ [])
unfolding tenths_answer
shown x e h = rw (e, le-ltb largest (tenths_of x) h)

-- A set, number by number.

number_shown : (x : Float) {n : ℕ} → figures (n ∷ []) ≡ tenths_answer x → (first (float_tests x) ≡ accepts) × (n ≡ tenths_of x)
unfolding tenths_answer
number_shown x e =
    let p = answer_figures (first (float_tests x)) e in
    (p.0, let q = p.1 in cc)

number_refused : (x : Float) {n : ℕ} → refusal n ≡ tenths_answer x → first (float_tests x) ≡ refuses n
unfolding tenths_answer
number_refused x e = answer_refusal (first (float_tests x)) (tenths_of x ∷ []) e

module _ (s : ProbeSet) where
  abbrev values : List ℕ
  values = tenths_of s.level ∷ tenths_of s.temperature ∷ tenths_of s.density ∷ []

  by_verdict : {v : Verdict} → first (set_tests s) ≡ v → answer v values ≡ set_answer s
  unfolding set_answer
  by_verdict e = sym (ap (λ (v : Verdict). answer v values) e)

  abbrev later : List Test
  later = float_tests s.temperature ++ float_tests s.density

  pub level_away : {n : ℕ} → refusal n ≡ tenths_answer s.level → refusal n ≡ set_answer s
  unfolding set_tests
  level_away e = by_verdict (refuses-append later (float_tests s.level) (number_refused s.level e))

  module _ {l : ℕ} (e : figures (l ∷ []) ≡ tenths_answer s.level) where
    past_level : first (set_tests s) ≡ first later
    unfolding set_tests
    past_level = accepted-append later (float_tests s.level) (number_shown s.level e).0

    pub temperature_away : {n : ℕ} → refusal n ≡ tenths_answer s.temperature → refusal n ≡ set_answer s
    temperature_away f = by_verdict (past_level ∙ refuses-append (float_tests s.density) (float_tests s.temperature) (number_refused s.temperature f))

    module _ {t : ℕ} (f : figures (t ∷ []) ≡ tenths_answer s.temperature) where
      past_temperature : first (set_tests s) ≡ first (float_tests s.density)
      past_temperature = past_level ∙ accepted-append (float_tests s.density) (float_tests s.temperature) (number_shown s.temperature f).0

      pub density_away : {n : ℕ} → refusal n ≡ tenths_answer s.density → refusal n ≡ set_answer s
      density_away g = by_verdict (past_temperature ∙ number_refused s.density g)

      pub all_shown : {d : ℕ} → figures (d ∷ []) ≡ tenths_answer s.density → figures (l ∷ t ∷ d ∷ []) ≡ set_answer s
      all_shown g =
          rw ((number_shown s.level e).1, (number_shown s.temperature f).1, (number_shown s.density g).1)
          (by_verdict (past_temperature ∙ (number_shown s.density g).0))

-- What a set's answer was made of.

pub set_verdict : (s : ProbeSet) → set_answer s ≡ answer (first (set_tests s)) (values s)
unfolding set_answer
set_verdict s = refl

pub set_refused : (s : ProbeSet) {n : ℕ} → refusal n ≡ set_answer s → first (set_tests s) ≡ refuses n
set_refused s e = answer_refusal (first (set_tests s)) (values s) (e ∙ set_verdict s)

pub set_shown : (s : ProbeSet) {t : SetTenths} → figures (t.level ∷ t.temperature ∷ t.density.0 ∷ []) ≡ set_answer s → SetShown s t
set_shown s e =
    let p = answer_figures (first (set_tests s)) (e ∙ set_verdict s) in
    let q = p.1 in
    record { none = p.0; level = cc; temperature = cc; density = cc }
