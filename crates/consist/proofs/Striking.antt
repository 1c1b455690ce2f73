-- Laws of striking a car: what a strike answers, and what it leaves.
use Prim.Native.Nat.{ℕ, ◌-◌, ◌<◌}
use mathlib.Core.Path.{◌≡◌}
use mathlib.Core.Bool.{true, false}
use mathlib.Core.List.{List, [], ◌∷◌}
use Rattle.base.specs.Answer.{figures, refusal}
use Rattle.base.specs.Numbers.{member}
use Rattle.consist.specs.Train.{Train, held_by, car_at, unsound, strike_tests, strike_answer, position, closed, sums_less, without_at, strike_train}
use Rattle.consist.specs.Inner.{Sixty, SoundTrain}
use Rattle.consist.specs.Lent.{lent_train}
use Rattle.consist.proofs.Entering.{sound_not}
use Rattle.consist.proofs.Lent.{lent_made, made_without}

module _ (t : Train) (number : ℕ) where
  -- turned away by 9
  pub unsound_strike : unsound t ≡ true → (refusal 9 ≡ strike_answer t number) × (t ≡ strike_train t number)
  unfolding strike_tests strike_answer strike_train
  unsound_strike e = (simp e, simp e)

  -- a sound train: 30, or the car is taken out
  module _ (sound : SoundTrain t) where
    pub not_held : member number (held_by t) ≡ false → (refusal 30 ≡ strike_answer t number) × (t ≡ strike_train t number)
    unfolding strike_tests strike_answer strike_train
    not_held e = (simp (sound_not t sound, e), simp (sound_not t sound, e))

    pub is_held : member number (held_by t) ≡ true
        → (figures (number ∷ []) ≡ strike_answer t number) × (without_at t (position number (held_by t)) ≡ strike_train t number)
    unfolding strike_tests strike_answer strike_train
    is_held e = (simp (sound_not t sound, e), simp (sound_not t sound, e))

-- the rows without place k, as the code makes them
pub taken_out : (t : Train) (k : ℕ) {ns gs xs ys : List ℕ} → Sixty t → SoundTrain t → k < t.held
    → ns ≡ closed k t.numbers → gs ≡ closed k t.grades → xs ≡ closed k t.grosses → ys ≡ closed k t.nets
    → lent_train (t.held - 1) ns gs xs ys ≡ without_at t k
taken_out t k s sound low p q r e =
    rw (p, q, r, e)
    (lent_made (sums_less t.sums (car_at t k)) (t.held - 1) (closed k t.numbers) (closed k t.grades) (closed k t.grosses) (closed k t.nets)
    (made_without t k s sound.place low sound.made))
