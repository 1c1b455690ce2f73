-- 23 said without sorting or choosing: the first two of four readings are apart, and no 3 mm hold three of the four.
use Rattle.std.specs.Prelude.{ℕ, ◌+◌, ◌<◌, ◌≡◌, true, cond, ◌&&◌, List, [], ◌∷◌, leb, get_or}
use Rattle.base.specs.Answer.{Answer, refusal}
use Rattle.dip.specs.Level.{apart}

-- how many readings lie within the 3 mm from w on
abbrev pub held_from : ℕ → List ℕ → ℕ
held_from w [] = 0
held_from w (y ∷ ys) = cond (leb w y && leb y (w + 3)) 1 0 + held_from w ys

-- n readings that do not belong together
pub record NoThreeAgree (n : ℕ) (x : List ℕ) : Type 0 where
  pub four : n ≡ 4
  pub first_two : apart (get_or x 0 0) (get_or x 1 0) ≡ true
  pub none : (w : ℕ) → held_from w x < 3

-- an answer is 23 there and nowhere else
pub record RedipRight (n : ℕ) (x : List ℕ) (a : Answer) : Type 0 where
  pub there : NoThreeAgree n x → a ≡ refusal 23
  pub nowhere_else : a ≡ refusal 23 → NoThreeAgree n x
