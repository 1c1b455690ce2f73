-- How an answer is handed to a caller in C or Rust: a number, 0 beside figures and else the refusal's, and what the lent places hold afterwards.
use Rattle.std.specs.Prelude.{ℕ, ◌≡◌, Bool, cond, List, [], ◌∷◌, eqb, length, Result, Ok, Err}
use Rattle.base.specs.Answer.{Answer, figures, refusal}
use Rattle.base.specs.Refusal.{refusal_number}
use Rattle.base.specs.declared.refusal.Refusal.{Refusal}

-- no refusals of document 01: a lent slice has not the length that is asked for; a byte is no letter
abbrev pub bad_length : ℕ
bad_length = 1_000

abbrev pub bad_letter : ℕ
bad_letter = 1_001

abbrev pub length_is : ℕ → List ℕ → Bool
length_is n s = eqb (length s) n

-- an operation's answer where every length is right
abbrev pub sized : Bool → Answer → Answer
sized right a = cond right a (refusal bad_length)

-- the number handed back
abbrev pub number_handed : Answer → ℕ
number_handed (figures vs) = 0
number_handed (refusal n) = n

-- what a lent number, or lent numbers, hold afterwards: a refusal leaves them
abbrev pub figure_left : Answer → ℕ → ℕ
figure_left (figures []) lent = lent
figure_left (figures (v ∷ vs)) lent = v
figure_left (refusal n) lent = lent

abbrev pub figures_left : Answer → List ℕ → List ℕ
figures_left (figures vs) lent = vs
figures_left (refusal n) lent = lent

-- an answer: the number r handed back, and a lent place before and after
pub record Handed {A : Type 0} (after : Answer → A → A) (a : Answer) (r : ℕ) (lent left : A) : Type 0 where
  pub number : r ≡ number_handed a
  pub contents : left ≡ after a lent

-- The same of an operation that has one figure, by its result.

abbrev pub number_given : {A : Type 0} → Result A Refusal → ℕ
number_given (Ok a) = 0
number_given (Err e) = refusal_number e

abbrev pub one_left : {A : Type 0} → Result A Refusal → A → A
one_left (Ok a) lent = a
one_left (Err e) lent = lent

pub record OneHanded {A : Type 0} (a : Result A Refusal) (r : ℕ) (lent left : A) : Type 0 where
  pub number : r ≡ number_given a
  pub contents : left ≡ one_left a lent
