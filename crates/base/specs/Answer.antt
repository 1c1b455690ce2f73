-- Tests, verdicts and answers in document 01's terms: the first refusal that applies, in the listed order, or the figures.
use Rattle.std.specs.Prelude.{ℕ, Bool, cond, List, [], ◌∷◌}

-- a test: the number of a refusal, and whether it applies
pub record Test : Type 0 where
  pub number : ℕ
  pub applies : Bool

abbrev pub refuse_if : ℕ → Bool → Test
refuse_if n b = record { number = n; applies = b }

-- the last number of the list of refusals
abbrev pub last_refusal : ℕ
last_refusal = 35

pub data Verdict : Type 0 where
  accepts : Verdict
  refuses : ℕ → Verdict

-- the first test of a list that applies
abbrev pub first : List Test → Verdict
first [] = accepts
first (t ∷ ts) = cond t.applies (refuses t.number) (first ts)

-- a verdict as the code hands it on: the refusal's number, 0 where there is none
abbrev pub number_of : Verdict → ℕ
number_of accepts = 0
number_of (refuses n) = n

abbrev pub first_number : List Test → ℕ
first_number ts = number_of (first ts)

-- what an operation answers: its figures, or a refusal
pub data Answer : Type 0 where
  figures : List ℕ → Answer
  refusal : ℕ → Answer

abbrev pub answer : Verdict → List ℕ → Answer
answer accepts values = figures values
answer (refuses n) values = refusal n
