-- The tape allowance of document 01 (002, 14.1.1), with refusal 16. Levels are in tenths of a mm.
use Rattle.std.specs.Prelude.{ℕ, ◌-◌, ◌*◌, ◌/◌, Bool, List, [], ◌∷◌, get_or}
use Rattle.base.specs.Limits.{highest_level, tenths}
use Rattle.base.specs.Numbers.{outside}
use Rattle.base.specs.Answer.{refuse_if, first, Answer, answer}

-- a metre of 1,000 mm
abbrev pub metre : ℕ
metre = tenths * 1_000

-- 0.01 mm, for 1, 2, 3, 4 whole and part metres
abbrev pub allowances : List ℕ
allowances = 30 ∷ 45 ∷ 60 ∷ 75 ∷ []

-- the list's number for a level, by the metres that it has begun: a tenth begins one
abbrev pub listed : ℕ → ℕ
listed level = get_or allowances ((level - 1) / metre) 0

-- 16: a level outside 1 to 3,600 mm, that is 10 to 36,000 tenths
abbrev pub off_tape : ℕ → Bool
off_tape level = outside tenths (tenths * highest_level) level

unfoldable pub allowance_answer : ℕ → Answer
allowance_answer level = answer (first (refuse_if 16 (off_tape level) ∷ [])) (listed level ∷ [])
