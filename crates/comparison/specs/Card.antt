-- The rack card of a stick against the tape: halves, 2 mm and beyond, both ways; allowances; the edges of 28 and 29; places that are not given.
use Rattle.std.specs.Prelude.{ℕ, ◌+◌, ◌-◌, ◌≡◌, List, [], ◌∷◌, ◌++◌, replicate}
use Rattle.base.specs.Answer.{Answer, figures, refusal}
use Rattle.base.specs.Lists.{Each}
use Rattle.comparison.specs.Answers.{check_answer}

-- a stick level in tenths of a mm, readings in mm
pub record CheckCase : Type 0 where
  pub stick : ℕ
  pub count : ℕ
  pub places : List ℕ
  pub card : Answer

-- twenty places: n of one number, then k of another, and a third in those that are left
abbrev tape : ℕ → ℕ → ℕ → ℕ → ℕ → List ℕ
tape n mm k other left = replicate n mm ++ replicate k other ++ replicate (20 - (n + k)) left

-- a stick level beside n readings of one level and k of another
abbrev beside : ℕ → ℕ → ℕ → ℕ → ℕ → Answer → CheckCase
beside stick n mm k other card = record { stick = stick; count = n + k; places = tape n mm k other 0; card = card }

-- the same beside so many readings out of these places
abbrev among : ℕ → ℕ → List ℕ → Answer → CheckCase
among stick count places card = record { stick = stick; count = count; places = places; card = card }

-- in 0.01 mm: above the mean or at it, and below it; what passes, and what does not; the allowance behind
abbrev above : ℕ → ℕ → Answer
above size allowance = figures (0 ∷ size ∷ 1 ∷ allowance ∷ [])

abbrev below : ℕ → ℕ → Answer
below size allowance = figures (1 ∷ size ∷ 1 ∷ allowance ∷ [])

abbrev too_far_above : ℕ → ℕ → Answer
too_far_above size allowance = figures (0 ∷ size ∷ 0 ∷ allowance ∷ [])

abbrev too_far_below : ℕ → ℕ → Answer
too_far_below size allowance = figures (1 ∷ size ∷ 0 ∷ allowance ∷ [])

unfoldable pub check_card : List CheckCase
check_card =
    -- a half goes away from zero: 0.125, 0.025 and 0.075 mm
    beside 15_000 14 1_500 2 1_501 (below 13 45)
    ∷ beside 15_000 14 1_500 2 1_499 (above 13 45)
    ∷ beside 15_004 10 1_500 6 1_501 (above 3 45)
    ∷ beside 15_003 10 1_500 6 1_501 (below 8 45)
    -- a twelfth and a thirteenth of a mm; the least difference, 1/190 mm
    ∷ beside 15_000 11 1_500 1 1_501 (below 8 45)
    ∷ beside 15_000 12 1_500 1 1_499 (above 8 45)
    ∷ beside 15_009 2 1_500 17 1_501 (above 1 45)
    ∷ beside 15_001 17 1_500 2 1_501 (below 1 45)
    -- 2 mm passes, and 0 has no sign
    ∷ beside 15_000 10 1_498 0 0 (above 200 45)
    ∷ beside 15_000 10 1_502 0 0 (below 200 45)
    ∷ beside 15_020 20 1_500 0 0 (above 200 45)
    ∷ beside 14_980 20 1_500 0 0 (below 200 45)
    ∷ beside 15_000 20 1_500 0 0 (above 0 45)
    ∷ beside 15_005 10 1_500 10 1_501 (above 0 45)
    -- 2 1/190 mm, shown as 2.01, 2.05 and 2.1 mm do not
    ∷ beside 15_009 2 1_498 17 1_499 (too_far_above 201 45)
    ∷ beside 15_001 17 1_502 2 1_503 (too_far_below 201 45)
    ∷ beside 15_000 19 1_498 1 1_497 (too_far_above 205 45)
    ∷ beside 15_000 19 1_502 1 1_503 (too_far_below 205 45)
    ∷ beside 15_021 20 1_500 0 0 (too_far_above 210 45)
    ∷ beside 14_979 20 1_500 0 0 (too_far_below 210 45)
    -- the farthest apart; the allowance on both sides of a metre, which a tenth begins
    ∷ beside 10 10 3_600 0 0 (too_far_below 359_900 30)
    ∷ beside 36_000 10 1 0 0 (too_far_above 359_900 75)
    ∷ beside 10_000 10 1_001 0 0 (below 100 30)
    ∷ beside 10_001 10 1_000 0 0 (above 10 45)
    -- 28, also where a level is out of its range
    ∷ among 15_000 9 (tape 20 1_500 0 0 0) (refusal 28)
    ∷ among 15_000 21 (tape 20 1_500 0 0 0) (refusal 28)
    ∷ among 0 0 (tape 0 0 0 0 0) (refusal 28)
    ∷ among 36_001 9 (tape 20 3_601 0 0 0) (refusal 28)
    -- 29: the stick level, the first reading and the last one given, below the range and above it; a stick level of which 32 bits would be 15,000
    ∷ beside 9 10 1_500 0 0 (refusal 29)
    ∷ beside 36_001 10 1_500 0 0 (refusal 29)
    ∷ beside 4_294_982_296 10 1_500 0 0 (refusal 29)
    ∷ among 15_000 10 (tape 1 0 19 1_500 0) (refusal 29)
    ∷ among 15_000 10 (tape 1 3_601 19 1_500 0) (refusal 29)
    ∷ beside 15_000 9 1_500 1 0 (refusal 29)
    ∷ beside 15_000 19 1_500 1 3_601 (refusal 29)
    -- places that are not given are not looked at
    ∷ among 15_000 10 (tape 10 1_498 0 0 4_294_967_295) (above 200 45)
    ∷ among 15_000 19 (tape 19 1_500 1 0 0) (above 0 45)
    ∷ []

pub record ChecksRight : Type 0 where
  pub answers : Each (λ (c : CheckCase). check_answer c.stick c.count c.places ≡ c.card) check_card
