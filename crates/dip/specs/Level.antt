-- Step 1 of document 01, the mean level of two or four readings, with refusals 14, 15, 23 and 16. Readings are in mm, a mean level in tenths of a mm.
use Rattle.std.specs.Prelude.{ℕ, ◌+◌, ◌-◌, ◌*◌, Bool, cond, not, ◌&&◌, ◌||◌, List, [], ◌∷◌, ◌++◌, ltb, leb, eqb, get_or}
use Rattle.base.specs.Rounding.{rounded}
use Rattle.base.specs.Numbers.{difference}
use Rattle.base.specs.Limits.{tenths}
use Rattle.base.specs.Answer.{Test, refuse_if, first, Answer, answer}

-- a number put in its place among numbers in rising order
abbrev pub inserted : ℕ → List ℕ → List ℕ
inserted x [] = x ∷ []
inserted x (y ∷ ys) = cond (leb x y) (x ∷ y ∷ ys) (y ∷ inserted x ys)

-- numbers in rising order
abbrev pub sorted : List ℕ → List ℕ
sorted [] = []
sorted (x ∷ xs) = inserted x (sorted xs)

-- R of ten times the mean of n readings, by their sum
abbrev pub mean_of : ℕ → ℕ → ℕ
mean_of sum n = rounded (tenths * sum) n

-- the three closest of a, b, c, d, which stand in rising order; the lower three where both triples are as close
abbrev pub closest : ℕ → ℕ → ℕ → ℕ → List ℕ
closest a b c d = cond (leb (c - a) (d - b)) (a ∷ b ∷ c ∷ []) (b ∷ c ∷ d ∷ [])

-- the same of a list of four in rising order
abbrev pub closest_of : List ℕ → List ℕ
closest_of s = closest (get_or s 0 0) (get_or s 1 0) (get_or s 2 0) (get_or s 3 0)

-- the sum of three readings, and the same of them
abbrev pub sum_of_three : List ℕ → ℕ
sum_of_three t = get_or t 0 0 + get_or t 1 0 + get_or t 2 0

abbrev pub mean_of_three : List ℕ → ℕ
mean_of_three t = mean_of (sum_of_three t) 3

-- two readings differ by more than 1 mm
abbrev pub apart : ℕ → ℕ → Bool
apart a b = ltb 1 (difference a b)

-- the mean level of four readings, of which the last two count only where the first two are apart
unfoldable pub mean_level : List ℕ → ℕ
mean_level x = cond (apart (get_or x 0 0) (get_or x 1 0)) (mean_of_three (closest_of (sorted x))) (mean_of (get_or x 0 0 + get_or x 1 0) 2)

-- 14: the number n of readings is neither 2 nor 4, or an unused one is not 0
abbrev pub unused_bad : ℕ → List ℕ → Bool
unused_bad n x = not (eqb n 2 || eqb n 4) || eqb n 2 && (not (eqb (get_or x 2 0) 0) || not (eqb (get_or x 3 0) 0))

-- 15: two readings are given and they are apart
abbrev pub disagree : ℕ → List ℕ → Bool
disagree n x = eqb n 2 && apart (get_or x 0 0) (get_or x 1 0)

-- how far three readings in rising order lie apart, in mm
abbrev pub span : List ℕ → ℕ
span t = get_or t 2 0 - get_or t 0 0

-- 23: three of four readings are used and they span more than 3 mm
abbrev pub scattered : ℕ → List ℕ → Bool
scattered n x = eqb n 4 && (apart (get_or x 0 0) (get_or x 1 0) && ltb 3 (span (closest_of (sorted x))))

-- the refusals of n readings, in the listed order
abbrev pub readings_tests : ℕ → List ℕ → List Test
readings_tests n x =
    refuse_if 14 (unused_bad n x)
    ∷ refuse_if 15 (disagree n x)
    ∷ refuse_if 23 (scattered n x)
    ∷ []

-- the mean level by itself, which is refused where it is 0
unfoldable pub mean_level_answer : ℕ → List ℕ → Answer
mean_level_answer n x = answer (first (readings_tests n x ++ (refuse_if 16 (eqb (mean_level x) 0) ∷ []))) (mean_level x ∷ [])
