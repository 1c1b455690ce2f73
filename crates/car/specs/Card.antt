-- The rack card: the starred figures of document 01, with levels in tenths of a mm by request (g), and for each refusal of a car the cars just inside and
-- just outside, in one table that one statement covers. A car stands by the fourteen numbers of its C line.
use Rattle.std.specs.Prelude.{ℕ, ◌≡◌, List, [], ◌∷◌, ◌++◌, take, drop}
use Rattle.base.specs.Answer.{Answer, figures, refusal}
use Rattle.base.specs.Lists.{Each}
use Rattle.dip.specs.Tape.{allowance_answer}
use Rattle.table.specs.Table.{Table}
use Rattle.gauging.specs.Capacity.{capacity_answer}
use Rattle.heating.specs.Steps.{exponent}
use Rattle.heating.specs.Answers.{expansion_answer, factor_answer, density20_answer}
use Rattle.kilograms.specs.Steps.{stick_coefficient, hot_volume}
use Rattle.car.specs.Car.{car_of, dipped, alone_answer}

-- the table of document 01's sheet
abbrev pub card_tables : List Table
card_tables =
    record {
      kind = 1;
      rows =
          record { level = 0; capacity = 0 }
          ∷ record { level = 1_000; capacity = 20_000 }
          ∷ record { level = 2_000; capacity = 50_000 }
          ∷ record { level = 3_000; capacity = 70_000 }
          ∷ [];
    }
    ∷ []

-- a table that 7 turns away, and one that 8 does
abbrev pub bad_type : Table
bad_type = record { kind = 0; rows = record { level = 0; capacity = 0 } ∷ record { level = 1; capacity = 1 } ∷ [] }

abbrev pub bad_row : Table
bad_row = record { kind = 1; rows = record { level = 0; capacity = 0 } ∷ record { level = 0; capacity = 1 } ∷ [] }

-- what the rules give, and what the card says
pub record Figure : Type 0 where
  pub reckoned : Answer
  pub card : Answer

abbrev pub gives : Answer → Answer → Figure
gives a b = record { reckoned = a; card = b }

-- a car alone shows six figures, passes, or is refused
abbrev shows : List ℕ → List ℕ → Figure
shows ns values = gives (alone_answer card_tables (dipped (car_of ns))) (figures values)

abbrev pub without_figures : Answer → Answer
without_figures (figures values) = figures []
without_figures (refusal n) = refusal n

abbrev passes : List ℕ → Figure
passes ns = gives (without_figures (alone_answer card_tables (dipped (car_of ns)))) (figures [])

abbrev refused : ℕ → List ℕ → Figure
refused n ns = gives (alone_answer card_tables (dipped (car_of ns))) (refusal n)

-- the first car of document 01's sheet
abbrev pub first_car : List ℕ
first_car = 50_000_001 ∷ 1 ∷ 3 ∷ 1 ∷ 2 ∷ 1_500 ∷ 1_500 ∷ 0 ∷ 0 ∷ 0 ∷ 600 ∷ 9_500 ∷ 50 ∷ 20 ∷ []

-- with another number
abbrev pub with_number : ℕ → List ℕ
with_number number = number ∷ drop 1 first_car

-- with another type, grade and stick
abbrev pub with_codes : ℕ → ℕ → ℕ → List ℕ
with_codes kind grade stick = take 1 first_car ++ (kind ∷ grade ∷ stick ∷ drop 4 first_car)

-- with another number of readings, four other readings and water level, in mm
abbrev pub with_dip : ℕ → ℕ → ℕ → ℕ → ℕ → ℕ → List ℕ
with_dip count a b c d water = take 4 first_car ++ (count ∷ a ∷ b ∷ c ∷ d ∷ water ∷ drop 10 first_car)

-- with four readings of which no three agree
abbrev scattered_dip : List ℕ → List ℕ
scattered_dip ns = take 4 ns ++ (4 ∷ 1_500 ∷ 1_510 ∷ 1_520 ∷ 1_530 ∷ drop 9 ns)

-- with another grade, temperature, density at 15 °C, water and impurities
abbrev pub with_oil : ℕ → ℕ → ℕ → ℕ → ℕ → List ℕ
with_oil grade t r w i = take 10 (with_codes 1 grade 1) ++ (t ∷ r ∷ w ∷ i ∷ [])

unfoldable pub card : List Figure
card =
    -- B, X, E at 60 °C and the density at 20 °C of the first car's oil; Vt with either stick; the capacity at 10 tenths; the tape
    -- allowance at a metre, a tenth and a millimetre above
    gives (expansion_answer 9_500) (figures (718_937 ∷ []))
    ∷ gives (figures (exponent 718_937 450 ∷ [])) (figures (331_894_951 ∷ []))
    ∷ gives (factor_answer 9_500 600) (figures (9_673_552_332 ∷ []))
    ∷ gives (density20_answer 9_500) (figures (9_466 ∷ []))
    ∷ gives (figures (hot_volume 3_500_000 (stick_coefficient 1) 600 ∷ [])) (figures (3_507_000 ∷ []))
    ∷ gives (figures (hot_volume 3_500_000 (stick_coefficient 2) 600 ∷ [])) (figures (3_508_470 ∷ []))
    ∷ gives (capacity_answer card_tables 1 10) (figures (2_000 ∷ []))
    ∷ gives (allowance_answer 10_000) (figures (30 ∷ []))
    ∷ gives (allowance_answer 10_001) (figures (45 ∷ []))
    ∷ gives (allowance_answer 10_010) (figures (45 ∷ []))
    -- the first car; with an aluminium stick
    ∷ shows first_car (50_000_001 ∷ 15_000 ∷ 3_500_000 ∷ 3_392_515 ∷ 32_229 ∷ 32_003 ∷ [])
    ∷ shows (with_codes 1 3 2) (50_000_001 ∷ 15_000 ∷ 3_500_000 ∷ 3_393_937 ∷ 32_242 ∷ 32_016 ∷ [])
    -- three of four readings: the lower, (1,500 + 1,501 + 1,502) / 3 = 1,501; the upper, (1,502 + 1,503 + 1,503) / 3 = 1,502.67; of two triples as close
    -- the lower, (1,500 + 1,501 + 1,502) / 3 = 1,501
    ∷ shows (with_dip 4 1_500 1_504 1_501 1_502 0) (50_000_001 ∷ 15_010 ∷ 3_503_000 ∷ 3_395_423 ∷ 32_257 ∷ 32_031 ∷ [])
    ∷ shows (with_dip 4 1_500 1_503 1_503 1_502 0) (50_000_001 ∷ 15_027 ∷ 3_508_100 ∷ 3_400_366 ∷ 32_303 ∷ 32_077 ∷ [])
    ∷ shows (with_dip 4 1_500 1_503 1_501 1_502 0) (50_000_001 ∷ 15_010 ∷ 3_503_000 ∷ 3_395_423 ∷ 32_257 ∷ 32_031 ∷ [])
    -- two readings, (1,500 + 1,501) / 2 = 1,500.5, and over water up to half a mm below; a full car
    ∷ shows (with_dip 2 1_500 1_501 0 0 0) (50_000_001 ∷ 15_005 ∷ 3_501_500 ∷ 3_393_969 ∷ 32_243 ∷ 32_017 ∷ [])
    ∷ shows (with_dip 2 1_500 1_501 0 0 1_500) (50_000_001 ∷ 15_005 ∷ 1_500 ∷ 1_454 ∷ 14 ∷ 14 ∷ [])
    ∷ shows (with_dip 2 3_000 3_000 0 0 0) (50_000_001 ∷ 30_000 ∷ 7_000_000 ∷ 6_785_030 ∷ 64_458 ∷ 64_007 ∷ [])
    -- water under the oil: net of the gross as shown, and the light and the dense end of 19
    ∷ shows (50_000_001 ∷ 1 ∷ 3 ∷ 1 ∷ 2 ∷ 1_500 ∷ 1_500 ∷ 0 ∷ 0 ∷ 500 ∷ 900 ∷ 9_000 ∷ 50 ∷ 20 ∷ []) (50_000_001 ∷ 15_000 ∷ 2_500_000 ∷ 2_361_466 ∷ 21_253 ∷ 21_104 ∷ [])
    ∷ shows (50_000_001 ∷ 1 ∷ 3 ∷ 1 ∷ 2 ∷ 1_500 ∷ 1_500 ∷ 0 ∷ 0 ∷ 500 ∷ 400 ∷ 9_900 ∷ 50 ∷ 20 ∷ []) (50_000_001 ∷ 15_000 ∷ 2_500_000 ∷ 2_459_631 ∷ 24_350 ∷ 24_180 ∷ [])
    -- 10
    ∷ refused 10 (with_number 0)
    ∷ passes (with_number 1)
    ∷ passes (with_number 99_999_999)
    ∷ refused 10 (with_number 100_000_000)
    -- 12
    ∷ refused 12 (with_codes 0 3 1)
    ∷ refused 12 (with_codes 2 3 1)
    -- 13
    ∷ refused 13 (with_codes 1 0 1)
    ∷ passes (with_oil 1 600 9_500 30 10)
    ∷ passes (with_oil 2 600 9_500 30 12)
    ∷ passes (with_codes 1 4 1)
    ∷ refused 13 (with_codes 1 5 1)
    ∷ refused 13 (with_codes 1 3 0)
    ∷ passes (with_codes 1 3 2)
    ∷ refused 13 (with_codes 1 3 3)
    -- 14: with two given both others must be 0; with four given and the first two agreeing the others may be any
    ∷ refused 14 (with_dip 1 1_500 1_500 0 0 0)
    ∷ refused 14 (with_dip 3 1_500 1_500 0 0 0)
    ∷ refused 14 (with_dip 5 1_500 1_500 0 0 0)
    ∷ refused 14 (with_dip 2 1_500 1_500 1 0 0)
    ∷ refused 14 (with_dip 2 1_500 1_500 0 1 0)
    ∷ passes (with_dip 4 1_500 1_500 0 99_999_999 0)
    -- 15, for two readings only
    ∷ passes (with_dip 2 1_500 1_501 0 0 0)
    ∷ passes (with_dip 2 1_501 1_500 0 0 0)
    ∷ refused 15 (with_dip 2 1_500 1_502 0 0 0)
    ∷ refused 15 (with_dip 2 1_502 1_500 0 0 0)
    ∷ passes (with_dip 4 1_500 1_502 1_501 1_501 0)
    -- 23, where three of four are used: they span 3 mm, then 4 mm, as the lower three, the upper three, and of two triples as close
    ∷ passes (with_dip 4 1_500 1_503 1_501 1_509 0)
    ∷ refused 23 (with_dip 4 1_500 1_504 1_501 1_509 0)
    ∷ passes (with_dip 4 1_500 1_507 1_505 1_508 0)
    ∷ refused 23 (with_dip 4 1_500 1_508 1_505 1_509 0)
    ∷ passes (with_dip 4 1_500 1_503 1_501 1_504 0)
    ∷ refused 23 (with_dip 4 1_500 1_504 1_501 1_505 0)
    -- not where the first two agree, nor where two are given
    ∷ passes (with_dip 4 1_500 1_501 0 99_999_999 0)
    ∷ passes (with_dip 4 1_501 1_500 1_504 1_508 0)
    ∷ refused 15 (with_dip 2 1_500 1_504 0 0 0)
    -- 16: 0, and the least levels above it: (0 + 0 + 1) / 3, (0 + 1) / 2 and (0 + 1 + 1) / 3, though the tape has no allowance for them
    ∷ refused 16 (with_dip 2 0 0 0 0 0)
    ∷ shows (with_dip 4 0 2 0 1 0) (50_000_001 ∷ 3 ∷ 600 ∷ 581 ∷ 6 ∷ 6 ∷ [])
    ∷ shows (with_dip 2 0 1 0 0 0) (50_000_001 ∷ 5 ∷ 1_000 ∷ 969 ∷ 9 ∷ 9 ∷ [])
    ∷ shows (with_dip 4 0 2 1 1 0) (50_000_001 ∷ 7 ∷ 1_400 ∷ 1_357 ∷ 13 ∷ 13 ∷ [])
    -- the last level and above it: (3,000 + 3,001) / 2 = 3,000.5 and (3,000 + 3,000 + 3,001) / 3 = 3,000.33
    ∷ passes (with_dip 2 3_000 3_000 0 0 0)
    ∷ refused 16 (with_dip 2 3_000 3_001 0 0 0)
    ∷ refused 16 (with_dip 4 3_000 3_002 3_000 3_001 0)
    ∷ refused 16 (with_dip 2 3_001 3_001 0 0 0)
    -- 17: water in whole mm below a level in tenths; a water level of which ten times wants more than 32 bits
    ∷ passes (with_dip 2 1_500 1_500 0 0 1_499)
    ∷ refused 17 (with_dip 2 1_500 1_500 0 0 1_500)
    ∷ passes (with_dip 2 1_500 1_501 0 0 1_500)
    ∷ refused 17 (with_dip 2 1_500 1_501 0 0 1_501)
    ∷ refused 17 (with_dip 2 1_500 1_500 0 0 429_496_730)
    -- 18, by grade
    ∷ refused 18 (with_oil 1 199 9_000 30 10)
    ∷ passes (with_oil 1 200 9_000 30 10)
    ∷ passes (with_oil 1 900 9_000 30 10)
    ∷ refused 18 (with_oil 1 901 9_000 30 10)
    ∷ refused 18 (with_oil 2 199 9_000 30 10)
    ∷ passes (with_oil 2 200 9_000 30 10)
    ∷ passes (with_oil 2 900 9_000 30 10)
    ∷ refused 18 (with_oil 2 901 9_000 30 10)
    ∷ refused 18 (with_oil 3 399 9_000 30 10)
    ∷ passes (with_oil 3 400 9_000 30 10)
    ∷ passes (with_oil 3 900 9_000 30 10)
    ∷ refused 18 (with_oil 3 901 9_000 30 10)
    ∷ refused 18 (with_oil 4 399 9_000 30 10)
    ∷ passes (with_oil 4 400 9_000 30 10)
    ∷ passes (with_oil 4 900 9_000 30 10)
    ∷ refused 18 (with_oil 4 901 9_000 30 10)
    -- 19
    ∷ refused 19 (with_oil 3 600 8_999 50 20)
    ∷ passes (with_oil 3 600 9_000 50 20)
    ∷ passes (with_oil 3 600 9_900 50 20)
    ∷ refused 19 (with_oil 3 600 9_901 50 20)
    -- 20, by grade
    ∷ passes (with_oil 1 600 9_500 30 10)
    ∷ refused 20 (with_oil 1 600 9_500 31 10)
    ∷ refused 20 (with_oil 1 600 9_500 30 11)
    ∷ passes (with_oil 2 600 9_500 30 12)
    ∷ refused 20 (with_oil 2 600 9_500 31 12)
    ∷ refused 20 (with_oil 2 600 9_500 30 13)
    ∷ passes (with_oil 3 600 9_500 100 50)
    ∷ refused 20 (with_oil 3 600 9_500 101 50)
    ∷ refused 20 (with_oil 3 600 9_500 100 51)
    ∷ passes (with_oil 4 600 9_500 100 100)
    ∷ refused 20 (with_oil 4 600 9_500 101 100)
    ∷ refused 20 (with_oil 4 600 9_500 100 101)
    -- 21, for grades 1 and 2
    ∷ passes (with_oil 1 600 9_584 0 0)
    ∷ refused 21 (with_oil 1 600 9_585 0 0)
    ∷ passes (with_oil 2 600 9_634 0 0)
    ∷ refused 21 (with_oil 2 600 9_635 0 0)
    ∷ passes (with_oil 4 600 9_900 0 0)
    -- two faults: the first in the list is given
    ∷ gives (alone_answer (bad_type ∷ []) (dipped (car_of (with_number 0)))) (refusal 7)
    ∷ gives (alone_answer (bad_row ∷ []) (dipped (car_of (with_number 0)))) (refusal 8)
    ∷ gives (alone_answer (bad_row ∷ bad_type ∷ []) (dipped (car_of first_car))) (refusal 8)
    ∷ refused 10 (0 ∷ 2 ∷ 3 ∷ 1 ∷ 2 ∷ 1_500 ∷ 1_500 ∷ 0 ∷ 0 ∷ 0 ∷ 600 ∷ 9_500 ∷ 50 ∷ 20 ∷ [])
    ∷ refused 12 (with_codes 2 0 1)
    ∷ refused 13 (50_000_001 ∷ 1 ∷ 0 ∷ 1 ∷ 3 ∷ 1_500 ∷ 1_500 ∷ 0 ∷ 0 ∷ 0 ∷ 600 ∷ 9_500 ∷ 50 ∷ 20 ∷ [])
    ∷ refused 14 (with_dip 2 1_500 1_502 1 0 0)
    ∷ refused 14 (with_dip 3 0 0 0 0 0)
    ∷ refused 15 (with_dip 2 3_001 3_003 0 0 0)
    -- 9,003, 9,005 and the two unused 0s: by step 1 their mean level is 30,010
    ∷ refused 15 (with_dip 2 9_003 9_005 0 0 0)
    ∷ refused 12 (scattered_dip (with_codes 2 3 1))
    ∷ refused 13 (scattered_dip (with_codes 1 5 1))
    ∷ refused 14 (with_dip 3 1_500 1_510 1_520 1_530 0)
    ∷ refused 23 (with_dip 4 3_001 3_011 3_021 3_031 0)
    ∷ refused 23 (with_dip 4 1_500 1_510 1_520 1_530 1_530)
    ∷ refused 23 (scattered_dip (with_oil 3 399 9_500 50 20))
    ∷ refused 23 (scattered_dip (with_oil 3 600 8_999 50 20))
    ∷ refused 23 (scattered_dip (with_oil 3 600 9_500 101 20))
    ∷ refused 23 (scattered_dip (with_oil 1 600 9_585 0 0))
    ∷ refused 16 (with_dip 2 3_001 3_001 0 0 3_001)
    ∷ refused 17 (50_000_001 ∷ 1 ∷ 3 ∷ 1 ∷ 2 ∷ 1_500 ∷ 1_500 ∷ 0 ∷ 0 ∷ 1_500 ∷ 399 ∷ 9_500 ∷ 50 ∷ 20 ∷ [])
    ∷ refused 18 (with_oil 3 399 8_999 50 20)
    ∷ refused 19 (with_oil 3 600 8_999 101 20)
    ∷ refused 20 (with_oil 1 600 9_585 31 0)
    ∷ []

-- the rules give each figure of the card
pub record AllRight : Type 0 where
  pub each : Each (λ f. f.reckoned ≡ f.card) card
