-- The rack card of the permitted error: terms, limits, and each refusal just inside and just outside. A car stands by the fourteen numbers of its
-- C line, errors by their six: capacity, density, processing, density temperature, oil temperature, level.
use Rattle.std.specs.Prelude.{ℕ, ◌≡◌, Bool, true, false, List, [], ◌∷◌, map}
use Rattle.base.specs.Answer.{Answer, figures, refusal}
use Rattle.base.specs.Lists.{Each}
use Rattle.table.specs.Table.{Table, row_of}
use Rattle.heating.specs.Steps.{expansion}
use Rattle.car.specs.Car.{car_of, measured, dipped}
use Rattle.car.specs.Card.{card_tables, bad_type, bad_row, first_car, with_number, with_codes, with_dip, with_oil}
use Rattle.accuracy.specs.Terms.{temperature_term, density_factor, times_factor, sum_of_squares}
use Rattle.accuracy.specs.Limit.{within}
use Rattle.accuracy.specs.Permitted.{errors_of, level_term_of, terms_of, PermittedAnswer}

-- Tables of type 1.

abbrev table : List (ℕ × ℕ) → List Table
table rows = record { kind = 1; rows = map (λ r. row_of r.0 r.1) rows } ∷ []

-- of annex Д of 002, with the row 0 and 0 that document 01 asks for, and its car
abbrev annex_tables : List Table
annex_tables = table ((0, 0) ∷ (100, 435) ∷ (2_900, 72_959) ∷ (2_910, 73_080) ∷ [])

abbrev annex_car : List ℕ
annex_car = 1 ∷ 1 ∷ 4 ∷ 1 ∷ 2 ∷ 2_904 ∷ 2_904 ∷ 0 ∷ 0 ∷ 100 ∷ 523 ∷ 9_632 ∷ 100 ∷ 100 ∷ []

-- one that rises slowly, then fast: with water under the oil the level term is 10,000.337
abbrev bent_tables : List Table
bent_tables = table ((0, 0) ∷ (1_000, 1_000) ∷ (2_000, 31_000) ∷ [])

-- one that holds 1 dm³ in all, so that V0 is 0 up to 17.9 mm
abbrev pub flat_tables : List Table
flat_tables = table ((0, 0) ∷ (3_600, 1) ∷ [])

-- two on which cars weigh about 100 t
abbrev wide_tables : ℕ → List Table
wide_tables capacity = table ((0, 0) ∷ (3_000, capacity) ∷ [])

-- Errors of an ordinary rack, and one error by itself.

abbrev pub ordinary : List ℕ
ordinary = 5_000 ∷ 1_600 ∷ 500 ∷ 5 ∷ 5 ∷ 30 ∷ []

abbrev pub none : List ℕ
none = 0 ∷ 0 ∷ 0 ∷ 0 ∷ 0 ∷ 0 ∷ []

abbrev pub of_capacity : ℕ → List ℕ
of_capacity e = e ∷ 0 ∷ 0 ∷ 0 ∷ 0 ∷ 0 ∷ []

abbrev pub of_level : ℕ → List ℕ
of_level e = 0 ∷ 0 ∷ 0 ∷ 0 ∷ 0 ∷ e ∷ []

-- the first car of document 01's sheet at a level in mm, over water
abbrev at : ℕ → ℕ → List ℕ
at level water = with_dip 2 level level 0 0 water

-- 1. The terms: level, density temperature before G, oil temperature, G, density, density temperature, and the sum of squares.

pub record TermsCase : Type 0 where
  pub reckoned : List ℕ
  pub card : List ℕ

abbrev shows : List Table → List ℕ → List ℕ → List ℕ → TermsCase
shows ts ns es card =
    let m = measured (car_of ns) in
    let e = errors_of es in
    let b = expansion m.density.0 in
    let g = density_factor b m.temperature in
    record {
      reckoned =
          level_term_of ts m e
          ∷ temperature_term b e.density_temperature
          ∷ temperature_term b e.oil_temperature
          ∷ g
          ∷ times_factor e.density g
          ∷ times_factor (temperature_term b e.density_temperature) g
          ∷ sum_of_squares (terms_of ts m e)
          ∷ [];
      card = card;
    }

unfoldable pub terms_card : List TermsCase
terms_card =
    -- the first car; on a row, then half a mm and 1 mm above it; a smaller limit; annex Д; no errors at all
    shows card_tables first_car ordinary (2_571 ∷ 359 ∷ 359 ∷ 1_063_338 ∷ 1_701 ∷ 382 ∷ 35_028_247 ∷ [])
    ∷ shows card_tables (at 1_000 0) ordinary (3_000 ∷ 359 ∷ 359 ∷ 1_063_338 ∷ 1_701 ∷ 382 ∷ 37_418_206 ∷ [])
    ∷ shows card_tables (with_dip 2 1_000 1_001 0 0 0) ordinary (4_497 ∷ 359 ∷ 359 ∷ 1_063_338 ∷ 1_701 ∷ 382 ∷ 48_641_215 ∷ [])
    ∷ shows card_tables (at 1_001 0) ordinary (4_493 ∷ 359 ∷ 359 ∷ 1_063_338 ∷ 1_701 ∷ 382 ∷ 48_605_255 ∷ [])
    ∷ shows card_tables (at 2_000 0) (2_500 ∷ 500 ∷ 500 ∷ 2 ∷ 2 ∷ 20 ∷ []) (1_200 ∷ 144 ∷ 144 ∷ 1_063_338 ∷ 532 ∷ 153 ∷ 8_267_169 ∷ [])
    ∷ shows annex_tables annex_car (5_000 ∷ 1_586 ∷ 500 ∷ 5 ∷ 5 ∷ 30 ∷ []) (500 ∷ 353 ∷ 353 ∷ 1_051_596 ∷ 1_668 ∷ 371 ∷ 28_544_474 ∷ [])
    ∷ shows card_tables first_car none (0 ∷ 0 ∷ 0 ∷ 1_063_338 ∷ 0 ∷ 0 ∷ 0 ∷ [])
    -- rounded before G and behind it: 72, then 77, where rounded once it would be 76; the oil temperature's is not multiplied by G
    ∷ shows card_tables first_car (0 ∷ 0 ∷ 0 ∷ 1 ∷ 2 ∷ 0 ∷ []) (0 ∷ 72 ∷ 144 ∷ 1_063_338 ∷ 0 ∷ 77 ∷ 26_665 ∷ [])
    -- the greatest errors; cold light oil
    ∷ shows card_tables first_car (10_000 ∷ 10_000 ∷ 10_000 ∷ 20 ∷ 20 ∷ 30 ∷ []) (2_571 ∷ 1_438 ∷ 1_438 ∷ 1_063_338 ∷ 10_633 ∷ 1_529 ∷ 324_076_415 ∷ [])
    ∷ shows card_tables (with_oil 1 200 9_100 30 10) ordinary (2_571 ∷ 380 ∷ 380 ∷ 1_007_431 ∷ 1_612 ∷ 383 ∷ 34_749_674 ∷ [])
    -- terms so near a half that one unit in the numbers they are worked out by would show
    ∷ shows card_tables (at 781 0) (0 ∷ 1_492 ∷ 0 ∷ 14 ∷ 14 ∷ 61 ∷ []) (7_810 ∷ 1_007 ∷ 1_007 ∷ 1_063_338 ∷ 1_587 ∷ 1_071 ∷ 65_675_759 ∷ [])
    ∷ shows card_tables (at 64 0) (0 ∷ 671 ∷ 0 ∷ 15 ∷ 15 ∷ 1 ∷ []) (1_563 ∷ 1_078 ∷ 1_078 ∷ 1_063_338 ∷ 713 ∷ 1_146 ∷ 5_426_738 ∷ [])
    ∷ []

-- 2. Whether a limit is within what is allowed, at the edges.

pub record WithinCase : Type 0 where
  pub reckoned : Bool
  pub card : Bool

abbrev is : ℕ → ℕ → Bool → WithinCase
is n gross card = record { reckoned = within n gross; card = card }

unfoldable pub within_card : List WithinCase
within_card =
    is 6_500 99_999 true
    ∷ is 6_501 99_999 false
    ∷ is 5_001 99_999 true
    ∷ is 5_000 100_000 true
    ∷ is 5_001 100_000 false
    ∷ is 6_500 0 true
    ∷ is 0 200_000 true
    ∷ []

-- 3. The answers: the six figures, the limit and whether it is within, or the refusal.

pub record Case : Type 0 where
  pub tables : List Table
  pub car : List ℕ
  pub errors : List ℕ
  pub answer : Answer

abbrev gives : List Table → List ℕ → List ℕ → Answer → Case
gives ts ns es a = record { tables = ts; car = ns; errors = es; answer = a }

-- on the card's tables
abbrev limits : List ℕ → List ℕ → List ℕ → Case
limits ns es values = gives card_tables ns es (figures values)

abbrev refused : ℕ → List ℕ → List ℕ → Case
refused n ns es = gives card_tables ns es (refusal n)

unfoldable pub card : List Case
card =
    limits first_car ordinary (50_000_001 ∷ 15_000 ∷ 3_500_000 ∷ 3_392_515 ∷ 32_229 ∷ 32_003 ∷ 6_511 ∷ 0 ∷ [])
    ∷ limits (at 1_000 0) ordinary (50_000_001 ∷ 10_000 ∷ 2_000_000 ∷ 1_938_580 ∷ 18_417 ∷ 18_288 ∷ 6_729 ∷ 0 ∷ [])
    ∷ limits (with_dip 2 1_000 1_001 0 0 0) ordinary (50_000_001 ∷ 10_005 ∷ 2_001_500 ∷ 1_940_034 ∷ 18_430 ∷ 18_301 ∷ 7_672 ∷ 0 ∷ [])
    ∷ limits (at 1_001 0) ordinary (50_000_001 ∷ 10_010 ∷ 2_003_000 ∷ 1_941_488 ∷ 18_444 ∷ 18_315 ∷ 7_669 ∷ 0 ∷ [])
    ∷ limits (at 2_000 0) (2_500 ∷ 500 ∷ 500 ∷ 2 ∷ 2 ∷ 20 ∷ []) (50_000_001 ∷ 20_000 ∷ 5_000_000 ∷ 4_846_450 ∷ 46_041 ∷ 45_719 ∷ 3_163 ∷ 1 ∷ [])
    ∷ gives annex_tables annex_car (5_000 ∷ 1_586 ∷ 500 ∷ 5 ∷ 5 ∷ 30 ∷ []) (figures (1 ∷ 29_040 ∷ 7_257_240 ∷ 7_076_034 ∷ 68_156 ∷ 66_793 ∷ 5_877 ∷ 1 ∷ []))
    ∷ limits first_car none (50_000_001 ∷ 15_000 ∷ 3_500_000 ∷ 3_392_515 ∷ 32_229 ∷ 32_003 ∷ 0 ∷ 1 ∷ [])
    -- the smallest: of 1.1 the next whole number, of 11 and 6,501 these numbers themselves
    ∷ limits first_car (of_capacity 1) (50_000_001 ∷ 15_000 ∷ 3_500_000 ∷ 3_392_515 ∷ 32_229 ∷ 32_003 ∷ 2 ∷ 1 ∷ [])
    ∷ limits first_car (of_capacity 10) (50_000_001 ∷ 15_000 ∷ 3_500_000 ∷ 3_392_515 ∷ 32_229 ∷ 32_003 ∷ 11 ∷ 1 ∷ [])
    ∷ limits first_car (of_capacity 5_909) (50_000_001 ∷ 15_000 ∷ 3_500_000 ∷ 3_392_515 ∷ 32_229 ∷ 32_003 ∷ 6_500 ∷ 1 ∷ [])
    ∷ limits first_car (of_capacity 5_910) (50_000_001 ∷ 15_000 ∷ 3_500_000 ∷ 3_392_515 ∷ 32_229 ∷ 32_003 ∷ 6_501 ∷ 0 ∷ [])
    -- 99,999 kg and 100,000 kg
    ∷ gives (wide_tables 159_000) (at 2_049 0) (of_capacity 5_909) (figures (50_000_001 ∷ 20_490 ∷ 10_859_700 ∷ 10_526_198 ∷ 99_999 ∷ 99_299 ∷ 6_500 ∷ 1 ∷ []))
    ∷ gives (wide_tables 158_000) (at 2_062 0) (of_capacity 4_546) (figures (50_000_001 ∷ 20_620 ∷ 10_859_867 ∷ 10_526_360 ∷ 100_000 ∷ 99_300 ∷ 5_001 ∷ 0 ∷ []))
    ∷ gives (wide_tables 158_000) (at 2_062 0) (of_capacity 4_545) (figures (50_000_001 ∷ 20_620 ∷ 10_859_867 ∷ 10_526_360 ∷ 100_000 ∷ 99_300 ∷ 5_000 ∷ 1 ∷ []))
    -- 24: each error at its most, and one more
    ∷ limits first_car (10_000 ∷ 10_000 ∷ 10_000 ∷ 20 ∷ 20 ∷ 30 ∷ []) (50_000_001 ∷ 15_000 ∷ 3_500_000 ∷ 3_392_515 ∷ 32_229 ∷ 32_003 ∷ 19_803 ∷ 0 ∷ [])
    ∷ refused 24 first_car (10_001 ∷ 0 ∷ 0 ∷ 0 ∷ 0 ∷ 0 ∷ [])
    ∷ refused 24 first_car (0 ∷ 10_001 ∷ 0 ∷ 0 ∷ 0 ∷ 0 ∷ [])
    ∷ refused 24 first_car (0 ∷ 0 ∷ 10_001 ∷ 0 ∷ 0 ∷ 0 ∷ [])
    ∷ refused 24 first_car (0 ∷ 0 ∷ 0 ∷ 21 ∷ 0 ∷ 0 ∷ [])
    ∷ refused 24 first_car (0 ∷ 0 ∷ 0 ∷ 0 ∷ 21 ∷ 0 ∷ [])
    ∷ refused 24 first_car (0 ∷ 0 ∷ 0 ∷ 0 ∷ 0 ∷ 101 ∷ [])
    -- 25: a level term of 10,000 passes, also where it is so by R alone, and 10,001 does not; V0 is 0, also without a level error
    ∷ limits (at 1_000 0) (of_level 100) (50_000_001 ∷ 10_000 ∷ 2_000_000 ∷ 1_938_580 ∷ 18_417 ∷ 18_288 ∷ 11_000 ∷ 0 ∷ [])
    ∷ refused 25 (at 999 0) (of_level 100)
    ∷ refused 25 (with_dip 2 999 1_000 0 0 0) (of_level 100)
    ∷ gives bent_tables (at 1_989 971) (of_level 99) (figures (50_000_001 ∷ 19_890 ∷ 2_969_900 ∷ 2_878_694 ∷ 27_348 ∷ 27_157 ∷ 11_000 ∷ 0 ∷ []))
    ∷ gives bent_tables (at 1_299 971) (of_level 30) (refusal 25)
    ∷ gives flat_tables (at 17 0) none (refusal 25)
    ∷ gives flat_tables (with_dip 2 17 18 0 0 0) none (refusal 25)
    ∷ gives flat_tables (at 19 18) none (refusal 25)
    ∷ gives flat_tables (at 18 0) none (figures (50_000_001 ∷ 180 ∷ 1 ∷ 1 ∷ 0 ∷ 0 ∷ 0 ∷ 1 ∷ []))
    -- two faults: those of the tables and of the car, then 24, then 25
    ∷ gives (bad_type ∷ []) first_car (of_capacity 10_001) (refusal 7)
    ∷ gives (bad_row ∷ []) first_car (of_capacity 10_001) (refusal 8)
    ∷ refused 10 (with_number 0) (of_capacity 10_001)
    ∷ refused 12 (with_codes 2 3 1) (of_capacity 10_001)
    ∷ refused 17 (at 1_500 1_500) (of_capacity 10_001)
    ∷ refused 21 (with_oil 1 600 9_585 0 0) (of_capacity 10_001)
    ∷ gives flat_tables (at 17 0) (of_capacity 10_001) (refusal 24)
    ∷ refused 24 (at 999 0) (0 ∷ 0 ∷ 0 ∷ 0 ∷ 21 ∷ 100 ∷ [])
    ∷ []

-- the rules give each figure of the card
pub record PermittedRight : Type 0 where
  pub terms : Each (λ k. k.reckoned ≡ k.card) terms_card
  pub within : Each (λ k. k.reckoned ≡ k.card) within_card
  pub each : Each (λ k. PermittedAnswer k.tables (dipped (car_of k.car)) (errors_of k.errors) k.answer) card
