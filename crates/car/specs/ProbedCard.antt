-- The rack card of a probe's car alone, on the rack card's table: figures, each refusal just inside and just outside, and of two faults the first. The three
-- numbers of its set stand by their bit patterns.
use Rattle.std.specs.Prelude.{ℕ, ◌≡◌, List, [], ◌∷◌, ◌++◌, take, drop}
use Rattle.base.specs.Answer.{figures, refusal}
use Rattle.base.specs.Lists.{Each}
use Rattle.probe_spec.specs.declared.ProbeSet.{ProbeSet}
use Rattle.probe_spec.specs.ProbeCard.{set_of_bits}
use Rattle.table.specs.Table.{Table}
use Rattle.car.specs.Car.{probe_car_of, probed, alone_answer}
use Rattle.car.specs.Card.{card_tables, bad_type, bad_row, Figure, gives, without_figures}

-- the first car of document 01's sheet, as a probe reads it, by its seven numbers
abbrev pub first_probe : List ℕ
first_probe = 50_000_001 ∷ 1 ∷ 3 ∷ 1 ∷ 0 ∷ 50 ∷ 20 ∷ []

-- with another number, type, grade, stick or water level in mm
abbrev pub with_number : ℕ → List ℕ
with_number number = number ∷ drop 1 first_probe

abbrev with_kind : ℕ → List ℕ
with_kind kind = take 1 first_probe ++ (kind ∷ drop 2 first_probe)

abbrev with_grade : ℕ → List ℕ
with_grade grade = take 2 first_probe ++ (grade ∷ drop 3 first_probe)

abbrev with_stick : ℕ → List ℕ
with_stick stick = take 3 first_probe ++ (stick ∷ drop 4 first_probe)

abbrev with_water_level : ℕ → List ℕ
with_water_level level = take 4 first_probe ++ (level ∷ drop 5 first_probe)

-- with another grade, water and impurities
abbrev of_grade : ℕ → ℕ → ℕ → List ℕ
of_grade grade w i = take 5 (with_grade grade) ++ (w ∷ i ∷ [])

-- 1,500 mm, 60 °C and 950 kg/m³, and with another level, temperature or density
abbrev pub ordinary_set : ProbeSet
ordinary_set = set_of_bits 0x44bb8000 0x42700000 0x446d8000

abbrev pub at_level : ℕ → ProbeSet
at_level bits = set_of_bits bits 0x42700000 0x446d8000

abbrev at_temperature : ℕ → ProbeSet
at_temperature bits = set_of_bits 0x44bb8000 bits 0x446d8000

abbrev at_density : ℕ → ProbeSet
at_density bits = set_of_bits 0x44bb8000 0x42700000 bits

-- a probe's car alone shows six figures, passes, or is refused
abbrev shows : List ℕ → ProbeSet → List ℕ → Figure
shows ns s values = gives (alone_answer card_tables (probed (probe_car_of ns s))) (figures values)

abbrev passes : List ℕ → ProbeSet → Figure
passes ns s = gives (without_figures (alone_answer card_tables (probed (probe_car_of ns s)))) (figures [])

abbrev refused : ℕ → List Table → List ℕ → ProbeSet → Figure
refused n ts ns s = gives (alone_answer ts (probed (probe_car_of ns s))) (refusal n)

unfoldable pub probed_card : List Figure
probed_card =
    -- as with readings of 1,500 mm; with an aluminium stick; over water, hot and light; 1,500.25 mm, a half of a tenth
    shows first_probe ordinary_set (50_000_001 ∷ 15_000 ∷ 3_500_000 ∷ 3_392_515 ∷ 32_229 ∷ 32_003 ∷ [])
    ∷ shows (with_stick 2) ordinary_set (50_000_001 ∷ 15_000 ∷ 3_500_000 ∷ 3_393_937 ∷ 32_242 ∷ 32_016 ∷ [])
    ∷ shows (50_000_001 ∷ 1 ∷ 3 ∷ 2 ∷ 500 ∷ 50 ∷ 20 ∷ []) (set_of_bits 0x44bb8000 0x42b40000 0x44610000) (50_000_001 ∷ 15_000 ∷ 2_500_000 ∷ 2_363_196 ∷ 21_269 ∷ 21_120 ∷ [])
    ∷ shows first_probe (at_level 0x44bb8800) (50_000_001 ∷ 15_003 ∷ 3_500_900 ∷ 3_393_387 ∷ 32_237 ∷ 32_011 ∷ [])
    -- 10, 12 and 13
    ∷ refused 10 card_tables (with_number 0) ordinary_set
    ∷ passes (with_number 99_999_999) ordinary_set
    ∷ refused 10 card_tables (with_number 100_000_000) ordinary_set
    ∷ refused 12 card_tables (with_kind 2) ordinary_set
    ∷ refused 13 card_tables (with_grade 0) ordinary_set
    ∷ refused 13 card_tables (with_grade 5) ordinary_set
    ∷ refused 13 card_tables (with_stick 0) ordinary_set
    ∷ refused 13 card_tables (with_stick 3) ordinary_set
    -- 16: minus zero, and the last float below 0.05 mm, are 0 tenths, the next is one; the last below 3,000.05 mm is the last level, the next is above it
    ∷ refused 16 card_tables first_probe (at_level 0x80000000)
    ∷ refused 16 card_tables first_probe (at_level 0x3d4ccccc)
    ∷ shows first_probe (at_level 0x3d4ccccd) (50_000_001 ∷ 1 ∷ 200 ∷ 193 ∷ 2 ∷ 2 ∷ [])
    ∷ shows first_probe (at_level 0x453b80cc) (50_000_001 ∷ 30_000 ∷ 7_000_000 ∷ 6_785_030 ∷ 64_458 ∷ 64_007 ∷ [])
    ∷ refused 16 card_tables first_probe (at_level 0x453b80cd)
    ∷ refused 16 card_tables first_probe (at_level 0x4b18967f)
    -- 17: the last float below 1,500.05 mm over 1,500 mm of water, and the next
    ∷ refused 17 card_tables (with_water_level 1_500) (at_level 0x44bb8199)
    ∷ shows (with_water_level 1_500) (at_level 0x44bb819a) (50_000_001 ∷ 15_001 ∷ 300 ∷ 291 ∷ 3 ∷ 3 ∷ [])
    -- 18: the floats beside 39.95 and 90.05 °C, and for grade 1 beside 19.95
    ∷ refused 18 card_tables first_probe (at_temperature 0x421fcccc)
    ∷ passes first_probe (at_temperature 0x421fcccd)
    ∷ passes first_probe (at_temperature 0x42b41999)
    ∷ refused 18 card_tables first_probe (at_temperature 0x42b4199a)
    ∷ refused 18 card_tables (of_grade 1 30 10) (at_temperature 0x419f9999)
    ∷ passes (of_grade 1 30 10) (at_temperature 0x419f999a)
    -- 19: the floats beside 899.95 and 990.05 kg/m³
    ∷ refused 19 card_tables first_probe (at_density 0x4460fccc)
    ∷ passes first_probe (at_density 0x4460fccd)
    ∷ passes first_probe (at_density 0x44778333)
    ∷ refused 19 card_tables first_probe (at_density 0x44778334)
    -- 20, and 21 for grade 1: the floats beside 958.45 kg/m³
    ∷ refused 20 card_tables (of_grade 1 31 10) ordinary_set
    ∷ refused 20 card_tables (of_grade 1 30 11) ordinary_set
    ∷ passes (of_grade 1 30 10) (at_density 0x446f9ccc)
    ∷ refused 21 card_tables (of_grade 1 30 10) (at_density 0x446f9ccd)
    -- two faults: 31 and 32 come before 7, 8 and 10, of whichever number; else 7, 8, 10, 12, 13, 16, 17 and so on
    ∷ refused 31 (bad_type ∷ []) (0 ∷ 2 ∷ 0 ∷ 0 ∷ 0 ∷ 0 ∷ 0 ∷ []) (at_level 0xbf800000)
    ∷ refused 31 (bad_row ∷ []) (with_number 0) (at_temperature 0xff800000)
    ∷ refused 31 (bad_type ∷ []) (with_number 0) (at_density 0x7fc00000)
    ∷ refused 32 (bad_type ∷ []) (with_number 0) (at_level 0x4b189680)
    ∷ refused 32 (bad_row ∷ []) (with_number 0) (at_density 0x4b189680)
    ∷ refused 32 card_tables (with_number 0) (at_temperature 0x4b189680)
    ∷ refused 31 card_tables (with_number 0) (at_temperature 0x80000001)
    ∷ refused 31 card_tables first_probe (at_level 0x80000001)
    ∷ refused 7 (bad_type ∷ []) (with_number 0) ordinary_set
    ∷ refused 8 (bad_row ∷ []) (with_number 0) ordinary_set
    ∷ refused 10 card_tables (0 ∷ 2 ∷ 0 ∷ 0 ∷ 0 ∷ 0 ∷ 0 ∷ []) ordinary_set
    ∷ refused 12 card_tables (1 ∷ 2 ∷ 0 ∷ 0 ∷ 0 ∷ 0 ∷ 0 ∷ []) (at_level 0)
    ∷ refused 13 card_tables (with_stick 3) (at_level 0)
    ∷ refused 16 card_tables (with_water_level 3_001) (at_level 0x453b819a)
    ∷ refused 17 card_tables (with_water_level 1_500) (at_temperature 0x421f999a)
    ∷ refused 18 card_tables first_probe (set_of_bits 0x44bb8000 0x421f999a 0x4460f99a)
    ∷ refused 19 card_tables (of_grade 3 101 20) (at_density 0x4460f99a)
    ∷ refused 20 card_tables (of_grade 1 31 10) (at_density 0x446f9ccd)
    ∷ []

-- the rules give each figure of the card
pub record ProbedRight : Type 0 where
  pub each : Each (λ f. f.reckoned ≡ f.card) probed_card
