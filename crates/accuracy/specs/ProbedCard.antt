-- The rack card of the permitted error of a probe's car, whose level stands by its bit pattern.
use Rattle.std.specs.Prelude.{ℕ, List, [], ◌∷◌}
use Rattle.base.specs.Answer.{Answer, figures, refusal}
use Rattle.base.specs.Lists.{Each}
use Rattle.probe_spec.specs.declared.ProbeSet.{ProbeSet}
use Rattle.table.specs.Table.{Table}
use Rattle.car.specs.Car.{probe_car_of, probed}
use Rattle.car.specs.Card.{card_tables, bad_type, bad_row}
use Rattle.car.specs.ProbedCard.{first_probe, with_number, at_level}
use Rattle.accuracy.specs.Permitted.{PermittedAnswer, errors_of}
use Rattle.accuracy.specs.Card.{flat_tables, ordinary, none, of_capacity, of_level}

pub record ProbedCase : Type 0 where
  pub tables : List Table
  pub car : List ℕ
  pub set : ProbeSet
  pub errors : List ℕ
  pub answer : Answer

abbrev gives : List Table → List ℕ → ProbeSet → List ℕ → Answer → ProbedCase
gives ts ns s es a = record { tables = ts; car = ns; set = s; errors = es; answer = a }

-- on the card's tables
abbrev limits : List ℕ → ProbeSet → List ℕ → List ℕ → ProbedCase
limits ns s es values = gives card_tables ns s es (figures values)

abbrev refused : ℕ → List ℕ → ProbeSet → List ℕ → ProbedCase
refused n ns s es = gives card_tables ns s es (refusal n)

unfoldable pub probed_card : List ProbedCase
probed_card =
    -- as a dipped car at the same level; between 1,500 and 1,500.5 mm, on a row, and a tenth of a mm above it, where the next pair of rows counts; no
    -- errors, with an aluminium stick
    limits first_probe (at_level 0x44bb8000) ordinary (50_000_001 ∷ 15_000 ∷ 3_500_000 ∷ 3_392_515 ∷ 32_229 ∷ 32_003 ∷ 6_511 ∷ 0 ∷ [])
    ∷ limits first_probe (at_level 0x44bb8800) ordinary (50_000_001 ∷ 15_003 ∷ 3_500_900 ∷ 3_393_387 ∷ 32_237 ∷ 32_011 ∷ 6_511 ∷ 0 ∷ [])
    ∷ limits first_probe (at_level 0x447a0000) ordinary (50_000_001 ∷ 10_000 ∷ 2_000_000 ∷ 1_938_580 ∷ 18_417 ∷ 18_288 ∷ 6_729 ∷ 0 ∷ [])
    ∷ limits first_probe (at_level 0x447a0666) ordinary (50_000_001 ∷ 10_001 ∷ 2_000_300 ∷ 1_938_871 ∷ 18_419 ∷ 18_290 ∷ 7_674 ∷ 0 ∷ [])
    ∷ limits (50_000_001 ∷ 1 ∷ 3 ∷ 2 ∷ 0 ∷ 50 ∷ 20 ∷ []) (at_level 0x44bb8800) none (50_000_001 ∷ 15_003 ∷ 3_500_900 ∷ 3_394_809 ∷ 32_251 ∷ 32_025 ∷ 0 ∷ 1 ∷ [])
    -- two faults: 31 and 32, those of the tables and of the car, then 24, then 25
    ∷ gives (bad_type ∷ []) (with_number 0) (at_level 0xbf800000) (of_capacity 10_001) (refusal 31)
    ∷ gives (bad_row ∷ []) (with_number 0) (at_level 0x4b189680) (of_capacity 10_001) (refusal 32)
    ∷ gives (bad_type ∷ []) (with_number 0) (at_level 0x44bb8000) (of_capacity 10_001) (refusal 7)
    ∷ gives (bad_row ∷ []) (with_number 0) (at_level 0x44bb8000) (of_capacity 10_001) (refusal 8)
    ∷ refused 10 (with_number 0) (at_level 0x44bb8000) (of_capacity 10_001)
    ∷ refused 16 first_probe (at_level 0x80000000) (of_capacity 10_001)
    ∷ refused 24 first_probe (at_level 0x4479c000) (10_001 ∷ 0 ∷ 0 ∷ 0 ∷ 0 ∷ 100 ∷ [])
    ∷ refused 25 first_probe (at_level 0x4479c000) (of_level 100)
    ∷ gives flat_tables first_probe (at_level 0x41880000) none (refusal 25)
    ∷ []

-- the rules give each figure of the card
pub record ProbedPermittedRight : Type 0 where
  pub each : Each (λ k. PermittedAnswer k.tables (probed (probe_car_of k.car k.set)) (errors_of k.errors) k.answer) probed_card
