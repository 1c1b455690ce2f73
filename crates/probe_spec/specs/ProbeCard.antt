-- The rack card of the probe: floats by their bit patterns, and sets in which two numbers are at fault.
use Rattle.std.specs.Prelude.{ℕ, ◌≡◌, List, [], ◌∷◌}
use Rattle.std.specs.Float.{binary32}
use Rattle.std.specs.Float.Ieee.{of_bits}
use Rattle.base.specs.Answer.{Answer, figures, refusal}
use Rattle.base.specs.Lists.{Each}
use Rattle.probe_spec.specs.declared.ProbeSet.{ProbeSet}
use Rattle.probe_spec.specs.Tenths.{tenths_answer, set_answer}

pub record ProbeFigure : Type 0 where
  pub reckoned : Answer
  pub card : Answer

abbrev pub set_of_bits : ℕ → ℕ → ℕ → ProbeSet
set_of_bits l t d = record { level = of_bits binary32 l; temperature = of_bits binary32 t; density = of_bits binary32 d }

abbrev gives : ℕ → ℕ → ProbeFigure
gives bits n = record { reckoned = tenths_answer (of_bits binary32 bits); card = figures (n ∷ []) }

abbrev refused : ℕ → ℕ → ProbeFigure
refused n bits = record { reckoned = tenths_answer (of_bits binary32 bits); card = refusal n }

abbrev set : ℕ → ℕ → ℕ → Answer → ProbeFigure
set l t d a = record { reckoned = set_answer (set_of_bits l t d); card = a }

unfoldable pub probe_card : List ProbeFigure
probe_card =
    -- 0.35 and 0.45 lie below themselves as f32, where a product in f32 gives 3.5 and 4.5; 0.05 lies above itself, and the float before it below
    gives 0x3eb33333 3
    ∷ gives 0x3ee66666 4
    ∷ gives 0x3d4ccccd 1
    ∷ gives 0x3d4ccccc 0
    -- halves of a tenth, 0.25 and 0.75, with the floats beside them; the greatest half, 4,194,303.75, with the floats beside it
    ∷ gives 0x3e7fffff 2
    ∷ gives 0x3e800000 3
    ∷ gives 0x3e800001 3
    ∷ gives 0x3f3fffff 7
    ∷ gives 0x3f400000 8
    ∷ gives 0x3f400001 8
    ∷ gives 0x4a7ffffe 41_943_035
    ∷ gives 0x4a7fffff 41_943_038
    ∷ gives 0x4a800000 41_943_040
    -- 0 and minus zero; the smallest and the greatest number without a leading one, the smallest with one, and their negatives; -1
    ∷ gives 0x00000000 0
    ∷ gives 0x80000000 0
    ∷ gives 0x00000001 0
    ∷ gives 0x007fffff 0
    ∷ gives 0x00800000 0
    ∷ refused 31 0x80000001
    ∷ refused 31 0x807fffff
    ∷ refused 31 0x80800000
    ∷ refused 31 0xbf800000
    -- 8,388,607.5 and 8,388,608; 9,999,999, the last float below 9,999,999.9, and 10,000,000, the first above it; the greatest f32
    ∷ gives 0x4affffff 83_886_075
    ∷ gives 0x4b000000 83_886_080
    ∷ gives 0x4b18967f 99_999_990
    ∷ refused 32 0x4b189680
    ∷ refused 32 0x7f7fffff
    -- the infinities, and some that are not a number, of either sign
    ∷ refused 31 0x7f800000
    ∷ refused 31 0xff800000
    ∷ refused 31 0x7f800001
    ∷ refused 31 0x7fc00000
    ∷ refused 31 0xff800001
    ∷ refused 31 0xffffffff
    -- 1,500.5 mm, 60 °C, 950 kg/m³
    ∷ set 0x44bb9000 0x42700000 0x446d8000 (figures (15_005 ∷ 600 ∷ 9_500 ∷ []))
    -- two faults: a level of 10,000,000 before a temperature or a density of -1; a temperature of -1 before a density of 10,000,000, one of 10,000,000
    -- before a density that is not a number; a level of -1 before a temperature and a density of 10,000,000
    ∷ set 0x4b189680 0xbf800000 0x446d8000 (refusal 32)
    ∷ set 0x4b189680 0x42700000 0xbf800000 (refusal 32)
    ∷ set 0x44bb9000 0xbf800000 0x4b189680 (refusal 31)
    ∷ set 0x44bb9000 0x4b189680 0x7fc00000 (refusal 32)
    ∷ set 0xbf800000 0x4b189680 0x4b189680 (refusal 31)
    -- one fault, of each
    ∷ set 0x7f800000 0x42700000 0x446d8000 (refusal 31)
    ∷ set 0x44bb9000 0x7f800000 0x446d8000 (refusal 31)
    ∷ set 0x44bb9000 0x42700000 0x7f800000 (refusal 31)
    ∷ set 0x44bb9000 0x4b189680 0x446d8000 (refusal 32)
    ∷ set 0x44bb9000 0x42700000 0x4b189680 (refusal 32)
    ∷ []

-- the rules give each figure of the card
pub record ProbeRight : Type 0 where
  pub each : Each (λ f. f.reckoned ≡ f.card) probe_card
