-- The ranges of 28 and 29: by their tests, and place by place.
use Prim.Native.Nat.{ℕ, zero, suc, ◌*◌, ◌≤◌, ◌<◌}
use mathlib.Core.Path.{◌≡◌, refl, subst, subst⁻¹}
use mathlib.Core.Bool.{false}
use mathlib.Core.List.{List, [], ◌∷◌}
use native.Mathlib.Omega.{arith}
use lib.ListN.{length, get_or}
use lib.Seq.{length-take-le, get_or-take}
use Rattle.base.specs.Limits.{highest_level, tenths}
use Rattle.base.specs.Numbers.{outside}
use Rattle.base.proofs.Choice.{neither}
use Rattle.base.proofs.Numbers.{inside, inside_back}
use Rattle.dip.specs.Tape.{off_tape}
use Rattle.comparison.specs.Answers.{fewest_readings, most_readings, given, count_bad, reading_bad, level_bad}
use Rattle.comparison.specs.Told.{CountInRange, Between, LevelsInRange}

-- A range, both ways.

between : (low high n : ℕ) → outside low high n ≡ false → Between low high n
between low high n e = let h = inside low high n e in record { least = h.0; most = h.1 }

between_back : {low high n : ℕ} → Between low high n → outside low high n ≡ false
between_back {low} {high} {n} h = inside_back low high n h.least h.most

-- 28

pub count_in : (count : ℕ) → count_bad count ≡ false → CountInRange count
count_in count e = between fewest_readings most_readings count e

pub count_in_back : (count : ℕ) → CountInRange count → count_bad count ≡ false
count_in_back count h = between_back h

-- 29

pub readings_in : (l : List ℕ) → reading_bad l ≡ false → (i : ℕ) → i < length l → Between 1 highest_level (get_or l i 0)
readings_in [] e i h = absurd (omega arith)
readings_in (mm ∷ l) e zero h = between 1 highest_level mm (neither (outside 1 highest_level mm) (reading_bad l) e).0
readings_in (mm ∷ l) e (suc i) h = readings_in l (neither (outside 1 highest_level mm) (reading_bad l) e).1 i (omega arith)

readings_in_back : (l : List ℕ) → ((i : ℕ) → i < length l → Between 1 highest_level (get_or l i 0)) → reading_bad l ≡ false
readings_in_back [] f = refl
readings_in_back (mm ∷ l) f = rw (between_back (f 0 (omega arith)), readings_in_back l (λ i h. f (suc i) (omega arith))) refl

-- as many places as there are readings, or more
module _ (stick count : ℕ) (places : List ℕ) (room : count ≤ length places) where
  pub levels_in : level_bad stick (given count places) ≡ false → LevelsInRange stick count places
  levels_in e =
      let h = neither (reading_bad (given count places)) (off_tape stick) e in
      record {
        readings = λ i k. subst (Between 1 highest_level) (get_or-take count places i 0 k) (readings_in (given count places) h.0 i (rw (length-take-le count places room) k));
        level = between tenths (tenths * highest_level) stick h.1;
      }

  pub levels_in_back : LevelsInRange stick count places → level_bad stick (given count places) ≡ false
  levels_in_back h =
      let each : (i : ℕ) → i < length (given count places) → Between 1 highest_level (get_or (given count places) i 0) = λ i k.
      let l : i < count = subst (λ (n : ℕ). i < n) (length-take-le count places room) k in
      subst⁻¹ (Between 1 highest_level) (get_or-take count places i 0 l) (h.readings i l) in
      rw (readings_in_back (given count places) each, between_back h.level) refl
