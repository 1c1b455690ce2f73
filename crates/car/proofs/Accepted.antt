-- What holds of a car that neither its tables nor its own tests turn away: fields and levels are in range, and nothing is cut off.
use Prim.Native.Nat.{◌≤◌, ◌<◌}
use mathlib.Core.Path.{◌≡◌, refl}
use mathlib.Core.Bool.{false}
use mathlib.Core.List.{List, [], ◌∷◌, ◌++◌}
use native.Mathlib.Nat.{le_of_lt}
use native.Mathlib.Omega.{arith}
use lib.Ieee.{of_bits}
use lib.Dec.{eqb}
use borrow.Author.Tests.{ltb-false, leb-false, eqb-false}
use Rattle.base.specs.Limits.{in_tenths}
use Rattle.base.specs.Answer.{Test, accepts, refuses, first}
use Rattle.base.proofs.Choice.{neither}
use Rattle.base.proofs.Answer.{not_applied, accepted_parts}
use Rattle.probe_spec.specs.Tenths.{no_number, set_tests}
use Rattle.table.specs.Table.{Table, tables_tests, tables_verdict, unknown, last_level}
use Rattle.table.proofs.Rising.{Rising, tables_rising}
use Rattle.gauging.specs.Capacity.{above, level_tests}
use Rattle.gauging.proofs.Capacity.{v0_near, v0_whole, v0ˣ_whole}
use Rattle.grading.specs.Grades.{grade_bad, stick_bad, range_tests, density20_tests, oil_tests}
use Rattle.grading.specs.Inner.{FieldsInRange}
use Rattle.grading.proofs.Limits.{fields_in_range}
use Rattle.kilograms.specs.Inner.{InRange}
use Rattle.kilograms.specs.Distance.{Shows}
use Rattle.kilograms.proofs.Distance.{shown_near}
use Rattle.kilograms.proofs.Uncut.{nothing_cut}
use Rattle.car.specs.declared.Measured.{Measured}
use Rattle.car.specs.Measured.{rows, early_tests, late_tests, measured_tests, v0}
use Rattle.car.specs.Car.{car_of, probe_car_of, number_tests, Intake, dipped, probed, intake_number, before_tests, dip_tests, measured_of, car_tests, alone_tests}
use Rattle.car.specs.Inner.{Passed}
use Rattle.car.specs.Card.{card_tables, bad_type}
use Rattle.car.specs.ProbedCard.{first_probe, at_level}
use Rattle.car.specs.Exact.{volumeˣ, Uncut}

-- a figure beside the law, which a list without the readings' tests, or with these behind 16, refuses: three readings, all 0
fourteen_first : first (car_tests card_tables (dipped (car_of (1 ∷ 1 ∷ 3 ∷ 1 ∷ 3 ∷ 0 ∷ 0 ∷ 0 ∷ 0 ∷ 0 ∷ 600 ∷ 9_500 ∷ 50 ∷ 20 ∷ [])))) ≡ refuses 14
unfolding car_tests measured_tests
fourteen_first = refl

-- and one with 23 behind 16: four readings of which no three agree, above the last level
twenty_three_first : first (car_tests card_tables (dipped (car_of (1 ∷ 1 ∷ 3 ∷ 1 ∷ 4 ∷ 3_001 ∷ 3_011 ∷ 3_021 ∷ 3_031 ∷ 0 ∷ 600 ∷ 9_500 ∷ 50 ∷ 20 ∷ [])))) ≡ refuses 23
unfolding car_tests measured_tests
twenty_three_first = refl

-- and lists of a car alone without 10, and with 31 behind 7: the number 0, and a level of -1 mm on a table of type 0
ten_alone : first (alone_tests card_tables (dipped (car_of (0 ∷ 1 ∷ 3 ∷ 1 ∷ 2 ∷ 1_500 ∷ 1_500 ∷ 0 ∷ 0 ∷ 0 ∷ 600 ∷ 9_500 ∷ 50 ∷ 20 ∷ [])))) ≡ refuses 10
unfolding alone_tests
ten_alone = refl

thirty_one_first : first (alone_tests (bad_type ∷ []) (probed (probe_car_of first_probe (at_level 0xbf800000)))) ≡ refuses 31
unfolding alone_tests of_bits no_number set_tests
thirty_one_first = refl

pub passed_car : {ts : List Table} (h : Intake) → tables_verdict ts ≡ accepts → first (car_tests ts h) ≡ accepts → Passed ts (measured_of h)
unfolding car_tests measured_tests
passed_car {ts} h good e =
    let m : Measured = measured_of h in
    let p = accepted_parts (dip_tests h ++ late_tests ts m) (early_tests ts m) e in
    record { tables = good; early = p.0; late = (accepted_parts (late_tests ts m) (dip_tests h) p.1).1 }

-- a car alone
pub passed_alone : {ts : List Table} (h : Intake) → first (alone_tests ts h) ≡ accepts → Passed ts (measured_of h)
unfolding alone_tests
passed_alone {ts} h e =
    let own : List Test = number_tests (intake_number h) ++ car_tests ts h in
    let p = accepted_parts own (tables_tests ts) (accepted_parts (tables_tests ts ++ own) (before_tests h) e).1 in
    passed_car h p.0 (accepted_parts (car_tests ts h) (number_tests (intake_number h)) p.1).1

pub grade_known : (ts : List Table) (m : Measured) → first (early_tests ts m) ≡ accepts → grade_bad m.grade ≡ false
grade_known ts m e = (neither (grade_bad m.grade) (stick_bad m.stick) (not_applied 13 (early_tests ts m) e)).0

-- each test is looked up by its number
module _ (ts : List Table) (m : Measured) (h : Passed ts m) where
  pub known : unknown m.kind ts ≡ false
  known = not_applied 12 (early_tests ts m) h.early

  pub level_in : (0 < m.level) × (m.level ≤ in_tenths (last_level (rows ts m)))
  level_in =
      let p = neither (eqb m.level 0) (above (rows ts m) m.level) (not_applied 16 (late_tests ts m) h.late) in
      let n = eqb-false m.level 0 p.0 in
      (omega arith, ltb-false (in_tenths (last_level (rows ts m))) m.level p.1)

  pub low : m.level ≤ in_tenths (last_level (rows ts m))
  low = level_in.1

  pub above_water : in_tenths m.water_level < m.level
  above_water = leb-false m.level (in_tenths m.water_level) (not_applied 17 (late_tests ts m) h.late)

  pub fields : FieldsInRange m.temperature m.density.0 m.water m.impurities
  fields =
      let oil = oil_tests m.grade m.temperature m.density.0 m.water m.impurities in
      let own = range_tests m.grade m.temperature m.density.0 m.water m.impurities in
      fields_in_range m.grade m.temperature m.density.0 m.water m.impurities (grade_known ts m h.early)
      (accepted_parts (density20_tests m.grade m.density.0) own (accepted_parts oil (level_tests (rows ts m) m.level m.water_level) h.late).1).0

  pub rising : Rising (rows ts m)
  rising = tables_rising m.kind ts h.tables known

  -- V0 may be shown for the exact volume
  pub shows : Shows (v0 ts m) (volumeˣ ts m)
  unfolding v0 volumeˣ
  shows = shown_near (v0_near (rows ts m) rising m.water_level (le_of_lt above_water) low)

  pub in_range : InRange (v0 ts m) m.temperature m.density.0 m.water m.impurities
  in_range = record { full = shows.most; fields = fields }

  -- V0 is the whole difference of the two capacities, rounded and exact, and none of steps 3 to 8 is cut off at 0
  pub uncut : Uncut ts m
  unfolding v0 volumeˣ
  uncut = record {
    volume = v0_whole (rows ts m) rising m.water_level (le_of_lt above_water) low;
    exact = v0ˣ_whole (rows ts m) rising m.water_level (le_of_lt above_water) low;
    steps = nothing_cut in_range;
  }
