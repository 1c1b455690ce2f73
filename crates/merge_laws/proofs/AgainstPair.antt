-- The rules make of the two sheets of the example the one that it gives, byte by byte.
use Prim.Native.Nat.{ℕ, ◌≤◌}
use mathlib.Core.Path.{◌≡◌, refl}
use mathlib.Core.List.{List}
use lib.ListN.{length}
use borrow.Author.Tests.{le-ltb}
use Rattle.base.specs.Rounding.{rounded}
use Rattle.base.specs.Total.{total}
use Rattle.field.specs.Field.{seen_to, field_at, justified, field_of}
use Rattle.reading.specs.Reading.{letter_of, feed, feed_at, good, values, line_by, line_at}
use Rattle.line.specs.Writing.{fields_of, line_of}
use Rattle.dip.specs.Level.{mean_level}
use Rattle.gauging.specs.Capacity.{interpolated, capacity_at}
use Rattle.gauging.specs.Capacity as capacity
use Rattle.heating.specs.Steps as thermal
use Rattle.kilograms.specs.Steps as steps
use Rattle.car.specs.Measured.{measured_tests, v0, mass, six_figures}
use Rattle.car.specs.Car.{car_tests}
use Rattle.summing.specs.Sums.{totals_of, sums_of}
use Rattle.consist.specs.Train.{unsound, full, admission_tests, enter_tests, enter_answer, enter_train, strike_tests, strike_answer, strike_train}
use Rattle.grammar.specs.Sheet.{table_line, row_line, car_line, strike_line, end_line, step_of, lines, sheet_of}
use Rattle.grammar.specs.Text.{text_of}
use Rattle.merge_spec.specs.Merge.{Half, holds, half_of, least_merge_buffer, merging_of, merging_in}
use Rattle.merge_spec.specs.Inner.{joined}
use Rattle.merge_laws.specs.Pair.{first_sheet, second_sheet, merged_sheet, first_tables, first_cars, second_tables, second_cars, PairExample}
use Rattle.merge_spec.proofs.Joining.{one_text}

first_half : half_of (sheet_of first_sheet) ≡ holds first_tables first_cars
unfolding first_sheet text_of rounded seen_to field_at justified field_of letter_of feed feed_at good values line_by line_at fields_of line_of mean_level interpolated capacity_at capacity.v0 thermal.expansion thermal.exponent thermal.term thermal.series thermal.factor thermal.density_at steps.stick_coefficient steps.hot_volume steps.cold_volume steps.gross steps.net steps.volume15_of steps.gross_of steps.net_of measured_tests v0 mass six_figures car_tests total totals_of sums_of unsound full admission_tests enter_tests enter_answer enter_train strike_tests strike_answer strike_train table_line row_line car_line strike_line end_line step_of lines sheet_of
first_half = refl

second_half : half_of (sheet_of second_sheet) ≡ holds second_tables second_cars
unfolding second_sheet text_of rounded seen_to field_at justified field_of letter_of feed feed_at good values line_by line_at fields_of line_of mean_level interpolated capacity_at capacity.v0 thermal.expansion thermal.exponent thermal.term thermal.series thermal.factor thermal.density_at steps.stick_coefficient steps.hot_volume steps.cold_volume steps.gross steps.net steps.volume15_of steps.gross_of steps.net_of measured_tests v0 mass six_figures car_tests total totals_of sums_of unsound full admission_tests enter_tests enter_answer enter_train strike_tests strike_answer strike_train table_line row_line car_line strike_line end_line step_of lines sheet_of
second_half = refl

-- a buffer that is long enough leaves the choice to the sheets
in_room : (lent : List ℕ) (a b : Half) → 39_771 ≤ length lent → merging_in (length lent) a b ≡ merging_of a b
in_room lent a b h = rw (le-ltb (length lent) least_merge_buffer h)

pub pair_example : PairExample
unfolding merged_sheet joined text_of justified field_of fields_of line_of
pair_example = record {
  first = first_half;
  second = second_half;
  merged = λ lent h.
      rw (first_half, second_half, in_room lent (holds first_tables first_cars) (holds second_tables second_cars) h)
      (record { text = merged_sheet; made = one_text first_tables first_cars second_tables second_cars merged_sheet refl refl refl refl refl refl refl; handed = refl; bytes = refl });
  swapped = λ lent h.
      rw (first_half, second_half, in_room lent (holds second_tables second_cars) (holds first_tables first_cars) h)
      (record { text = merged_sheet; made = one_text second_tables second_cars first_tables first_cars merged_sheet refl refl refl refl refl refl refl; handed = refl; bytes = refl });
}
