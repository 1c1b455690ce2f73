-- Document 01's listing, computed from the definitions.
use mathlib.Core.Path.{refl}
use Rattle.base.specs.Rounding.{rounded}
use Rattle.field.specs.Field.{seen_to, field_at, justified, field_of}
use Rattle.reading.specs.Reading.{letter_of, feed, feed_at, good, values, line_by, line_at}
use Rattle.line.specs.Writing.{fields_of, line_of}
use Rattle.dip.specs.Level.{mean_level}
use Rattle.gauging.specs.Capacity.{interpolated, capacity_at}
use Rattle.gauging.specs.Capacity as capacity
use Rattle.heating.specs.Steps as thermal
use Rattle.kilograms.specs.Steps as steps
use Rattle.car.specs.Measured.{measured_tests, v0, mass, six_figures}
use Rattle.car.specs.Car.{car_tests}
use Rattle.base.specs.Total.{total}
use Rattle.summing.specs.Sums.{totals_of, sums_of}
use Rattle.consist.specs.Train.{unsound, full, admission_tests, enter_tests, enter_answer, enter_train, strike_tests, strike_answer, strike_train}
use Rattle.grammar.specs.Sheet.{table_line, row_line, car_line, strike_line, end_line, step_of, lines, sheet_of}
use Rattle.grammar.specs.Text.{text_of}
use Rattle.answers.specs.Listing.{reply_of}
use Rattle.answers.specs.Paper.{paper_sheet, paper_listing, strikes_sheet, strikes_listing, small_sheet, PaperExample}

pub paper_example : PaperExample
unfolding paper_sheet paper_listing strikes_sheet strikes_listing small_sheet text_of reply_of rounded seen_to field_at justified field_of letter_of feed feed_at good values line_by line_at fields_of line_of mean_level interpolated capacity_at capacity.v0 thermal.expansion thermal.exponent thermal.term thermal.series thermal.factor thermal.density_at steps.stick_coefficient steps.hot_volume steps.cold_volume steps.gross steps.net steps.volume15_of steps.gross_of steps.net_of measured_tests v0 mass six_figures car_tests total totals_of sums_of unsound full admission_tests enter_tests enter_answer enter_train strike_tests strike_answer strike_train table_line row_line car_line strike_line end_line step_of lines sheet_of
paper_example = record { listing = refl; strikes = refl; no_cars_lem = refl; refused = refl; reply = refl; refused_reply = refl; longest_sheet = refl; least_buffer_lem = refl; short = refl }
