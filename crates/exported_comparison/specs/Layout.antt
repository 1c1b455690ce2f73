-- The lengths of the slices of a stick's check.
use Rattle.std.specs.Prelude.{ℕ, Bool, ◌&&◌, List}
use Rattle.comparison.specs.Answers.{most_readings}
use Rattle.marshalling.specs.Handed.{length_is}

-- sign, size, pass, allowance
abbrev pub figure_count : ℕ
figure_count = 4

unfoldable pub check_sized : List ℕ → List ℕ → Bool
check_sized readings figures = length_is most_readings readings && length_is figure_count figures
