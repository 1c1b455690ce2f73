-- How many numbers the tenths of a set are.
use Rattle.std.specs.Prelude.{ℕ}

-- level, temperature, density
abbrev pub set_count : ℕ
set_count = 3
