-- What inner functions ask for; it is no part of what steps 4 to 6 and 9 mean.
use Rattle.std.specs.Prelude.{ℕ, ◌-◌}
use Rattle.heating.specs.Limits.{highest_temperature}

-- the most tenths of a degree above 15 °C, and then the most of B, X and E, in their units
abbrev pub most_above15 : ℕ
most_above15 = highest_temperature - 150

abbrev pub most_expansion : ℕ
most_expansion = 771_027

abbrev pub most_exponent : ℕ
most_exponent = 605_021_969

abbrev pub most_factor : ℕ
most_factor = 10_018_308_166
