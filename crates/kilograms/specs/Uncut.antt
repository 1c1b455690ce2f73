-- That nothing is cut off: a difference of numbers or of fractions stops at 0, and in range none of steps 3 to 8 falls so far, rounded or exact.
use Rattle.std.specs.Prelude.{ℕ, ◌+◌, ◌-◌, ◌≤◌}
use Rattle.heating.specs.Uncut.{FactorUncut}

-- the differences of steps 3 to 8, at temperature t, density r at 15 °C, water w and impurities i
pub record NothingCut (t r w i : ℕ) : Type 0 where
  pub above20 : 200 ≤ t
  pub above15 : 150 ≤ t
  pub factor : FactorUncut r (t - 150)
  pub oil : w + i ≤ 10_000
