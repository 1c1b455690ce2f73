-- The exact capacity at a level and the exact volume between two, with nothing rounded.
use Rattle.std.specs.Prelude.{ℕ, ◌-◌, ◌*◌, List}
use Rattle.base.specs.Limits.{in_tenths}
use Rattle.base.specs.Fraction.{Frac, whole, ◌+ᶠ◌, ◌-ᶠ◌, ◌/ᶠ◌}
use Rattle.table.specs.Table.{Row}
use Rattle.gauging.specs.Capacity.{Gap, rows_around}

-- 100 times the capacity at a level on the line through two rows, in 0.01 dm³: what the lower row has, and the rise to the level
unfoldable pub interpolatedˣ : Gap → ℕ → Frac
interpolatedˣ g level =
    let low = in_tenths g.low.level in
    whole (100 * g.low.capacity)
    +ᶠ whole (100 * ((g.high.capacity - g.low.capacity) * (level - low))) /ᶠ (in_tenths g.high.level - low)

unfoldable pub capacity_atˣ : List Row → ℕ → Frac
capacity_atˣ rows level = interpolatedˣ (rows_around rows level) level

-- V0 without R
unfoldable pub v0ˣ : List Row → ℕ → ℕ → Frac
v0ˣ rows mean water = capacity_atˣ rows mean -ᶠ capacity_atˣ rows (in_tenths water)
