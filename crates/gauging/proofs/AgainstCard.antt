-- The rack card's table, by computation: type 1, rows in mm and dm³.
use mathlib.Core.Path.{◌≡◌, refl}
use mathlib.Core.List.{List, [], ◌∷◌}
use Rattle.base.specs.Rounding.{rounded}
use Rattle.base.specs.Answer.{accepts, figures, refusal}
use Rattle.table.specs.Table.{Row, row_of, Table, tables_verdict}
use Rattle.gauging.specs.Capacity.{interpolated, capacity_at, v0, volume_answer}

abbrev card : List Row
card = row_of 0 0 ∷ row_of 1_000 20_000 ∷ row_of 2_000 50_000 ∷ row_of 3_000 70_000 ∷ []

abbrev tables : List Table
tables = record { kind = 1; rows = card } ∷ []

good : tables_verdict tables ≡ accepts
good = refl

-- capacity at 10 tenths of a mm and at 5, in 0.01 dm³
capacity_10 : (capacity_at card 10 ≡ 2_000) × (capacity_at card 5 ≡ 1_000)
unfolding capacity_at interpolated rounded
capacity_10 = (refl, refl)

-- V0 at a mean level, in tenths, over a water level in mm, in 0.01 dm³

volume_30000 : volume_answer tables 1 30_000 0 ≡ figures (7_000_000 ∷ [])
unfolding volume_answer v0 capacity_at interpolated rounded
volume_30000 = refl

volume_15000 : volume_answer tables 1 15_000 0 ≡ figures (3_500_000 ∷ [])
unfolding volume_answer v0 capacity_at interpolated rounded
volume_15000 = refl

-- half a mm alone, and over water, at 20 and 30 dm³ to a mm
volume_5 : volume_answer tables 1 5 0 ≡ figures (1_000 ∷ [])
unfolding volume_answer v0 capacity_at interpolated rounded
volume_5 = refl

volume_15005 : volume_answer tables 1 15_005 1_500 ≡ figures (1_500 ∷ [])
unfolding volume_answer v0 capacity_at interpolated rounded
volume_15005 = refl

-- refusals

volume_30001 : volume_answer tables 1 30_001 0 ≡ refusal 16
unfolding volume_answer
volume_30001 = refl

volume_0 : volume_answer tables 1 0 0 ≡ refusal 16
unfolding volume_answer
volume_0 = refl

water_1501 : (volume_answer tables 1 15_005 1_501 ≡ refusal 17) × (volume_answer tables 1 15_010 1_501 ≡ refusal 17)
unfolding volume_answer
water_1501 = (refl, refl)

type_2 : volume_answer tables 2 15_000 0 ≡ refusal 12
unfolding volume_answer
type_2 = refl

-- 7 comes before 12 and 16
type_0 : volume_answer (record { kind = 0; rows = card } ∷ []) 2 0 0 ≡ refusal 7
unfolding volume_answer
type_0 = refl
