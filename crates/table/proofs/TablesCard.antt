-- The numbers of the card of tables, computed from the definitions.
use mathlib.Core.Path.{refl}
use Rattle.table.specs.TablesCard.{card, TablesRight}

pub tables_right : TablesRight
unfolding card
tables_right = record { each = (refl, (refl, (refl, (refl, (refl, (refl, (refl, (refl, (refl, (refl, (refl, (refl, (refl, (refl, (refl, (refl, (refl, (refl, (refl, (refl, (refl, (refl, (refl, (refl, tt)))))))))))))))))))))))) }
