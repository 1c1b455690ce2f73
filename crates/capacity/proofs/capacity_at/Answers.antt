-- `capacity::capacity_at` meets its contract: the capacity is that of the rows found, and the refusal is the search's.
use Rattle.table.specs.Layout.{tables_in}
use Rattle.gauging.proofs.Answers.{capacity_figures}
use Rattle.capacity.proofs.capacity_at.Goals as goal

pub interpolate-requires : goal.interpolate-requires
interpolate-requires c = c.rows_around.ensures.between _ c.in_ok-rows.was

pub returns : goal.returns
returns c =
    let a = c.args in
    capacity_figures (tables_in a.tables.now) a.kind a.level c.in_ok-rows.ensures.told c.interpolate.ensures
