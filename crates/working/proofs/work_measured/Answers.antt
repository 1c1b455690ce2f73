-- `working::work_measured` meets its contract: the volume's 16 and 17, or the answer from the volume on.
use mathlib.Core.Path.{◌∙◌}
use Rattle.std.proofs.lemmas.Result.{err_from_is_err_and}
use Rattle.table.specs.Layout.{tables_in}
use Rattle.gauging.proofs.Answers.{mean_most, volume_most}
use Rattle.car.proofs.Accepted.{grade_known}
use Rattle.car.proofs.Answers.{volume_away, volume_known}
use Rattle.working.proofs.work_measured.Goals as goal

pub returns-in_err-v0 : goal.returns-in_err-v0
returns-in_err-v0 c =
    let a = c.args in
    let p = err_from_is_err_and c.from_residual.result c.from_residual.ensures.1 in
    rw (p.1, p.2) (volume_away (tables_in a.tables.now) a.m a.number c.requires.1 c.in_err-v0.ensures)

pub from_volume-requires : goal.from_volume-requires
from_volume-requires c =
    let a = c.args in
    let m = a.m in
    let ts = tables_in a.tables.now in (
      mean_most ts m.kind m.level m.water_level c.requires.0.accepted c.in_ok-v0.ensures,
      volume_most ts m.kind m.level m.water_level c.requires.0.accepted c.in_ok-v0.ensures,
      grade_known ts m c.requires.1,
      c.requires.2,
    )

pub returns : goal.returns
returns c =
    let a = c.args in
    c.from_volume.ensures ∙ volume_known (tables_in a.tables.now) a.m a.number c.requires.1 c.in_ok-v0.ensures
