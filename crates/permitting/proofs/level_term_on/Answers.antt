-- `permitting::level_term_on` meets its contract: an accepted car's level is on its table, so that the rows around it are found.
use Prim.Native.Nat.{ℕ}
use mathlib.Core.Path.{ap₂, ◌∙◌}
use Rattle.table.specs.Layout.{tables_in}
use Rattle.gauging.specs.Capacity.{Gap}
use Rattle.gauging.proofs.Answers.{around_rows}
use Rattle.accuracy.specs.Terms.{level_term}
use Rattle.accuracy.specs.Permitted.{level_term_of}
use Rattle.permitting.proofs.level_term_on.Goals as goal

pub returns-in-Ok : goal.returns-in-Ok
unfolding level_term_of
returns-in-Ok c =
    let p = around_rows (tables_in c.args.tables.now) c.args.m.kind c.args.m.level c.in-Ok.ensures.told in
    c.level_term.ensures
    ∙ ap₂ (λ (g : Gap) (v : ℕ). level_term c.args.errors.level g v) p.1 c.requires.2
