-- `permitting::limit_beside` meets its contract: the tests in their order, then the limit of the sum of squares.
use Prim.Native.Nat.{ℕ, ◌≤◌, ◌<◌}
use mathlib.Core.Path.{◌≡◌, sym, ap, ap₂, ◌∙◌, subst}
use mathlib.Core.Bool.{Bool}
use mathlib.Core.List.{List, [], ◌∷◌, ◌++◌}
use native.Mathlib.Omega.{arith}
use Rattle.std.proofs.lemmas.Result.{err_from_is_err_and}
use Rattle.base.specs.Answer.{Answer, figures, refusal}
use Rattle.base.specs.Numbers.{one_if}
use Rattle.table.specs.Layout.{tables_in}
use Rattle.heating.proofs.Bounds.{expansion_most}
use Rattle.car.proofs.Accepted.{fields}
use Rattle.accuracy.specs.Limit.{IsLimit, within}
use Rattle.accuracy.specs.Terms.{terms, sum_of_squares}
use Rattle.accuracy.specs.Permitted.{most_level_term, level_term_of, terms_of}
use Rattle.accuracy.proofs.Answers.{limited, turned_away_lem}
use Rattle.accuracy.proofs.Parts.{in_range, errors_away, no_volume, too_large, all_passed}
use Rattle.permitting.proofs.limit_beside.Goals as goal

abbrev values : Answer → List ℕ
values (figures vs) = vs
values (refusal n) = []

pub returns-in_err-check_errors : goal.returns-in_err-check_errors
returns-in_err-check_errors c h x =
    let r = err_from_is_err_and c.from_residual.result c.from_residual.ensures.1 in
    rw (r.1, r.2) (turned_away_lem (errors_away (tables_in c.args.tables.now) h c.args.errors x.accepted (sym c.in_err-check_errors.ensures)))

pub returns-then-six-eq0 : goal.returns-then-six-eq0
returns-then-six-eq0 c h x =
    turned_away_lem
    (no_volume (tables_in c.args.tables.now) h c.args.errors x.accepted (sym c.in_ok-check_errors.ensures) (rw x.is at (sym c.requires.1.v0 ∙ c.if-six-eq0.true)))

pub returns-then-level-gt-MOST_LEVEL_TERM : goal.returns-then-level-gt-MOST_LEVEL_TERM
returns-then-level-gt-MOST_LEVEL_TERM c h x =
    let ts = tables_in c.args.tables.now in
    let large : most_level_term < level_term_of ts c.args.m c.args.errors = omega (arith, c.if-level-gt-MOST_LEVEL_TERM.true, c.level_term_on-level.ensures) in
    turned_away_lem (too_large ts h c.args.errors x.accepted (sym c.in_ok-check_errors.ensures) (rw x.is at large))

pub sum_of_squares-requires : goal.sum_of_squares-requires
sum_of_squares-requires c =
    let f = fields (tables_in c.args.tables.now) c.args.m c.requires.0 in
    (in_range c.args.errors (sym c.in_ok-check_errors.ensures), c.if-level-gt-MOST_LEVEL_TERM.false, omega (arith, c.requires.2 f.density, expansion_most f.density.light), f.hot)

pub returns : goal.returns
unfolding terms_of
returns c h x =
    let ts = tables_in c.args.tables.now in
    let m = c.args.m in
    let e = c.args.errors in
    let sum : c.sum_of_squares.result ≡ sum_of_squares (terms_of ts m e) =
    c.sum_of_squares.ensures.0 ∙ ap₂ (λ (y z : ℕ). sum_of_squares (terms e y z m.temperature)) c.level_term_on-level.ensures (c.requires.2 (fields ts m c.requires.0).density) in
    let most : level_term_of ts m e ≤ most_level_term = omega (arith, c.if-level-gt-MOST_LEVEL_TERM.false, c.level_term_on-level.ensures) in
    limited c.limit_of-limit.result (subst (λ (y : ℕ). IsLimit y c.limit_of-limit.result) (rw x.is at sum) c.limit_of-limit.ensures.0)
    (all_passed ts h e x.accepted (sym c.in_ok-check_errors.ensures) (λ z. c.if-six-eq0.false (c.requires.1.v0 ∙ rw x.is z)) (rw x.is at most))
    (ap₂ (λ (six : List ℕ) (w : Bool). six ++ (c.limit_of-limit.result ∷ one_if w ∷ [])) (ap values x.shows) (c.is_within.ensures ∙ ap (within c.limit_of-limit.result) (rw x.is at c.requires.1.gross)))
