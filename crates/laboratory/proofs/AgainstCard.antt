-- The rack card of reports, computed from the definitions.
use Prim.Native.Nat.{ℕ}
use mathlib.Core.Path.{◌≡◌, refl}
use mathlib.Core.Bool.{true, false}
use mathlib.Core.List.{[], ◌∷◌}
use Rattle.base.specs.Answer.{Answer, first, answer}
use Rattle.base.specs.Rounding.{rounded}
use Rattle.heating.specs.Limits.{density_bad}
use Rattle.heating.specs.Steps.{expansion, exponent, term, series, factor, density_at}
use Rattle.heating.proofs.Limits.{density_in_range}
use Rattle.laboratory.specs.declared.Report.{Report}
use Rattle.laboratory.specs.Nearest.{density_there}
use Rattle.laboratory.specs.Answers.{temperature_bad, report_tests, ReportAnswer}
use Rattle.laboratory.specs.Card.{density_card, other_card, report_card, ReportsRight}
use Rattle.laboratory.proofs.Figures.{densities_right, others_right, verdicts_right}
use Rattle.laboratory.proofs.Search.{all_from, nearest_test, nearest_by}
use Rattle.laboratory.proofs.Neighbours.{beside_test, beside_by, nearest_beside}
use Rattle.laboratory.proofs.Answers.{turned_away_lem}
use Rattle.laboratory.proofs.Told.{temperature_in}

-- the nearest field r, compared with all 901, or with the fields beside it
by_search : {p : Report} {a : Answer} (r : ℕ) → density_bad r ≡ false → nearest_test p r ≡ true → a ≡ answer (first (report_tests p r)) (r ∷ []) → ReportAnswer p a
by_search {p} r d e h = record { field = r; nearest = nearest_by p r (density_in_range r d) e; answered = h }

beside : {p : Report} {a : Answer} (r : ℕ) → temperature_bad p ≡ false → density_bad r ≡ false → beside_test p r ≡ true
    → a ≡ answer (first (report_tests p r)) (r ∷ []) → ReportAnswer p a
beside {p} r t d e h =
    record { field = r; nearest = nearest_beside p (temperature_in p t) (beside_by p r (density_in_range r d) e); answered = h }

pub reports_right : ReportsRight
unfolding density_card other_card report_card density_there expansion exponent term series factor density_at rounded all_from
reports_right = record {
  densities = densities_right;
  others = others_right;
  verdicts = verdicts_right;
  answers = (by_search 9_540 refl refl refl, (beside 9_640 refl refl refl refl, (beside 9_547 refl refl refl refl, (beside 9_647 refl refl refl refl, (beside 9_572 refl refl refl refl, (beside 9_632 refl refl refl refl, (beside 9_000 refl refl refl refl, (beside 9_000 refl refl refl refl, (beside 9_000 refl refl refl refl, (beside 9_900 refl refl refl refl, (beside 9_900 refl refl refl refl, (beside 9_900 refl refl refl refl, (beside 9_000 refl refl refl refl, (beside 9_000 refl refl refl refl, (beside 9_900 refl refl refl refl, (beside 9_900 refl refl refl refl, (by_search 9_207 refl refl refl, (turned_away_lem refl, (turned_away_lem refl, (by_search 9_000 refl refl refl, (turned_away_lem refl, (turned_away_lem refl, (beside 9_000 refl refl refl refl, (beside 9_900 refl refl refl refl, tt))))))))))))))))))))))));
}
