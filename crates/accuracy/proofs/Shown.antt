-- The rows around the mean level of rows that rise are neighbours, of which the higher is the first that reaches it; so the figures that are shown
-- hang together.
use Prim.Native.Nat.{ℕ, ◌≤◌, ◌<◌}
use mathlib.Core.Path.{◌≡◌, refl, sym, ap, subst}
use mathlib.Core.List.{List, [], ◌∷◌, ◌++◌}
use native.Mathlib.Nat.{not-le_of_lt}
use native.Mathlib.Omega.{arith}
use Rattle.base.specs.Limits.{in_tenths}
use Rattle.base.specs.Answer.{Verdict, accepts, refuses, first, Answer, answer}
use Rattle.base.proofs.Answer.{accepted_parts}
use Rattle.table.specs.Table.{Row, Table, last_level}
use Rattle.table.proofs.Rising.{Follows, RisingFrom, Rising}
use Rattle.gauging.specs.Capacity.{Gap, gap_after, rows_around}
use Rattle.gauging.proofs.Capacity.{by_leb}
use Rattle.car.specs.Measured.{rows, mass, six_figures}
use Rattle.car.specs.Car.{Intake, measured_of, alone_tests}
use Rattle.car.proofs.Accepted.{passed_alone, level_in, rising}
use Rattle.accuracy.specs.declared.Errors.{Errors}
use Rattle.accuracy.specs.Permitted.{gap, level_term_of, terms_of, error_tests, term_tests, permitted_tests, eight_figures, PermittedAnswer}
use Rattle.accuracy.specs.Shown.{Around, ShownRight}

-- two rows around a level, of which the higher follows the lower
record Found (rows : List Row) (level : ℕ) (g : Gap) : Type 0 where
  around : Around rows level g
  follows : Follows g.low g.high

-- the first two rows
here : {level : ℕ} (low high : Row) (rows : List Row) → Follows low high → in_tenths low.level < level → level ≤ in_tenths high.level
    → Found (low ∷ high ∷ rows) level (record { low = low; high = high })
here low high rows f p a = record { around = record { before = []; after = rows; neighbours = refl; passed = p; reached = a }; follows = f }

-- one row more below
under : {all : List Row} {level : ℕ} {g : Gap} (row : Row) → Found all level g → Found (row ∷ all) level g
under row h = record {
  around = record {
    before = row ∷ h.around.before;
    after = h.around.after;
    neighbours = ap (λ (l : List Row). row ∷ l) h.around.neighbours;
    passed = h.around.passed;
    reached = h.around.reached;
  };
  follows = h.follows;
}

-- the rows found after a row that does not reach the level
after_found : (low high : Row) (rows : List Row) → RisingFrom low (high ∷ rows) → (h : ℕ) → in_tenths low.level < h → h ≤ in_tenths (last_level (high ∷ rows))
    → Found (low ∷ high ∷ rows) h (gap_after low (high ∷ rows) h)
after_found low high [] (f, rest) h p q =
    by_leb (λ g. Found (low ∷ high ∷ []) h g) h (in_tenths high.level) (λ a. here low high [] f p a) (λ b. absurd (not-le_of_lt b q))
after_found low high (next ∷ rows) (f, rest) h p q =
    by_leb (λ g. Found (low ∷ high ∷ next ∷ rows) h g) h (in_tenths high.level) (λ a. here low high (next ∷ rows) f p a) (λ b. under low (after_found high next rows rest h b q))

rows_found : (rows : List Row) → Rising rows → {h : ℕ} → 0 < h → h ≤ in_tenths (last_level rows) → Found rows h (rows_around rows h)
rows_found [] r p q = absurd r
rows_found (row ∷ []) r p q = absurd r
rows_found (row ∷ next ∷ rows) (z, _, r) {h} p q = after_found row next rows r h (omega (arith, z)) q

-- the answer on the permitted error
module _ (ts : List Table) (c : Intake) (e : Errors) where
  car_found : first (permitted_tests ts c e) ≡ accepts → Found (rows ts (measured_of c)) (measured_of c).level (gap ts (measured_of c))
  unfolding permitted_tests
  car_found v =
      let h = passed_alone c (accepted_parts (error_tests e ++ term_tests ts (measured_of c) e) (alone_tests ts c) v).0 in
      let l = level_in ts (measured_of c) h in
      rows_found (rows ts (measured_of c)) (rising ts (measured_of c) h) l.0 l.1

  pub shown_right : {a : Answer} → PermittedAnswer ts c e a → ShownRight ts c e a
  unfolding level_term_of terms_of six_figures mass
  shown_right p = subst (ShownRight ts c e) (sym p.answered) (go (first (permitted_tests ts c e)) refl)
    where
      go : (v : Verdict) → first (permitted_tests ts c e) ≡ v → ShownRight ts c e (answer v (eight_figures ts c p.limit))
      go accepts v =
          let f = car_found v in
          record {
            gap = gap ts (measured_of c);
            around = f.around;
            limit = p.smallest v;
            within = refl;
            levels = omega (arith, f.follows.rises);
            capacities = omega (arith, f.follows.fills);
          }
      go (refuses n) v = tt
