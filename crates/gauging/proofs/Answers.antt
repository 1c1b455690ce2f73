-- What the answers on tables tell: the tests that passed and the value, or the refusal.
use Prim.Native.Nat.{ℕ, ◌*◌, ◌≤◌, ◌<◌}
use mathlib.Core.Path.{◌≡◌, sym, ap, ◌∙◌}
use mathlib.Core.Bool.{Bool, true, false, ◌||◌, or-true}
use mathlib.Core.List.{List, [], ◌∷◌}
use native.Mathlib.Omega.{arith}
use lib.Dec.{eqb}
use lib.ListN.{get_or}
use borrow.Author.Tests.{ltb-false, leb-false, eqb-false, le-ltb, le-leb, lt-leb, ne_eqb}
use Rattle.base.specs.Answer.{refuse_if, Verdict, accepts, refuses, first, Answer, figures, refusal, answer}
use Rattle.base.specs.Limits.{in_tenths, highest_level, greatest_capacity}
use Rattle.base.proofs.Choice.{never, neither}
use Rattle.base.proofs.Answer.{not_applied, refuses-append, accepted-append, answer_figures, answer_refusal}
use Rattle.table.specs.Table.{Table, row_of, tables_tests, tables_verdict, unknown, rows_of, last_level}
use Rattle.table.proofs.Rising.{tables_rising, tables_last_most}
use Rattle.gauging.specs.declared.Neighbours.{Neighbours}
use Rattle.gauging.specs.Capacity.{Gap, rows_around, interpolated, above, water_bad, capacity_at, v0, reach_tests, volume_tests, capacity_answer, volume_on, volume_answer}
use Rattle.gauging.specs.Inner.{gap_of, gap_numbers, around_answer}
use Rattle.gauging.proofs.Capacity.{v0_near}

-- One level: the rows around it, and the capacity.

gap_by : List ℕ → Gap
gap_by ns = record { low = row_of (get_or ns 0 0) (get_or ns 1 0); high = row_of (get_or ns 2 0) (get_or ns 3 0) }

module _ (ts : List Table) (kind level : ℕ) where
  pub around_rows : {n : Neighbours} → figures (gap_numbers (gap_of n)) ≡ around_answer ts kind level
      → (first (reach_tests ts kind level) ≡ accepts) × (gap_of n ≡ rows_around (rows_of kind ts) level)
  unfolding gap_by
  around_rows e =
      let p = answer_figures (first (reach_tests ts kind level)) e in
      (p.0, ap gap_by p.1)

  pub capacity_figures : {n : Neighbours} {v : ℕ} → figures (gap_numbers (gap_of n)) ≡ around_answer ts kind level
      → v ≡ interpolated (gap_of n) level → figures (v ∷ []) ≡ capacity_answer ts kind level
  unfolding capacity_at
  capacity_figures e q =
      let p = around_rows e in
      let values = capacity_at (rows_of kind ts) level ∷ [] in
      ap (λ (v : ℕ). figures (v ∷ [])) (q ∙ ap (λ (g : Gap). interpolated g level) p.1)
      ∙ sym (ap (λ (w : Verdict). answer w values) p.0)

  pub capacity_refused : {n : ℕ} → refusal n ≡ around_answer ts kind level → refusal n ≡ capacity_answer ts kind level
  capacity_refused e =
      let values = capacity_at (rows_of kind ts) level ∷ [] in
      let v = answer_refusal (first (reach_tests ts kind level)) (gap_numbers (rows_around (rows_of kind ts) level)) e in
      sym (ap (λ (w : Verdict). answer w values) v)

  pub record Reached (v : ℕ) : Type 0 where
    pub known : unknown kind ts ≡ false
    pub low : level ≤ in_tenths (last_level (rows_of kind ts))
    pub value : v ≡ capacity_at (rows_of kind ts) level

  pub reached : {v : ℕ} → figures (v ∷ []) ≡ capacity_answer ts kind level → Reached v
  reached e =
      let p = answer_figures (first (reach_tests ts kind level)) e in
      record {
        known = not_applied 12 (reach_tests ts kind level) p.0;
        low = ltb-false (in_tenths (last_level (rows_of kind ts))) level (not_applied 16 (reach_tests ts kind level) p.0);
        value = let z = p.1 in cc;
      }

  -- a known table reaches every level up to its last
  module _ (u : unknown kind ts ≡ false) (h : level ≤ in_tenths (last_level (rows_of kind ts))) where
    reaches : (values : List ℕ) → answer (first (reach_tests ts kind level)) values ≡ figures values
    reaches values = rw (u, le-ltb (in_tenths (last_level (rows_of kind ts))) level h)

    pub not_refused : {n : ℕ} → refusal n ≡ capacity_answer ts kind level → ⊥
    not_refused e = let same = e ∙ reaches (capacity_at (rows_of kind ts) level ∷ []) in never (cc)

    pub rows_not_refused : {n : ℕ} → refusal n ≡ around_answer ts kind level → ⊥
    rows_not_refused e = let same = e ∙ reaches (gap_numbers (rows_around (rows_of kind ts) level)) in never (cc)

-- V0 between two levels.

module _ (ts : List Table) (kind mean water : ℕ) where
  -- a level that is refused by itself
  pub level_refused : {n : ℕ} → refusal n ≡ capacity_answer ts kind mean → refusal n ≡ volume_on ts kind mean water
  unfolding volume_on
  level_refused e =
      let values = v0 (rows_of kind ts) mean water ∷ [] in
      let v = answer_refusal (first (reach_tests ts kind mean)) (capacity_at (rows_of kind ts) mean ∷ []) e in
      sym (ap (λ (w : Verdict). answer w values) (more (unknown kind ts) (eqb mean 0) (above (rows_of kind ts) mean) (water_bad mean water) v))
    where
      more : (a b c d : Bool) {n : ℕ} → first (refuse_if 12 a ∷ refuse_if 16 c ∷ []) ≡ refuses n
          → first (refuse_if 12 a ∷ refuse_if 16 (b || c) ∷ refuse_if 17 d ∷ []) ≡ refuses n
      more true b c d e = e
      more false b true d e = rw (or-true b) e
      more false b false d e = never (cc)

  -- what an accepted volume has
  pub record Accepted : Type 0 where
    pub known : unknown kind ts ≡ false
    pub positive : 0 < mean
    pub low : mean ≤ in_tenths (last_level (rows_of kind ts))
    pub above_water : in_tenths water < mean

  accepted : first (volume_tests ts kind mean water) ≡ accepts → Accepted
  accepted e =
      let by16 = neither _ _ (not_applied 16 (volume_tests ts kind mean water) e) in
      let nonzero = eqb-false mean 0 by16.0 in
      record {
        known = not_applied 12 (volume_tests ts kind mean water) e;
        positive = omega arith;
        low = ltb-false (in_tenths (last_level (rows_of kind ts))) mean by16.1;
        above_water = leb-false mean (in_tenths water) (not_applied 17 (volume_tests ts kind mean water) e);
      }

  pub volume_found : Accepted → volume_on ts kind mean water ≡ figures (v0 (rows_of kind ts) mean water ∷ [])
  unfolding volume_on
  volume_found b =
      rw (
        b.known,
        ne_eqb mean 0 (λ e. omega (arith, b.positive)),
        le-ltb (in_tenths (last_level (rows_of kind ts))) mean b.low,
        lt-leb mean (in_tenths water) b.above_water,
      )

  pub water_refused : unknown kind ts ≡ false → (mean ≡ 0 → ⊥) → mean ≤ in_tenths (last_level (rows_of kind ts)) → mean ≤ in_tenths water
      → volume_on ts kind mean water ≡ refusal 17
  unfolding volume_on
  water_refused u n h k = rw (u, ne_eqb mean 0 n, le-ltb (in_tenths (last_level (rows_of kind ts))) mean h, le-leb mean (in_tenths water) k)

  -- the answer's two cases
  pub volume_figures : {v : ℕ} → figures (v ∷ []) ≡ volume_on ts kind mean water → Accepted × (v ≡ v0 (rows_of kind ts) mean water)
  unfolding volume_on
  volume_figures e =
      let p = answer_figures (first (volume_tests ts kind mean water)) e in
      (accepted p.0, let z = p.1 in cc)

  pub volume_refused : {n : ℕ} → refusal n ≡ volume_on ts kind mean water → first (volume_tests ts kind mean water) ≡ refuses n
  unfolding volume_on
  volume_refused e = answer_refusal (first (volume_tests ts kind mean water)) (v0 (rows_of kind ts) mean water ∷ []) e

  -- on tables that are not refused: a mean level with a V0 is at most 3,600 mm, and V0 at most 200,000 dm³
  pub mean_most : tables_verdict ts ≡ accepts → {v : ℕ} → figures (v ∷ []) ≡ volume_on ts kind mean water → mean ≤ in_tenths highest_level
  mean_most e t = let p = volume_figures t in omega (arith, p.0.low, tables_last_most kind ts e p.0.known)

  pub volume_most : tables_verdict ts ≡ accepts → {v : ℕ} → figures (v ∷ []) ≡ volume_on ts kind mean water → v ≤ 100 * greatest_capacity
  volume_most e t =
      let p = volume_figures t in
      let near = v0_near (rows_of kind ts) (tables_rising kind ts e p.0.known) water (omega (arith, p.0.above_water)) p.0.low in
      omega (arith, p.1, near.most)

  -- V0 on any tables
  pub tables_refused : {k : ℕ} → tables_verdict ts ≡ refuses k → refusal k ≡ volume_answer ts kind mean water
  unfolding volume_answer
  tables_refused e =
      sym (ap (λ (v : Verdict). answer v (v0 (rows_of kind ts) mean water ∷ [])) (refuses-append (volume_tests ts kind mean water) (tables_tests ts) e))

  pub tables_accepted : {a : Answer} → tables_verdict ts ≡ accepts → a ≡ volume_on ts kind mean water → a ≡ volume_answer ts kind mean water
  unfolding volume_answer volume_on
  tables_accepted e h =
      h ∙ sym (ap (λ (v : Verdict). answer v (v0 (rows_of kind ts) mean water ∷ [])) (accepted-append (volume_tests ts kind mean water) (tables_tests ts) e))
