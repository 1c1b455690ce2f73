-- The capacity read off rising rows: near the exact one, at most 200,000 dm³, and never falling as the level rises.
use Prim.Native.Nat.{ℕ, ◌+◌, ◌*◌, ◌-◌, ◌/◌, ◌≤◌, ◌<◌}
use mathlib.Core.Path.{◌≡◌, refl, sym, ap, ◌∙◌}
use mathlib.Core.Bool.{cond}
use mathlib.Core.List.{List, [], ◌∷◌}
use native.Mathlib.Nat.{mul-le-mul_left, mul-le-mul_right, le_refl, le_trans, not-le_of_lt, suc-pred-eq_of_pos, mul-add-div_right}
use native.Mathlib.Omega.{arith}
use lib.Dec.{leb}
use borrow.Author.Tests.{leb-true, leb-false}
use Rattle.base.specs.Limits.{in_tenths, greatest_capacity}
use Rattle.base.specs.Rounding.{rounded}
use Rattle.base.specs.Fraction.{whole, ◌+ᶠ◌, ◌/ᶠ◌, ◌≤ᶠ◌}
use Rattle.base.proofs.Choice.{cond_either}
use Rattle.base.proofs.Rounding.{round_high, round_low, round_le, le_round, round_mono}
use Rattle.base.proofs.Fraction.{≤ᶠ-refl, ≤ᶠ-trans, ≤ᶠ-whole, ≤ᶠ-part, ≤ᶠ-more, ≤ᶠ-add, sub_whole}
use Rattle.base.proofs.Near.{Near, near_sub}
use Rattle.table.specs.Table.{Row, row_of, last_level}
use Rattle.table.proofs.Rising.{Follows, RisingFrom, Rising}
use Rattle.gauging.specs.Capacity.{Gap, gap_after, interpolated, capacity_at, v0}
use Rattle.gauging.specs.Exact.{interpolatedˣ, capacity_atˣ, v0ˣ}

-- Between two rows: the share is the capacity times the width.

unfoldable width : Gap → ℕ
width g = in_tenths g.high.level - in_tenths g.low.level

unfoldable share : Gap → ℕ → ℕ
share g level = g.low.capacity * width g + (g.high.capacity - g.low.capacity) * (level - in_tenths g.low.level)

module _ (g : Gap) (f : Follows g.low g.high) where
  wide : 0 < width g
  unfolding width
  wide = omega (arith, f.rises)

  share_mono : {h k : ℕ} → h ≤ k → share g h ≤ share g k
  unfolding share
  share_mono {h} {k} p =
      let along : h - in_tenths g.low.level ≤ k - in_tenths g.low.level = omega arith in
      omega (arith, mul-le-mul_left (g.high.capacity - g.low.capacity) along)

  share_floor : (h : ℕ) → g.low.capacity * width g ≤ share g h
  unfolding share
  share_floor h = omega arith

  share_ceiling : {h : ℕ} → h ≤ in_tenths g.high.level → share g h ≤ g.high.capacity * width g
  unfolding share
  share_ceiling {h} p =
      let up : g.low.capacity + (g.high.capacity - g.low.capacity) ≤ g.high.capacity = omega (arith, f.fills) in
      let along : h - in_tenths g.low.level ≤ width g = unfold width in omega arith in
      omega (arith, mul-le-mul_right (width g) up, mul-le-mul_left (g.high.capacity - g.low.capacity) along)

  interpolated_mono : {h k : ℕ} → h ≤ k → interpolated g h ≤ interpolated g k
  unfolding interpolated share width
  interpolated_mono p = round_mono (width g) wide (mul-le-mul_left 100 (share_mono p))

  interpolated_least : (h : ℕ) → 100 * g.low.capacity ≤ interpolated g h
  unfolding interpolated share width
  interpolated_least h = le_round {d = width g} (100 * g.low.capacity) wide (omega (arith, share_floor h))

  pub interpolated_most : {h : ℕ} → h ≤ in_tenths g.high.level → interpolated g h ≤ 100 * g.high.capacity
  unfolding interpolated share width
  interpolated_most p = round_le {d = width g} (100 * g.high.capacity) wide (omega (arith, share_ceiling p))

  -- what the lower row has is whole, so that only the rise is rounded
  pub interpolated_split : (h : ℕ) {a b part : ℕ} → a ≡ in_tenths g.low.level → b ≡ in_tenths g.high.level
      → part ≡ rounded (100 * ((g.high.capacity - g.low.capacity) * (h - a))) (b - a) → interpolated g h ≡ 100 * g.low.capacity + part
  unfolding interpolated rounded share width
  interpolated_split h p q e =
      let rise : ℕ = (g.high.capacity - g.low.capacity) * (h - in_tenths g.low.level) in
      let whole : 2 * (100 * share g h) + width g ≡ 100 * g.low.capacity * (2 * width g) + (2 * (100 * rise) + width g) = omega arith in
      ap (λ (n : ℕ). n / (2 * width g)) whole
      ∙ mul-add-div_right (omega (arith, wide)) (100 * g.low.capacity) (2 * (100 * rise) + width g)
      ∙ ap (λ (n : ℕ). 100 * g.low.capacity + n) (sym (rw (p, q) at e))

  interpolatedˣ_mono : {h k : ℕ} → h ≤ k → interpolatedˣ g h ≤ᶠ interpolatedˣ g k
  unfolding interpolatedˣ
  interpolatedˣ_mono {h} {k} p =
      let along : h - in_tenths g.low.level ≤ k - in_tenths g.low.level = omega arith in
      ≤ᶠ-add (≤ᶠ-refl (whole (100 * g.low.capacity)))
      (≤ᶠ-part (in_tenths g.high.level - in_tenths g.low.level) (≤ᶠ-whole (mul-le-mul_left 100 (mul-le-mul_left (g.high.capacity - g.low.capacity) along))))

  interpolatedˣ_least : (h : ℕ) → whole (100 * g.low.capacity) ≤ᶠ interpolatedˣ g h
  unfolding interpolatedˣ
  interpolatedˣ_least h = ≤ᶠ-more (whole (100 * g.low.capacity)) (whole (100 * ((g.high.capacity - g.low.capacity) * (h - in_tenths g.low.level))) /ᶠ (in_tenths g.high.level - in_tenths g.low.level))

  interpolatedˣ_most : {h : ℕ} → h ≤ in_tenths g.high.level → interpolatedˣ g h ≤ᶠ whole (100 * g.high.capacity)
  unfolding interpolatedˣ whole ◌+ᶠ◌ ◌/ᶠ◌ share width
  interpolatedˣ_most p = record { le = rw (suc-pred-eq_of_pos wide) (omega (arith, share_ceiling p)) }

  interpolated_near : {h : ℕ} → h ≤ in_tenths g.high.level → Near 100 (100 * greatest_capacity) 50 (interpolated g h) (interpolatedˣ g h)
  unfolding interpolated interpolatedˣ whole ◌+ᶠ◌ ◌/ᶠ◌ share width
  interpolated_near {h} p = record {
    most = omega (arith, interpolated_most p, f.fits);
    bound = ≤ᶠ-trans (interpolatedˣ_most p) (≤ᶠ-whole (mul-le-mul_left 100 f.fits));
    within = record {
      high = rw (suc-pred-eq_of_pos wide) (omega (arith, round_high (100 * share g h) (width g)));
      low = rw (suc-pred-eq_of_pos wide) (omega (arith, round_low (100 * share g h) wide));
    };
  }

-- Over the rows after `low`.

pub by_leb : {A : Type 0} (P : A → Type 0) {x y : A} (a b : ℕ) → (a ≤ b → P x) → (b < a → P y) → P (cond (leb a b) x y)
by_leb P a b f g = cond_either P (leb a b) _ _ (λ e. f (leb-true a b e)) (λ e. g (leb-false a b e))

-- the two rows found, of which the higher reaches the level
record Around (g : Gap) (h : ℕ) : Type 0 where
  follows : Follows g.low g.high
  reached : h ≤ in_tenths g.high.level

after_around : (low high : Row) (rows : List Row) → RisingFrom low (high ∷ rows) → (h : ℕ) → h ≤ in_tenths (last_level (high ∷ rows))
    → Around (gap_after low (high ∷ rows) h) h
after_around low high [] (f, rest) h p =
    by_leb (λ g. Around g h) h (in_tenths high.level) (λ a. record { follows = f; reached = a }) (λ b. absurd (not-le_of_lt b p))
after_around low high (next ∷ rows) (f, rest) h p =
    by_leb (λ g. Around g h) h (in_tenths high.level) (λ a. record { follows = f; reached = a }) (λ b. after_around high next rows rest h p)

-- what never falls between two rows, and lies between what it is at the two, never falls over the table
module _ {A : Type 0} (◌⊑◌ : A → A → Type 0) (trans : (x y z : A) → x ⊑ y → y ⊑ z → x ⊑ z) (F : Gap → ℕ → A) (at : Row → A)
    (mono : (g : Gap) → Follows g.low g.high → (h k : ℕ) → h ≤ k → F g h ⊑ F g k)
    (least : (g : Gap) → Follows g.low g.high → (h : ℕ) → at g.low ⊑ F g h)
    (most : (g : Gap) → Follows g.low g.high → (h : ℕ) → h ≤ in_tenths g.high.level → F g h ⊑ at g.high) where
  infix 50 ◌⊑◌
  after_least : (low high : Row) (rows : List Row) → RisingFrom low (high ∷ rows) → (h : ℕ) → h ≤ in_tenths (last_level (high ∷ rows))
      → at low ⊑ F (gap_after low (high ∷ rows) h) h
  after_least low high [] (f, rest) h p =
      by_leb (λ g. at low ⊑ F g h) h (in_tenths high.level) (λ a. least _ f h) (λ b. absurd (not-le_of_lt b p))
  after_least low high (next ∷ rows) (f, rest) h p =
      by_leb (λ g. at low ⊑ F g h) h (in_tenths high.level) (λ a. least _ f h)
      (λ b. trans _ _ _ (least _ f (in_tenths high.level)) (trans _ _ _ (most _ f (in_tenths high.level) (le_refl _)) (after_least high next rows rest h p)))

  after_mono : (low high : Row) (rows : List Row) → RisingFrom low (high ∷ rows) → (h k : ℕ) → h ≤ k → k ≤ in_tenths (last_level (high ∷ rows))
      → F (gap_after low (high ∷ rows) h) h ⊑ F (gap_after low (high ∷ rows) k) k
  after_mono low high [] (f, rest) h k p q =
      by_leb (λ g. F g h ⊑ F (gap_after low (high ∷ []) k) k) h (in_tenths high.level)
      (λ a. by_leb (λ g. F (record { low = low; high = high }) h ⊑ F g k) k (in_tenths high.level)
      (λ b. mono _ f h k p)
      (λ b. absurd (not-le_of_lt b q)))
      (λ a. absurd (not-le_of_lt a (le_trans p q)))
  after_mono low high (next ∷ rows) (f, rest) h k p q =
      by_leb (λ g. F g h ⊑ F (gap_after low (high ∷ next ∷ rows) k) k) h (in_tenths high.level)
      (λ a. by_leb (λ g. F (record { low = low; high = high }) h ⊑ F g k) k (in_tenths high.level)
      (λ b. mono _ f h k p)
      (λ b. trans _ _ _ (most _ f h a) (after_least high next rows rest k q)))
      (λ a. by_leb (λ g. F (gap_after high (next ∷ rows) h) h ⊑ F g k) k (in_tenths high.level)
      (λ b. absurd (not-le_of_lt a (le_trans p b)))
      (λ b. after_mono high next rows rest h k p q))

-- The laws, for rows that rise and levels up to the last.

-- within half of 0.01 dm³ of the exact one, and both at most 200,000 dm³
pub capacity_near : (rows : List Row) → Rising rows → {h : ℕ} → h ≤ in_tenths (last_level rows) → Near 100 (100 * greatest_capacity) 50 (capacity_at rows h) (capacity_atˣ rows h)
unfolding capacity_at capacity_atˣ
capacity_near [] r p = absurd r
capacity_near (row ∷ []) r p = absurd r
capacity_near (row ∷ next ∷ rows) (_, _, r) {h} p = let a = after_around row next rows r h p in interpolated_near _ a.follows a.reached

-- a higher level never has less
pub capacity_mono : (rows : List Row) → Rising rows → {h k : ℕ} → h ≤ k → k ≤ in_tenths (last_level rows) → capacity_at rows h ≤ capacity_at rows k
unfolding capacity_at
capacity_mono [] r p q = absurd r
capacity_mono (row ∷ []) r p q = absurd r
capacity_mono (row ∷ next ∷ rows) (_, _, r) {h} {k} p q =
    after_mono ◌≤◌ (λ _ _ _ a b. le_trans a b) interpolated (λ x. 100 * x.capacity)
    (λ g f _ _ a. interpolated_mono g f a) (λ g f l. interpolated_least g f l) (λ g f _ a. interpolated_most g f a) row next rows r h k p q

pub capacityˣ_mono : (rows : List Row) → Rising rows → {h k : ℕ} → h ≤ k → k ≤ in_tenths (last_level rows) → capacity_atˣ rows h ≤ᶠ capacity_atˣ rows k
unfolding capacity_atˣ
capacityˣ_mono [] r p q = absurd r
capacityˣ_mono (row ∷ []) r p q = absurd r
capacityˣ_mono (row ∷ next ∷ rows) (_, _, r) {h} {k} p q =
    after_mono ◌≤ᶠ◌ (λ _ _ _ a b. ≤ᶠ-trans a b) interpolatedˣ (λ x. whole (100 * x.capacity))
    (λ g f _ _ a. interpolatedˣ_mono g f a) (λ g f l. interpolatedˣ_least g f l) (λ g f _ a. interpolatedˣ_most g f a) row next rows r h k p q

-- each capacity is rounded by itself: 67 less 33, where the difference rounded once is 33
rounded_twice : v0 (row_of 0 0 ∷ row_of 3 1 ∷ []) 20 1 ≡ 34
unfolding v0 capacity_at interpolated rounded
rounded_twice = refl

-- V0, where the water level is not above the mean level
module _ (rows : List Row) (r : Rising rows) {mean : ℕ} (water : ℕ) (p : in_tenths water ≤ mean) (q : mean ≤ in_tenths (last_level rows)) where
  pub v0_near : Near 100 (100 * greatest_capacity) 100 (v0 rows mean water) (v0ˣ rows mean water)
  unfolding v0 v0ˣ
  v0_near = near_sub (capacity_near rows r q) (capacity_near rows r (le_trans p q))

  -- nothing is cut off
  pub v0_whole : v0 rows mean water + capacity_at rows (in_tenths water) ≡ capacity_at rows mean
  unfolding v0
  v0_whole = omega (arith, capacity_mono rows r p q)

  pub v0ˣ_whole : (capacity_atˣ rows mean ≤ᶠ v0ˣ rows mean water +ᶠ capacity_atˣ rows (in_tenths water)) × (v0ˣ rows mean water +ᶠ capacity_atˣ rows (in_tenths water) ≤ᶠ capacity_atˣ rows mean)
  unfolding v0ˣ
  v0ˣ_whole = sub_whole (capacityˣ_mono rows r p q)

-- V0 never falls as the mean level rises
pub v0_mono : (rows : List Row) → Rising rows → {mean mean' : ℕ} (water : ℕ) → mean ≤ mean' → mean' ≤ in_tenths (last_level rows) → v0 rows mean water ≤ v0 rows mean' water
unfolding v0
v0_mono rows r water p q = omega (arith, capacity_mono rows r p q)
