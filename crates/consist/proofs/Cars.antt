-- The cars that a train holds: one more behind them, one taken out, and the sums that they make.
use Prim.Native.Nat.{ℕ, zero, suc, ◌+◌, ◌-◌, ◌≤◌, ◌<◌}
use mathlib.Core.Path.{◌≡◌, refl, sym, ap, ap₂, ◌∙◌}
use mathlib.Core.Bool.{Bool, true, false, cond}
use mathlib.Core.List.{List, [], ◌∷◌, ◌++◌, map, append-nil}
use native.Mathlib.Nat.{add-zero, zero-add}
use native.Mathlib.Numerals.{add-one}
use native.Mathlib.Omega.{arith}
use lib.Dec.{eqb}
use lib.ListN.{length, get_or, take, drop, length-set}
use lib.Seq.{drop-cons, get_or-set_same, get_or-set_other, append_snoc}
use Rattle.base.specs.Limits.{most_cars}
use Rattle.summing.specs.declared.Sums.{Sums}
use Rattle.summing.specs.Sums.{Shown, sums_of}
use Rattle.summing.proofs.Adding.{sums_snoc, sums_less_lem}
use Rattle.consist.specs.Train.{Train, held_by, Held, refused, weighed, held_number, held_as, car_at, cars_from, cars_of, shown_in, with_held, remove_at, sums_less, without_at}
use Rattle.consist.specs.Inner.{Sixty, sums_more}
use Rattle.consist.proofs.Places.{closed-length, closed_front, closed_behind}

-- Places.

module _ (t : Train) where
  pub length_cars : (i n : ℕ) → length (cars_from t i n) ≡ n
  length_cars i zero = refl
  length_cars i (suc n) = ap suc (length_cars (i + 1) n)

  cars_snoc : (i n : ℕ) → cars_from t i (suc n) ≡ cars_from t i n ++ (car_at t (i + n) ∷ [])
  cars_snoc i zero = rw (add-zero i)
  cars_snoc i (suc n) =
      let e : i + 1 + n ≡ i + suc n = omega arith in
      ap (λ (x : List Held). car_at t i ∷ x) (cars_snoc (i + 1) n ∙ ap (λ (j : ℕ). cars_from t (i + 1) n ++ (car_at t j ∷ [])) e)

  -- the first n + 1
  pub cars_next : (n : ℕ) → cars_from t 0 (n + 1) ≡ cars_from t 0 n ++ (car_at t n ∷ [])
  cars_next n =
      ap (cars_from t 0) (add-one n) ∙ cars_snoc 0 n ∙ ap (λ (j : ℕ). cars_from t 0 n ++ (car_at t j ∷ [])) (zero-add n)

  pub in_cars : (i n j : ℕ) (d : Held) → j < n → get_or (cars_from t i n) j d ≡ car_at t (i + j)
  in_cars i zero j d h = absurd (omega arith)
  in_cars i (suc n) zero d h = ap (car_at t) (sym (add-zero i))
  in_cars i (suc n) (suc j) d h = let e : i + 1 + j ≡ i + suc j = omega arith in in_cars (i + 1) n j d (omega arith) ∙ ap (car_at t) e

  -- their numbers
  number_as : (number grade gross net : ℕ) → held_number (held_as number grade gross net) ≡ number
  number_as number grade gross net = go (eqb grade 0)
    where
      go : (b : Bool) → held_number (cond b (refused number) (weighed number (record { grade = grade; gross = gross; net = net }))) ≡ number
      go true = refl
      go false = refl

  numbers_from_lem : (i n : ℕ) → i + n ≤ length t.numbers → map held_number (cars_from t i n) ≡ take n (drop i t.numbers)
  numbers_from_lem i zero h = refl
  numbers_from_lem i (suc n) h =
      ap₂ (λ (x : ℕ) (l : List ℕ). x ∷ l) (number_as (get_or t.numbers i 0) (get_or t.grades i 0) (get_or t.grosses i 0) (get_or t.nets i 0))
      (numbers_from_lem (i + 1) n (omega arith) ∙ ap (λ (j : ℕ). take n (drop j t.numbers)) (add-one i))
      ∙ ap (λ (l : List ℕ). take (suc n) l) (sym (drop-cons t.numbers i 0 (omega arith)))

  pub numbers_held : Sixty t → t.held ≤ most_cars → held_by t ≡ map held_number (cars_of t)
  numbers_held s h = sym (numbers_from_lem 0 t.held (omega (arith, s.numbers)))

cars_same : (t u : Train) (i n : ℕ) → ((j : ℕ) → j < i + n → car_at u j ≡ car_at t j) → cars_from u i n ≡ cars_from t i n
cars_same t u i zero h = refl
cars_same t u i (suc n) h =
    ap₂ (λ (x : Held) (l : List Held). x ∷ l) (h i (omega arith)) (cars_same t u (i + 1) n (λ j k. h j (omega arith)))

-- One more.

module _ (t : Train) (sums : Sums) (number grade gross net : ℕ) (s : Sixty t) (h : t.held < most_cars) where
  abbrev more : Train
  more = with_held t sums number grade gross net

  pub sixty_more : Sixty more
  sixty_more = record {
    numbers = length-set t.numbers t.held number ∙ s.numbers;
    grades = length-set t.grades t.held grade ∙ s.grades;
    grosses = length-set t.grosses t.held gross ∙ s.grosses;
    nets = length-set t.nets t.held net ∙ s.nets;
  }

  before : (j : ℕ) → j < 0 + t.held → car_at more j ≡ car_at t j
  before j k =
      rw (
        get_or-set_other t.numbers t.held j number 0 (λ e. omega arith),
        get_or-set_other t.grades t.held j grade 0 (λ e. omega arith),
        get_or-set_other t.grosses t.held j gross 0 (λ e. omega arith),
        get_or-set_other t.nets t.held j net 0 (λ e. omega arith),
      )

  this : car_at more t.held ≡ held_as number grade gross net
  this =
      rw (
        get_or-set_same t.numbers t.held number 0 (omega (arith, s.numbers)),
        get_or-set_same t.grades t.held grade 0 (omega (arith, s.grades)),
        get_or-set_same t.grosses t.held gross 0 (omega (arith, s.grosses)),
        get_or-set_same t.nets t.held net 0 (omega (arith, s.nets)),
      )

  pub cars_more : cars_of more ≡ cars_of t ++ (held_as number grade gross net ∷ [])
  cars_more = cars_next more t.held ∙ ap₂ (λ (l : List Held) (x : Held). l ++ (x ∷ [])) (cars_same t more 0 t.held before) this

-- One taken out.

module _ (t u : Train) (m : ℕ) where
  moved_up : (i n : ℕ) → ((j : ℕ) → i ≤ j → j + 1 < m → car_at u j ≡ car_at t (suc j)) → i + n + 1 ≤ m → cars_from u i n ≡ cars_from t (i + 1) n
  moved_up i zero h k = refl
  moved_up i (suc n) h k =
      ap₂ (λ (x : Held) (l : List Held). x ∷ l) (h i (omega arith) (omega arith) ∙ ap (car_at t) (sym (add-one i)))
      (moved_up (i + 1) n (λ j p q. h j (omega arith) q) (omega arith))

  cars_out : (d n i : ℕ) → d ≤ n → ((j : ℕ) → j < i + d → car_at u j ≡ car_at t j) → ((j : ℕ) → i + d ≤ j → j + 1 < m → car_at u j ≡ car_at t (suc j)) → i + n + 1 ≤ m
      → cars_from u i n ≡ remove_at d (cars_from t i (suc n))
  cars_out zero n i h front behind k = moved_up i n (λ j p q. behind j (omega arith) q) k
  cars_out (suc d) zero i h front behind k = absurd (omega arith)
  cars_out (suc d) (suc n) i h front behind k =
      ap₂ (λ (x : Held) (l : List Held). x ∷ l) (front i (omega arith))
      (cars_out d n (i + 1) (omega arith) (λ j p. front j (omega arith)) (λ j p q. behind j (omega arith) q) (omega arith))

module _ (t : Train) (k : ℕ) (s : Sixty t) (room : t.held ≤ most_cars) (low : k < t.held) where
  abbrev less : Train
  less = without_at t k

  pub sixty_less : Sixty less
  sixty_less = record {
    numbers = closed-length k t.numbers (omega (arith, s.numbers)) ∙ s.numbers;
    grades = closed-length k t.grades (omega (arith, s.grades)) ∙ s.grades;
    grosses = closed-length k t.grosses (omega (arith, s.grosses)) ∙ s.grosses;
    nets = closed-length k t.nets (omega (arith, s.nets)) ∙ s.nets;
  }

  front : (j : ℕ) → j < 0 + k → car_at less j ≡ car_at t j
  front j p =
      rw (
        closed_front k t.numbers (omega (arith, s.numbers)) j (omega arith),
        closed_front k t.grades (omega (arith, s.grades)) j (omega arith),
        closed_front k t.grosses (omega (arith, s.grosses)) j (omega arith),
        closed_front k t.nets (omega (arith, s.nets)) j (omega arith),
      )

  behind : (j : ℕ) → 0 + k ≤ j → j + 1 < most_cars → car_at less j ≡ car_at t (suc j)
  behind j p q =
      rw (
        closed_behind k t.numbers (omega (arith, s.numbers)) j (omega arith) (omega (arith, s.numbers)),
        closed_behind k t.grades (omega (arith, s.grades)) j (omega arith) (omega (arith, s.grades)),
        closed_behind k t.grosses (omega (arith, s.grosses)) j (omega arith) (omega (arith, s.grosses)),
        closed_behind k t.nets (omega (arith, s.nets)) j (omega arith) (omega (arith, s.nets)),
      )

  pub cars_less : cars_of less ≡ remove_at k (cars_of t)
  cars_less =
      let n : suc (t.held - 1) ≡ t.held = omega arith in
      cars_out t less most_cars k (t.held - 1) 0 (omega arith) front behind (omega arith)
      ∙ ap (λ (i : ℕ). remove_at k (cars_from t 0 i)) n

-- The sums that cars make, one car after another.

pub shown_snoc : (cars : List Held) (c : Held) → sums_of (shown_in (cars ++ (c ∷ []))) ≡ sums_more (sums_of (shown_in cars)) c
shown_snoc cars c = ap sums_of (parts cars (c ∷ [])) ∙ by_car c
  where
    parts : (a b : List Held) → shown_in (a ++ b) ≡ shown_in a ++ shown_in b
    parts [] b = refl
    parts (refused n ∷ a) b = parts a b
    parts (weighed n s ∷ a) b = ap (λ (l : List Shown). s ∷ l) (parts a b)

    by_car : (c : Held) → sums_of (shown_in cars ++ shown_in (c ∷ [])) ≡ sums_more (sums_of (shown_in cars)) c
    by_car (refused n) = ap sums_of (append-nil (shown_in cars))
    by_car (weighed n s) = sums_snoc (shown_in cars) s

pub sums_next : (t : Train) (n : ℕ) → sums_of (shown_in (cars_from t 0 (n + 1))) ≡ sums_more (sums_of (shown_in (cars_from t 0 n))) (car_at t n)
sums_next t n = ap (λ (l : List Held). sums_of (shown_in l)) (cars_next t n) ∙ shown_snoc (cars_from t 0 n) (car_at t n)

-- The sums without one of the held cars are those of the others.

sums_out : (pre : List Shown) (cars : List Held) (k : ℕ) (d : Held) → k < length cars
    → sums_less (sums_of (pre ++ shown_in cars)) (get_or cars k d) ≡ sums_of (pre ++ shown_in (remove_at k cars))
sums_out pre [] k d h = absurd (omega arith)
sums_out pre (refused n ∷ cars) zero d h = refl
sums_out pre (weighed n s ∷ cars) zero d h = sums_less_lem s pre (shown_in cars)
sums_out pre (refused n ∷ cars) (suc k) d h = sums_out pre cars k d (omega arith)
sums_out pre (weighed n s ∷ cars) (suc k) d h =
    ap (λ (l : List Shown). sums_less (sums_of l) (get_or cars k d)) (sym (append_snoc pre s (shown_in cars)))
    ∙ sums_out (pre ++ (s ∷ [])) cars k d (omega arith)
    ∙ ap sums_of (append_snoc pre s (shown_in (remove_at k cars)))

pub sums_taken : (t : Train) (k : ℕ) → k < t.held → t.sums ≡ sums_of (shown_in (cars_of t)) → sums_less t.sums (car_at t k) ≡ sums_of (shown_in (remove_at k (cars_of t)))
sums_taken t k h e =
    ap₂ sums_less e (sym (in_cars t 0 t.held k (refused 0) h ∙ ap (car_at t) (zero-add k)))
    ∙ sums_out [] (cars_of t) k (refused 0) (omega (arith, length_cars t 0 t.held))
