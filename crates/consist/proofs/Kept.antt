-- The cars that have an entry, of which the train and the book are made alike, and what a car or a strike makes of them.
use Prim.Native.Nat.{ℕ, zero, suc, ◌+◌, ◌-◌, ◌*◌, ◌≤◌, ◌<◌}
use mathlib.Core.Path.{◌≡◌, refl, sym, ap, ap₂, ◌∙◌}
use mathlib.Core.Bool.{Bool, true, false, not, ◌||◌}
use mathlib.Core.List.{List, [], ◌∷◌, ◌++◌, map, append-nil}
use native.Mathlib.Omega.{arith}
use borrow.Author.Tests.{leb-false, ne_eqb, not-false, not-true}
use lib.Dec.{leb, eqb}
use lib.ListN.{length, length-append}
use Rattle.base.specs.Limits.{most_cars}
use Rattle.base.specs.Answer.{Test, refuse_if, Verdict, accepts, refuses, first, answer}
use Rattle.base.specs.Numbers.{member}
use Rattle.base.specs.Lists.{Each}
use Rattle.base.specs.Total.{total, selected}
use Rattle.base.proofs.Answer.{not_applied, accepted_parts, followed, first-append, one_applies, one_passes}
use Rattle.base.proofs.Lists.{each_append, map-append, length-map, selected-map}
use Rattle.base.proofs.Total.{total_most}
use Rattle.table.specs.Table.{Table, tables_tests, tables_verdict}
use Rattle.kilograms.specs.Inner.{most_in_car}
use Rattle.car.specs.Measured.{Mass, gross, net, mass}
use Rattle.car.specs.Car.{number_tests, Intake, intake_number, before_tests, measured_of, car_tests, figures_of}
use Rattle.car.proofs.Accepted.{passed_car}
use Rattle.summing.specs.declared.Sums.{Sums}
use Rattle.summing.specs.Sums.{Shown, shown_mass, totals_of, sums_of, sums_with}
use Rattle.summing.specs.Inner.{Sound}
use Rattle.summing.proofs.Adding.{sums_snoc, sums_split}
use Rattle.consist.specs.Train.{Train, held_by, Held, refused, weighed, held_number, held_as, cars_of, shown_in, twice, full, admission_tests, enter_tests, enter_answer, with_held, after_by, enter_train, strike_tests, strike_answer, position, remove_at, without_at, struck_by, strike_train}
use Rattle.consist.specs.Book.{Item, car, strike, Load, Entry, alone, loaded, number_in, loads, book_admission, book_strike, book_verdict, entry_by, book_step}
use Rattle.consist.specs.Demand3.{verdict_in, answer_to, train_with}
use Rattle.consist.specs.Inner.{Sixty, SoundTrain}
use Rattle.consist.proofs.Places.{twice_snoc, twice_removed, position_in, removed_length, removed_map, none_out, one_out, map-map}
use Rattle.consist.proofs.Cars.{numbers_held, sixty_more, cars_more, sixty_less, cars_less, sums_taken}
use Rattle.consist.proofs.Entering.{sound_not}
use Rattle.consist.proofs.Loads.{Accepted, Ok, shown_for, load_for, car_known, car_most, each_shown, all_known}

-- What is kept of the cars that have an entry, of which the train and the book are made.

pub data Kept : Type 0 where
  turned : ℕ → Kept
  taken : Accepted → Kept

abbrev pub entry_for : Kept → Entry
entry_for (turned number) = alone number
entry_for (taken a) = loaded (load_for a)

abbrev pub held_for : Kept → Held
held_for (turned number) = refused number
held_for (taken a) = weighed (intake_number a.car) (shown_for a)

abbrev pub number_for : Kept → ℕ
number_for k = number_in (entry_for k)

abbrev pub book_of : List Kept → List Entry
book_of ks = map entry_for ks

abbrev pub taken_in_lem : List Kept → List Accepted
taken_in_lem [] = []
taken_in_lem (turned number ∷ ks) = taken_in_lem ks
taken_in_lem (taken a ∷ ks) = a ∷ taken_in_lem ks

abbrev pub OkKept : Kept → Type 0
OkKept (turned number) = Unit {0}
OkKept (taken a) = Ok a

pub taken_append : (ks ls : List Kept) → taken_in_lem (ks ++ ls) ≡ taken_in_lem ks ++ taken_in_lem ls
taken_append [] ls = refl
taken_append (turned n ∷ ks) ls = taken_append ks ls
taken_append (taken a ∷ ks) ls = ap (λ (l : List Accepted). a ∷ l) (taken_append ks ls)

taken_few : (ks : List Kept) → length (taken_in_lem ks) ≤ length ks
taken_few [] = omega arith
taken_few (turned n ∷ ks) = omega (arith, taken_few ks)
taken_few (taken a ∷ ks) = omega (arith, taken_few ks)

pub taken_ok : (ks : List Kept) → Each OkKept ks → Each Ok (taken_in_lem ks)
taken_ok [] h = tt
taken_ok (turned n ∷ ks) (h, hs) = taken_ok ks hs
taken_ok (taken a ∷ ks) (h, hs) = (h, taken_ok ks hs)

pub loads_are : (ks : List Kept) → loads (book_of ks) ≡ map load_for (taken_in_lem ks)
loads_are [] = refl
loads_are (turned n ∷ ks) = loads_are ks
loads_are (taken a ∷ ks) = ap (λ (l : List Load). load_for a ∷ l) (loads_are ks)

shown_are : (ks : List Kept) → shown_in (map held_for ks) ≡ map shown_for (taken_in_lem ks)
shown_are [] = refl
shown_are (turned n ∷ ks) = shown_are ks
shown_are (taken a ∷ ks) = ap (λ (l : List Shown). shown_for a ∷ l) (shown_are ks)

numbers_are : (ks : List Kept) → map held_number (map held_for ks) ≡ map number_for ks
numbers_are [] = refl
numbers_are (turned n ∷ ks) = ap (λ (l : List ℕ). n ∷ l) (numbers_are ks)
numbers_are (taken a ∷ ks) = ap (λ (l : List ℕ). intake_number a.car ∷ l) (numbers_are ks)

-- A train that holds them.

pub record Matches (t : Train) (ks : List Kept) : Type 0 where
  pub sixty : Sixty t
  pub held : t.held ≡ length ks
  pub cars : cars_of t ≡ map held_for ks
  pub room : length ks ≤ most_cars
  pub once : twice (map number_for ks) ≡ false
  pub sums : t.sums ≡ sums_of (map shown_for (taken_in_lem ks))
  pub each : Each OkKept ks

-- the sums of so few cars are within the limits of a train, and those of its grades
sums_sound : (l : List Accepted) → length l ≤ most_cars → Each Ok l → Sound (sums_of (map shown_for l))
unfolding sums_of totals_of
sums_sound l h ok =
    let n : length (map shown_for l) ≡ length l = length-map shown_for l in
    let most : (k : Mass) → total (shown_mass k) (map shown_for l) ≤ most_in_car * length (map shown_for l) = λ k. total_most (shown_mass k) most_in_car (map shown_for l) (each_shown (λ s. shown_mass k s ≤ most_in_car) (car_most k) l ok) in
    record {
      low = record { few = omega arith; gross_low = omega (arith, most gross); net_low = omega (arith, most net) };
      split = sums_split (map shown_for l) (all_known l ok);
    }

module _ (t : Train) (ks : List Kept) (m : Matches t ks) where
  row : held_by t ≡ map number_for ks
  row = numbers_held t m.sixty (omega (arith, m.held, m.room)) ∙ ap (map held_number) m.cars ∙ numbers_are ks

  pub entries : held_by t ≡ map number_in (book_of ks)
  entries = row ∙ sym (map-map number_in entry_for ks)

  made : t.sums ≡ sums_of (shown_in (cars_of t))
  made = m.sums ∙ ap sums_of (sym (ap shown_in m.cars ∙ shown_are ks))

  pub matched_sound : SoundTrain t
  matched_sound = record {
    place = omega (arith, m.held, m.room);
    once = ap twice row ∙ m.once;
    sums = rw m.sums (sums_sound (taken_in_lem ks) (omega (arith, taken_few ks, m.room)) (taken_ok ks m.each));
    made = made;
  }

  -- of what fills a train only sixty numbers can be reached
  full_is : full t ≡ leb most_cars (length (book_of ks))
  unfolding full
  full_is = simp (sound_not t matched_sound, m.held, length-map entry_for ks)

  admission_is : (ts : List Table) (c : Intake) → admission_tests ts t c ≡ book_admission (book_of ks) ts c
  unfolding admission_tests book_admission
  admission_is ts c = simp (full_is, entries)

  strike_is : (number : ℕ) → first (strike_tests t number) ≡ first (book_strike (book_of ks) number)
  unfolding strike_tests book_strike
  strike_is number = simp (sound_not t matched_sound, entries)

-- where no test before the car's own applies, its tables are not refused, there is a place, and its number is new
module _ (b : List Entry) (ts : List Table) (c : Intake) (e : first (book_admission b ts c) ≡ accepts) where
  abbrev place_tests : List Test
  place_tests = refuse_if 9 (leb most_cars (length b)) ∷ (number_tests (intake_number c) ++ (refuse_if 11 (member (intake_number c) (map number_in b)) ∷ []))

  split : (tables_verdict ts ≡ accepts) × (first place_tests ≡ accepts)
  unfolding book_admission
  split = accepted_parts place_tests (tables_tests ts) (accepted_parts (tables_tests ts ++ place_tests) (before_tests c) e).1

  place : length b < most_cars
  place = leb-false most_cars (length b) (not_applied 9 place_tests split.1)

  new : member (intake_number c) (map number_in b) ≡ false
  new = not_applied 11 place_tests split.1

-- One item: the cars that are kept then.

abbrev pub kept_by : Verdict → Verdict → List Table → Intake → List Kept
kept_by (refuses n) own ts c = []
kept_by accepts (refuses n) ts c = turned (intake_number c) ∷ []
kept_by accepts accepts ts c = taken (record { tables = ts; car = c }) ∷ []

abbrev pub others : ℕ → List Kept → List Kept
others number ks = selected (λ k. not (eqb (number_for k) number)) ks

abbrev pub kept_step : List Kept → Item → List Kept
kept_step ks (car ts c) = ks ++ kept_by (first (book_admission (book_of ks) ts c)) (first (car_tests ts c)) ts c
kept_step ks (strike number) = others number ks

pub book_step_lem : (ks : List Kept) (i : Item) → book_of (kept_step ks i) ≡ book_step (book_of ks) i
book_step_lem ks (car ts c) =
    map-append entry_for ks (kept_by (first (book_admission (book_of ks) ts c)) (first (car_tests ts c)) ts c)
    ∙ ap (λ (l : List Entry). book_of ks ++ l) (by_verdicts (first (book_admission (book_of ks) ts c)) (first (car_tests ts c)))
  where
    by_verdicts : (admission own : Verdict) → book_of (kept_by admission own ts c) ≡ entry_by admission own ts c
    by_verdicts (refuses n) own = refl
    by_verdicts accepts (refuses n) = refl
    by_verdicts accepts accepts = refl
book_step_lem ks (strike number) = sym (selected-map entry_for (λ e. not (eqb (number_in e) number)) ks)

-- a car is entered
module _ (t : Train) (ks : List Kept) (m : Matches t ks) (ts : List Table) (c : Intake) where
  -- one more place, of gross x and net y, with the sums that the cars then make
  one_more_lem : (k : Kept) (sums : Sums) (grade x y : ℕ) → length ks < most_cars → member (number_for k) (map number_for ks) ≡ false
      → held_as (number_for k) grade x y ≡ held_for k → sums ≡ sums_of (map shown_for (taken_in_lem (ks ++ (k ∷ [])))) → OkKept k
      → Matches (with_held t sums (number_for k) grade x y) (ks ++ (k ∷ []))
  one_more_lem k sums grade x y h fresh e s ok =
      let low : t.held < most_cars = omega (arith, m.held) in
      let len : length (ks ++ (k ∷ [])) ≡ length ks + 1 = length-append ks (k ∷ []) in
      record {
        sixty = sixty_more t sums (number_for k) grade x y m.sixty low;
        held = omega (arith, m.held);
        cars = cars_more t sums (number_for k) grade x y m.sixty low ∙ ap₂ (λ (l : List Held) (x : Held). l ++ (x ∷ [])) m.cars e ∙ sym (map-append held_for ks (k ∷ []));
        room = omega arith;
        once = ap twice (map-append number_for ks (k ∷ [])) ∙ twice_snoc (map number_for ks) (number_for k) ∙ ap₂ (λ (a b : Bool). a || b) m.once fresh;
        sums = s;
        each = each_append OkKept ks (k ∷ []) m.each (ok, tt);
      }

  fresh : first (book_admission (book_of ks) ts c) ≡ accepts → member (intake_number c) (map number_for ks) ≡ false
  fresh e = ap (member (intake_number c)) (sym (map-map number_in entry_for ks)) ∙ new (book_of ks) ts c e

  low_place : first (book_admission (book_of ks) ts c) ≡ accepts → length ks < most_cars
  low_place e = omega (arith, place (book_of ks) ts c e, length-map entry_for ks)

  by_verdicts : (admission own : Verdict) → first (book_admission (book_of ks) ts c) ≡ admission → first (car_tests ts c) ≡ own
      → Matches (after_by admission own ts t c) (ks ++ kept_by admission own ts c)
  by_verdicts (refuses n) own p q = rw (append-nil ks) m
  by_verdicts accepts (refuses n) p q =
      let k : Kept = turned (intake_number c) in
      one_more_lem k t.sums 0 0 0 (low_place p) (fresh p) refl
      (m.sums ∙ ap (λ (l : List Accepted). sums_of (map shown_for l)) (sym (taken_append ks (k ∷ []) ∙ append-nil (taken_in_lem ks)))) tt
  by_verdicts accepts accepts p q =
      let a : Accepted = record { tables = ts; car = c } in
      let k : Kept = taken a in
      let ok : Ok a = passed_car c (split (book_of ks) ts c p).0 q in
      let g = car_known a ok in
      one_more_lem k (sums_with t.sums (shown_for a)) (measured_of c).grade (mass gross ts (measured_of c)) (mass net ts (measured_of c)) (low_place p) (fresh p)
      (with_grade_lem (measured_of c).grade g.0)
      (ap (λ (x : Sums). sums_with x (shown_for a)) m.sums
      ∙ sym (sums_snoc (map shown_for (taken_in_lem ks)) (shown_for a))
      ∙ ap sums_of (sym (ap (map shown_for) (taken_append ks (k ∷ [])) ∙ map-append shown_for (taken_in_lem ks) (a ∷ [])))) ok
    where
      with_grade_lem : (g : ℕ) → 1 ≤ g → held_as (intake_number c) g (mass gross ts (measured_of c)) (mass net ts (measured_of c)) ≡ weighed (intake_number c) (record { grade = g; gross = mass gross ts (measured_of c); net = mass net ts (measured_of c) })
      with_grade_lem g h = simp (ne_eqb g 0 (λ e. omega arith))

  entered : Matches (train_with t (car ts c)) (kept_step ks (car ts c))
  unfolding enter_train
  entered = rw (admission_is t ks m ts c) (by_verdicts (first (book_admission (book_of ks) ts c)) (first (car_tests ts c)) refl refl)

  pub answer_is : answer_to t (car ts c) ≡ answer (followed (first (book_admission (book_of ks) ts c)) (first (car_tests ts c))) (figures_of ts c)
  unfolding enter_answer enter_tests
  answer_is =
      ap (λ (v : Verdict). answer v (figures_of ts c))
      (first-append (admission_tests ts t c) (car_tests ts c) ∙ ap (λ (l : List Test). followed (first l) (first (car_tests ts c))) (admission_is t ks m ts c))

-- a car is taken out
module _ (t : Train) (ks : List Kept) (m : Matches t ks) (number : ℕ) where
  without_car_lem : member number (map number_for ks) ≡ true → Matches (without_at t (position number (held_by t))) (others number ks)
  without_car_lem e =
      let k : ℕ = position number (map number_for ks) in
      let at : position number (held_by t) ≡ k = ap (position number) (row t ks m) in
      let n : length (map number_for ks) ≡ length ks = length-map number_for ks in
      let low : k < t.held = omega (arith, position_in number (map number_for ks) e, m.held) in
      let few : t.held ≤ most_cars = omega (arith, m.held, m.room) in
      let out : remove_at k ks ≡ others number ks = one_out number_for number ks e m.once in
      let cars : cars_of (without_at t k) ≡ map held_for (remove_at k ks) = cars_less t k m.sixty few low ∙ ap (remove_at k) m.cars ∙ sym (removed_map held_for k ks) in
      let held : t.held - 1 ≡ length (remove_at k ks) = omega (arith, low, m.held, removed_length k ks (omega (arith, low, m.held))) in
      rw (at, ← out) (record {
        sixty = sixty_less t k m.sixty few low;
        held = held;
        cars = cars;
        room = omega (arith, held, few);
        once = ap twice (removed_map number_for k ks) ∙ twice_removed k (map number_for ks) m.once;
        sums =
            sums_taken t k low (made t ks m)
            ∙ ap (λ (l : List Held). sums_of (shown_in l)) (ap (remove_at k) m.cars ∙ sym (removed_map held_for k ks))
            ∙ ap sums_of (shown_are (remove_at k ks));
        each = each_removed k ks m.each;
      })
    where
      each_removed : (k : ℕ) (ks : List Kept) → Each OkKept ks → Each OkKept (remove_at k ks)
      each_removed k [] h = tt
      each_removed zero (x ∷ ks) (h, hs) = hs
      each_removed (suc k) (x ∷ ks) (h, hs) = (h, each_removed k ks hs)

  -- where there is none, nothing is taken out
  none_there : member number (map number_for ks) ≡ false → others number ks ≡ ks
  none_there e = none_out number_for number ks e

  by_verdict : (v : Verdict) → first (book_strike (book_of ks) number) ≡ v → Matches (struck_by v t (position number (held_by t))) (others number ks)
  unfolding book_strike
  by_verdict (refuses n) p =
      rw (none_there (ap (member number) (sym (map-map number_in entry_for ks)) ∙ not-true (member number (map number_in (book_of ks))) (one_applies 30 _ p).0)) m
  by_verdict accepts p =
      without_car_lem (ap (member number) (sym (map-map number_in entry_for ks)) ∙ not-false (member number (map number_in (book_of ks))) (one_passes 30 _ p))

  struck : Matches (train_with t (strike number)) (kept_step ks (strike number))
  unfolding strike_train
  struck = rw (strike_is t ks m number) (by_verdict (first (book_strike (book_of ks) number)) refl)

pub matched : (t : Train) (ks : List Kept) → Matches t ks → (i : Item) → Matches (train_with t i) (kept_step ks i)
matched t ks m (car ts c) = entered t ks m ts c
matched t ks m (strike number) = struck t ks m number

verdict_said : (v : Verdict) (values : List ℕ) → verdict_in (answer v values) ≡ v
verdict_said accepts values = refl
verdict_said (refuses n) values = refl

pub said : (t : Train) (ks : List Kept) → Matches t ks → (i : Item) → verdict_in (answer_to t i) ≡ book_verdict (book_of ks) i
unfolding strike_answer
said t ks m (car ts c) =
    ap verdict_in (answer_is t ks m ts c)
    ∙ verdict_said (followed (first (book_admission (book_of ks) ts c)) (first (car_tests ts c))) (figures_of ts c)
    ∙ sym (first-append (book_admission (book_of ks) ts c) (car_tests ts c))
said t ks m (strike number) = verdict_said (first (strike_tests t number)) (number ∷ []) ∙ strike_is t ks m number
