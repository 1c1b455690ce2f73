-- The cars that a sheet keeps, line by line, are those that its lines and answers say it holds; and what is known of them.
use Prim.Native.Nat.{ℕ}
use mathlib.Core.Path.{◌≡◌, refl, ap, ap₂, sym, ◌∙◌}
use mathlib.Core.Bool.{Bool, true, false, cond, not, ◌||◌, ◌&&◌, true≢false}
use mathlib.Core.List.{List, [], ◌∷◌, ◌++◌, map, append-nil, append_assoc}
use lib.Dec.{leb, ltb, eqb}
use lib.ListN.{length}
use borrow.Author.Tests.{ltb-true, lt-leb}
use Rattle.base.specs.Answer.{Test, refuse_if, Verdict, accepts, refuses, first, Answer, answer}
use Rattle.base.specs.Limits.{largest, most_cars}
use Rattle.base.specs.Lists.{Each}
use Rattle.base.specs.Numbers.{outside, member}
use Rattle.base.specs.Total.{selected}
use Rattle.base.proofs.Answer.{followed, accepted-append}
use Rattle.base.proofs.Choice.{never, both_hold, cond_either}
use Rattle.base.proofs.Lists.{map-append, length-map, selected-map, selected-append}
use Rattle.table.specs.Table.{Table, tables_tests, tables_verdict}
use Rattle.car.specs.Measured.{measured_tests}
use Rattle.car.specs.Car.{car_of, Intake, dipped, number_tests, car_tests, figures_of, own_answer}
use Rattle.consist.specs.Train.{Train, empty_train}
use Rattle.consist.specs.Book.{car, strike, Entry, number_in, book_admission, entry_by, book_from}
use Rattle.consist.specs.Demand3.{answer_to, train_with, train_from, answers_from, struck_in}
use Rattle.consist.proofs.Places.{selected_both, selected_all, map-map}
use Rattle.consist.proofs.Kept.{Kept, book_of, Matches, entries, kept_step, book_step_lem, matched, answer_is}
use Rattle.consist.proofs.Book.{start}
use Rattle.grammar.specs.Grammar.{TrainLine, enters, strikes}
use Rattle.answers.specs.Listing.{items_of}
use Rattle.merge_spec.specs.Held.{number_of, HeldCar, held_number, kept_out, held_in, held_on, cars_held}
use Rattle.merge_spec.specs.Merged.{HeldByTrain}
use Rattle.merge_spec.specs.Inner.{turned_away, cars_without, kept_from}

-- A car by the numbers of its C line, as it is handed in.
abbrev pub cast : List ℕ → Intake
cast x = dipped (car_of x)

-- its own tests have numbers from 12 on
abbrev late : List Test → Bool
late [] = true
late (t ∷ ts) = ltb 11 t.number && late ts

refused_late : (ts : List Test) {k : ℕ} → late ts ≡ true → first ts ≡ refuses k → ltb 11 k ≡ true
refused_late [] l e = never (cc)
refused_late (t ∷ ts) {k} l e = go (refused_late ts) t.applies (both_hold (ltb 11 t.number) (late ts) l) e
  where
    go : (late ts ≡ true → first ts ≡ refuses k → ltb 11 k ≡ true) → (b : Bool) → (ltb 11 t.number ≡ true) × (late ts ≡ true) → cond b (refuses t.number) (first ts) ≡ refuses k
        → ltb 11 k ≡ true
    go later true (p, q) e = let f : t.number ≡ k = cc in rw f at p
    go later false (p, q) e = later q e

own_late : (ts : List Table) (x : List ℕ) → late (car_tests ts (cast x)) ≡ true
unfolding car_tests measured_tests
own_late ts x = refl

and_false : (b : Bool) → (b && false) ≡ false
and_false true = refl
and_false false = refl

-- so that no answer of its own keeps it out
pub own_held : (ts : List Table) (x : List ℕ) → kept_out (own_answer ts (cast x)) ≡ false
unfolding own_answer
own_held ts x = go (first (car_tests ts (cast x))) refl
  where
    go : (v : Verdict) → first (car_tests ts (cast x)) ≡ v → kept_out (answer v (figures_of ts (cast x))) ≡ false
    go accepts e = refl
    go (refuses k) e = rw (lt-leb k 11 (ltb-true 11 k (refused_late (car_tests ts (cast x)) (own_late ts x) e))) (and_false (leb 9 k))

-- 9 to 11 behind cars of these numbers: none applies, or the one that does keeps the car out
abbrev place_tests : List ℕ → ℕ → List Test
place_tests held n = refuse_if 9 (leb most_cars (length held)) ∷ refuse_if 10 (outside 1 largest n) ∷ refuse_if 11 (member n held) ∷ []

none_of_three : (a b c : Bool) → (a || b || c) ≡ false → first (refuse_if 9 a ∷ refuse_if 10 b ∷ refuse_if 11 c ∷ []) ≡ accepts
none_of_three true b c e = absurd (true≢false e)
none_of_three false true c e = absurd (true≢false e)
none_of_three false false true e = absurd (true≢false e)
none_of_three false false false e = refl

one_of_three : (a b c : Bool) → (a || b || c) ≡ true
    → (k : ℕ) × (first (refuse_if 9 a ∷ refuse_if 10 b ∷ refuse_if 11 c ∷ []) ≡ refuses k) × ((leb 9 k && leb k 11) ≡ true)
one_of_three true b c e = (9, refl, refl)
one_of_three false true c e = (10, refl, refl)
one_of_three false false true e = (11, refl, refl)
one_of_three false false false e = absurd (true≢false (sym e))

-- Train, book and the kept cars, side by side.

record Along (t : Train) (ks : List Kept) (kept : List (List ℕ)) : Type 0 where
  matches : Matches t ks
  numbers : map number_in (book_of ks) ≡ map number_of kept

module _ (ts : List Table) (good : tables_verdict ts ≡ accepts) where
  module _ (t : Train) (ks : List Kept) (kept : List (List ℕ)) (m : Along t ks kept) where
    -- a C line
    module _ (x : List ℕ) where
      by_place : first (book_admission (book_of ks) ts (cast x)) ≡ first (place_tests (map number_of kept) (number_of x))
      unfolding book_admission
      by_place =
          let len : length (book_of ks) ≡ length (map number_of kept) = sym (length-map number_in (book_of ks)) ∙ ap length m.numbers in
          accepted-append (refuse_if 9 (leb most_cars (length (book_of ks))) ∷ (number_tests (number_of x) ++ (refuse_if 11 (member (number_of x) (map number_in (book_of ks))) ∷ []))) (tables_tests ts) good
          ∙ rw (len, m.numbers)

      next : Matches (train_with t (car ts (cast x))) (kept_step ks (car ts (cast x)))
      next = matched t ks m.matches (car ts (cast x))

      booked : (v : Verdict) → first (book_admission (book_of ks) ts (cast x)) ≡ v
          → map number_in (book_of (kept_step ks (car ts (cast x)))) ≡ map number_of kept ++ map number_in (entry_by v (first (car_tests ts (cast x))) ts (cast x))
      booked v e =
          ap (map number_in) (book_step_lem ks (car ts (cast x)))
          ∙ map-append number_in (book_of ks) (entry_by (first (book_admission (book_of ks) ts (cast x))) (first (car_tests ts (cast x))) ts (cast x))
          ∙ ap₂ (λ (l : List ℕ) (w : Verdict). l ++ map number_in (entry_by w (first (car_tests ts (cast x))) ts (cast x))) m.numbers e

      entry_number : (v : Verdict) → map number_in (entry_by accepts v ts (cast x)) ≡ number_of x ∷ []
      entry_number accepts = refl
      entry_number (refuses k) = refl

      -- turned away, it is kept out and changes nothing
      record Away : Type 0 where
        out : kept_out (answer_to t (car ts (cast x))) ≡ true
        same : Along (train_with t (car ts (cast x))) (kept_step ks (car ts (cast x))) kept

      away : turned_away (map number_of kept) x ≡ true → Away
      away e =
          let r = one_of_three (leb most_cars (length (map number_of kept))) (outside 1 largest (number_of x)) (member (number_of x) (map number_of kept)) e in
          let v : first (book_admission (book_of ks) ts (cast x)) ≡ refuses r.0 = by_place ∙ r.1 in
          record {
            out = ap kept_out (answer_is t ks m.matches ts (cast x) ∙ ap (λ (w : Verdict). answer (followed w (first (car_tests ts (cast x)))) (figures_of ts (cast x))) v) ∙ r.2;
            same = record { matches = next; numbers = booked (refuses r.0) v ∙ append-nil (map number_of kept) };
          }

      -- else it is answered by its own tests, and kept
      record In : Type 0 where
        own : answer_to t (car ts (cast x)) ≡ own_answer ts (cast x)
        more : Along (train_with t (car ts (cast x))) (kept_step ks (car ts (cast x))) (kept ++ (x ∷ []))

      taken_in : turned_away (map number_of kept) x ≡ false → In
      unfolding own_answer
      taken_in e =
          let v : first (book_admission (book_of ks) ts (cast x)) ≡ accepts =
          by_place ∙ none_of_three (leb most_cars (length (map number_of kept))) (outside 1 largest (number_of x)) (member (number_of x) (map number_of kept)) e in
          record {
            own = answer_is t ks m.matches ts (cast x) ∙ ap (λ (w : Verdict). answer (followed w (first (car_tests ts (cast x)))) (figures_of ts (cast x))) v;
            more = record {
              matches = next;
              numbers = booked accepts v ∙ ap (λ (l : List ℕ). map number_of kept ++ l) (entry_number (first (car_tests ts (cast x)))) ∙ sym (map-append number_of kept (x ∷ []));
            };
          }

    -- a K line
    struck : (n : ℕ) → Along (train_with t (strike n)) (kept_step ks (strike n)) (cars_without n kept)
    struck n = record {
      matches = matched t ks m.matches (strike n);
      numbers =
          ap (map number_in) (book_step_lem ks (strike n))
          ∙ sym (selected-map number_in (λ k. not (eqb k n)) (book_of ks))
          ∙ ap (selected (λ k. not (eqb k n))) m.numbers
          ∙ selected-map number_of (λ k. not (eqb k n)) kept;
    }

  -- All lines.

  -- the answer is the car's own
  abbrev Own : HeldCar → Type 0
  Own h = h.answer ≡ own_answer ts (cast h.car)

  record Run (t : Train) (ks : List Kept) (kept : List (List ℕ)) (history : List TrainLine) : Type 0 where
    lines : kept_from kept history
        ≡ selected (λ x. not (struck_in (items_of ts history) (number_of x))) kept ++ map (λ h. h.car) (held_in ts history (answers_from t (items_of ts history)))
    own : Each Own (held_in ts history (answers_from t (items_of ts history)))
    lasts : List Kept
    last : Along (train_from t (items_of ts history)) lasts (kept_from kept history)
    book : book_of lasts ≡ book_from (book_of ks) (items_of ts history)

  -- the cars that no later line strikes
  abbrev lasting : List TrainLine → List (List ℕ) → List (List ℕ)
  lasting history kept = selected (λ x. not (struck_in (items_of ts history) (number_of x))) kept

  run_away : (x : List ℕ) (history : List TrainLine) (t : Train) (ks : List Kept) (kept : List (List ℕ)) (m : Along t ks kept) → turned_away (map number_of kept) x ≡ true
      → Run (train_with t (car ts (cast x))) (kept_step ks (car ts (cast x))) kept history → Run t ks kept (enters x ∷ history)
  run_away x history t ks kept m e r =
      let out = (away t ks kept m x e).out in
      record {
        lines = rw (e, out) r.lines;
        own = rw out r.own;
        lasts = r.lasts;
        last = rw e r.last;
        book = r.book ∙ ap (λ (b : List Entry). book_from b (items_of ts history)) (book_step_lem ks (car ts (cast x)));
      }

  run_in : (x : List ℕ) (history : List TrainLine) (t : Train) (ks : List Kept) (kept : List (List ℕ)) (m : Along t ks kept) → turned_away (map number_of kept) x ≡ false
      → Run (train_with t (car ts (cast x))) (kept_step ks (car ts (cast x))) (kept ++ (x ∷ [])) history → Run t ks kept (enters x ∷ history)
  run_in x history t ks kept m e r =
      let i = taken_in t ks kept m x e in
      let u : Train = train_with t (car ts (cast x)) in
      let rest : List HeldCar = held_in ts history (answers_from u (items_of ts history)) in
      let not-out : kept_out (answer_to t (car ts (cast x))) ≡ false = ap kept_out i.own ∙ own_held ts x in
      record {
        lines =
            rw (e, not-out)
            (r.lines
            ∙ ap (λ (l : List (List ℕ)). l ++ map (λ h. h.car) rest) (selected-append (λ y. not (struck_in (items_of ts history) (number_of y))) kept (x ∷ []))
            ∙ append_assoc (lasting history kept) (lasting history (x ∷ [])) (map (λ h. h.car) rest)
            ∙ ap (λ (l : List (List ℕ)). lasting history kept ++ l) (one_more_lem (struck_in (items_of ts history) (number_of x)) rest (answer_to t (car ts (cast x)))));
        own = rw not-out (cond_either (Each Own) (struck_in (items_of ts history) (number_of x)) _ _ (λ _. r.own) (λ _. (i.own, r.own)));
        lasts = r.lasts;
        last = rw e r.last;
        book = r.book ∙ ap (λ (b : List Entry). book_from b (items_of ts history)) (book_step_lem ks (car ts (cast x)));
      }
    where
      one_more_lem : (b : Bool) (rest : List HeldCar) (a : Answer)
          → selected (λ _. not b) (x ∷ []) ++ map (λ h. h.car) rest ≡ map (λ h. h.car) (cond b rest (record { car = x; answer = a } ∷ rest))
      one_more_lem true rest a = refl
      one_more_lem false rest a = refl

  run : (history : List TrainLine) (t : Train) (ks : List Kept) (kept : List (List ℕ)) → Along t ks kept → Run t ks kept history
  run [] t ks kept m = record { lines = sym (append-nil (lasting [] kept) ∙ selected_all kept); own = tt; lasts = ks; last = m; book = refl }
  run (enters x ∷ history) t ks kept m =
      go (turned_away (map number_of kept) x) refl
      (λ m'. run history (train_with t (car ts (cast x))) (kept_step ks (car ts (cast x))) kept m')
      (λ m'. run history (train_with t (car ts (cast x))) (kept_step ks (car ts (cast x))) (kept ++ (x ∷ [])) m')
    where
      go : (b : Bool) → turned_away (map number_of kept) x ≡ b
          → (Along (train_with t (car ts (cast x))) (kept_step ks (car ts (cast x))) kept → Run (train_with t (car ts (cast x))) (kept_step ks (car ts (cast x))) kept history)
          → (Along (train_with t (car ts (cast x))) (kept_step ks (car ts (cast x))) (kept ++ (x ∷ [])) → Run (train_with t (car ts (cast x))) (kept_step ks (car ts (cast x))) (kept ++ (x ∷ [])) history)
          → Run t ks kept (enters x ∷ history)
      go true e same more = run_away x history t ks kept m e (same (away t ks kept m x e).same)
      go false e same more = run_in x history t ks kept m e (more (taken_in t ks kept m x e).more)
  run (strikes n ∷ history) t ks kept m =
      let r = run history (train_with t (strike n)) (kept_step ks (strike n)) (cars_without n kept) (struck t ks kept m n) in
      record {
        lines =
            r.lines
            ∙ ap (λ (l : List (List ℕ)). l ++ map (λ h. h.car) (held_in ts history (answers_from (train_with t (strike n)) (items_of ts history))))
            (selected_both (λ y. eqb (number_of y) n) (λ y. struck_in (items_of ts history) (number_of y)) kept);
        own = r.own;
        lasts = r.lasts;
        last = r.last;
        book = r.book ∙ ap (λ (b : List Entry). book_from b (items_of ts history)) (book_step_lem ks (strike n));
      }

  -- What a whole sheet holds.

  pub record HeldOnSheet (history : List TrainLine) : Type 0 where
    pub kept : cars_held ts history ≡ kept_from [] history
    pub own : Each (λ h. h.answer ≡ own_answer ts (cast h.car)) (held_on ts history)
    pub by_train : HeldByTrain ts history

  pub held_on_sheet : (history : List TrainLine) → HeldOnSheet history
  held_on_sheet history =
      let r = run history empty_train [] [] (record { matches = start; numbers = refl }) in
      let cars : cars_held ts history ≡ kept_from [] history = sym r.lines in
      let numbers : map number_in (book_of r.lasts) ≡ map held_number (held_on ts history) =
      r.last.numbers ∙ ap (map number_of) (sym cars) ∙ map-map number_of (λ (h : HeldCar). h.car) (held_on ts history) in
      record {
        kept = cars;
        own = r.own;
        by_train = record {
          train = entries (train_from empty_train (items_of ts history)) r.lasts r.last.matches ∙ numbers;
          book = ap (map number_in) (sym r.book) ∙ numbers;
        };
      }
