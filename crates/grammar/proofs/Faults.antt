-- The tests on the rest of the text say what reading the line due gives.
use Prim.Native.Nat.{ℕ, zero, suc, ◌+◌, ◌-◌, ◌*◌, ◌<◌}
use mathlib.Core.Path.{◌≡◌, refl, ap, ap₂, sym, ◌∙◌}
use mathlib.Core.Bool.{Bool, true, false, cond, not}
use mathlib.Core.List.{List, [], ◌∷◌}
use mathlib.Core.Logic.{⊎_elim}
use Rattle.std.specs.Prelude.{Option, Some, None, Result, Ok, Err}
use native.Mathlib.Nat.{add-zero}
use native.Mathlib.Omega.{arith}
use lib.Dec.{ltb, leb, eqb}
use lib.ListN.{length, get_or, drop, replicate, length-drop}
use lib.Seq.{get_or-drop}
use borrow.Author.Tests.{lt-ltb, le-ltb, eq-eqb, ne_eqb, not-true}
use Rattle.base.specs.Answer.{Verdict, refuses, first}
use Rattle.base.specs.declared.refusal.Refusal.{Refusal}
use Rattle.base.specs.declared.refusal.Refusal.TheVariants.{NoLine, LineLength, NotNumber}
use Rattle.base.specs.Refusal.{refusal_number}
use Rattle.base.specs.Limits.{most_car_lines, most_strikes}
use Rattle.base.proofs.Choice.{below, same}
use Rattle.base.proofs.Answer.{one_applies}
use Rattle.field.specs.Field.{columns, column_of, seen_to, finish, field_at}
use Rattle.reading.specs.declared.letter.Letter.{Letter}
use Rattle.reading.specs.declared.letter.Letter.TheVariants.{Table as T, Row as R, Car as C, Strike as K, End as E}
use Rattle.reading.specs.declared.letter.Line.{Line}
use Rattle.reading.specs.declared.Due.{Due}
use Rattle.reading.specs.Letter.{count_of, width_of, most_fields}
use Rattle.reading.specs.Reading.{letter_of, feed, feed_at, is_number, field_value, good, values, filled, line_by, line_at, row_only}
use Rattle.reading.proofs.Letters.{found}
use Rattle.reading.proofs.Fields.{value_at}
use Rattle.reading.proofs.Lines.{IsLine, is_line}
use Rattle.table.specs.Table.{row_of, Table, table_line_bad, row_bad}
use Rattle.grammar.specs.Grammar.{TrainLine, kinds, last_rows, may_come}
use Rattle.grammar.specs.Faults.{number_in, letter_in, number_faults, letter_faults, line_faults}
use Rattle.grammar.specs.Sheet.{State, refused_here, due_by, due_of, by_letter, step_of}
use Rattle.grammar.specs.Inner.{Counted}
use Rattle.grammar.proofs.Rules.{lines_all, table_refused, row_refused, car_refused, strike_refused, end_refused}
use Rattle.grammar.proofs.Steps.{step_read}

-- From a place of s on, and from the start of the rest.

seen_rest : (s : List ℕ) (at x k : ℕ) → seen_to s (at + x) k ≡ seen_to (drop at s) x k
unfolding seen_to
seen_rest s at x zero = refl
seen_rest s at x (suc k) =
    let p : at + x + k ≡ at + (x + k) = omega arith in
    ap₂ column_of (seen_rest s at x k) (ap (λ (i : ℕ). get_or s i 0) p ∙ sym (get_or-drop at s (x + k) 0))

pub field_rest : (s : List ℕ) (at k : ℕ) → field_at s (at + 1 + columns * k) ≡ field_at (drop at s) (1 + columns * k)
unfolding field_at
field_rest s at k =
    let p : at + 1 + columns * k ≡ at + (1 + columns * k) = omega arith in
    ap (λ (i : ℕ). finish (seen_to s i columns)) p ∙ ap finish (seen_rest s at (1 + columns * k) columns)

good_rest : (s : List ℕ) (at k : ℕ) → good s (at + 1) k ≡ good (drop at s) 1 k
unfolding good
good_rest s at zero = refl
good_rest s at (suc k) = ap₂ (λ (a : Bool) (f : Option ℕ). cond a (is_number f) false) (good_rest s at k) (field_rest s at k)

feed_rest : (s : List ℕ) (at : ℕ) → ltb (feed_at s at) (length s) ≡ ltb (feed (drop at s)) (length (drop at s))
unfolding feed_at
feed_rest s at =
    let r = drop at s in
    let n : length r ≡ length s - at = length-drop at s in
    ⊎_elim
    (λ (h : feed r < length r). lt-ltb (at + feed r) (length s) (omega arith) ∙ sym (lt-ltb (feed r) (length r) h))
    (λ h. le-ltb (at + feed r) (length s) (omega arith) ∙ sym (le-ltb (feed r) (length r) h))
    (below (feed r) (length r))

width_rest : (s : List ℕ) (at k : ℕ) → eqb (feed_at s at - at) (1 + columns * k) ≡ eqb (feed (drop at s) + 1) (2 + columns * k)
unfolding feed_at
width_rest s at k =
    let f = feed (drop at s) in
    ⊎_elim
    (λ (h : f ≡ 1 + columns * k). eq-eqb (at + f - at) (1 + columns * k) (omega arith) ∙ sym (eq-eqb (f + 1) (2 + columns * k) (omega arith)))
    (λ (h : f ≡ 1 + columns * k → ⊥). ne_eqb (at + f - at) (1 + columns * k) (λ e. h (omega arith)) ∙ sym (ne_eqb (f + 1) (2 + columns * k) (λ e. h (omega arith))))
    (same f (1 + columns * k))

-- The letters that may come next are those due.

-- what holds of the five bytes of a sheet's letters, and of a byte that is none of them
by_byte : (P : ℕ → Type 0) → P 84 → P 82 → P 67 → P 75 → P 69
    → ((b : ℕ) → eqb b 84 ≡ false → eqb b 82 ≡ false → eqb b 67 ≡ false → eqb b 75 ≡ false → eqb b 69 ≡ false → P b) → (b : ℕ) → P b
by_byte P t r c k e other b =
    ⊎_elim (λ (z : b ≡ 84). rw z t)
    (λ (t' : b ≡ 84 → ⊥).
    ⊎_elim (λ (z : b ≡ 82). rw z r)
    (λ (r' : b ≡ 82 → ⊥).
    ⊎_elim (λ (z : b ≡ 67). rw z c)
    (λ (c' : b ≡ 67 → ⊥).
    ⊎_elim (λ (z : b ≡ 75). rw z k)
    (λ (k' : b ≡ 75 → ⊥).
    ⊎_elim (λ (z : b ≡ 69). rw z e) (λ (e' : b ≡ 69 → ⊥). other b (ne_eqb b 84 t') (ne_eqb b 82 r') (ne_eqb b 67 c') (ne_eqb b 75 k') (ne_eqb b 69 e')) (same b 69))
    (same b 75))
    (same b 67))
    (same b 82))
    (same b 84)

letters_due : (b : ℕ) (ts : List Table) (owed : ℕ) (history : List TrainLine) → (0 < length history → 0 < length ts)
    → letter_of b (due_by owed (length ts) (length history)) ≡ letter_in b (may_come ts owed history)
unfolding letter_of
letters_due b ts (suc owed) history h =
    let due : due_by (suc owed) (length ts) (length history) ≡ row_only = simp (ne_eqb (suc owed) 0 (λ z. omega arith)) in
    ap (letter_of b) due ∙ by_byte (λ (b : ℕ). letter_of b row_only ≡ letter_in b (R ∷ [])) refl refl refl refl refl (λ b t r c k e. simp (t, r, c, k, e)) b
letters_due b [] zero [] h =
    by_byte (λ (b : ℕ). letter_of b (due_by 0 0 0) ≡ letter_in b (T ∷ [])) refl refl refl refl refl (λ b t r c k e. simp (t, r, c, k, e)) b
letters_due b [] zero (line ∷ history) h = absurd (omega (arith, h (omega arith)))
letters_due b (t ∷ ts) zero [] h =
    let d : Due = record { table = true; row = false; car = true; strike = true; end = true } in
    let due : due_by 0 (suc (length ts)) 0 ≡ d = simp (lt-ltb 0 (suc (length ts)) (omega arith)) in
    ap (letter_of b) due ∙ by_byte (λ (b : ℕ). letter_of b d ≡ letter_in b (T ∷ C ∷ K ∷ E ∷ [])) refl refl refl refl refl (λ b t r c k e. simp (t, r, c, k, e)) b
letters_due b (t ∷ ts) zero (line ∷ history) h =
    let d : Due = record { table = false; row = false; car = true; strike = true; end = true } in
    let due : due_by 0 (suc (length ts)) (suc (length history)) ≡ d = simp (ne_eqb (suc (length history)) 0 (λ z. omega arith), lt-ltb 0 (suc (length ts)) (omega arith)) in
    ap (letter_of b) due ∙ by_byte (λ (b : ℕ). letter_of b d ≡ letter_in b (C ∷ K ∷ E ∷ [])) refl refl refl refl refl (λ b t r c k e. simp (t, r, c, k, e)) b

-- What reading the line due gives is the verdict of the tests.

module _ (s : List ℕ) (st : State) where
  abbrev rest : List ℕ
  rest = drop st.at s

  -- the verdict on the line due, by its letter and by what reading it gave
  abbrev pub letter_verdict : Letter → Verdict
  letter_verdict l = first (number_faults st.tables st.history rest l)

  abbrev pub verdict_of : Result Line Refusal → Verdict
  verdict_of (Ok line) = letter_verdict line.letter
  verdict_of (Err r) = refuses (refusal_number r)

  by_letter_lem : (b : Bool) (f : Option Letter)
      → cond (not b) (refuses 3) (first (letter_faults st.tables st.history rest f)) ≡ verdict_of (cond b (line_by s st.at (feed_at s st.at) f) (Err NoLine))
  unfolding line_by
  by_letter_lem false f = refl
  by_letter_lem true None = refl
  by_letter_lem true (Some l) =
      by_fields (eqb (feed rest + 1) (width_of l)) (good rest 1 (count_of l))
      ∙ sym (ap₂ (λ (a g : Bool). verdict_of (cond a (cond g line (Err NotNumber)) (Err LineLength))) (width_rest s st.at (count_of l)) (good_rest s st.at (count_of l)))
    where
      line : Result Line Refusal
      line = Ok (record { letter = l; numbers = filled (values s (st.at + 1) (count_of l)) (count_of l) })

      by_fields : (a g : Bool) → cond (not a) (refuses 5) (cond (not g) (refuses 6) (letter_verdict l)) ≡ verdict_of (cond a (cond g line (Err NotNumber)) (Err LineLength))
      by_fields true true = refl
      by_fields true false = refl
      by_fields false g = refl

  pub line_verdict : Counted st → (0 < length st.history → 0 < length st.tables)
      → first (line_faults st.tables st.owed st.history rest) ≡ verdict_of (line_at s st.at (due_of st))
  unfolding line_at
  line_verdict counted h =
      let letter : Option Letter = letter_in (get_or rest 0 0) (may_come st.tables st.owed st.history) in
      let found : letter_of (get_or s st.at 0) (due_of st) ≡ letter =
      ap (λ (n : ℕ). letter_of (get_or s st.at 0) (due_by st.owed (length st.tables) n)) (ap₂ (λ (a b : ℕ). a + b) counted.cars counted.struck ∙ lines_all st.history)
      ∙ letters_due (get_or s st.at 0) st.tables st.owed st.history h
      ∙ ap (λ (b : ℕ). letter_in b (may_come st.tables st.owed st.history)) (ap (λ (i : ℕ). get_or s i 0) (sym (add-zero st.at)) ∙ sym (get_or-drop st.at s 0 0)) in
      by_letter_lem (ltb (feed rest) (length rest)) letter
      ∙ sym (ap₂ (λ (b : Bool) (f : Option Letter). verdict_of (cond b (line_by s st.at (feed_at s st.at) f) (Err NoLine))) (feed_rest s st.at) found)

  -- the numbers of a line that was read
  pub numbers_are : {l : Letter} {ns : List ℕ} → IsLine s st.at (due_of st) l ns → (j : ℕ) → j < count_of l → get_or ns j 0 ≡ number_in rest j
  numbers_are {l} h j i =
      ap (λ (x : List ℕ). get_or x j 0) h.are
      ∙ value_at s (st.at + 1) (count_of l) j (replicate (most_fields - count_of l) 0) i
      ∙ ap field_value (field_rest s st.at j)

  -- The line is refused where a test applies.

  letter_refused : Counted st → (l : Letter) (ns : List ℕ) {k : ℕ} → IsLine s st.at (due_of st) l ns → letter_verdict l ≡ refuses k → refused_here st k ≡ by_letter (length s) st l ns
  letter_refused counted l ns {k} h =
      found (λ m. IsLine s st.at (due_of st) m ns → letter_verdict m ≡ refuses k → refused_here st k ≡ by_letter (length s) st m ns) (get_or s st.at 0) l (due_of st) (
        (λ _ _ h v.
            let p = one_applies 7 _ v in
            ap (refused_here st) (sym p.1)
            ∙ table_refused st (get_or ns 0 0) (get_or ns 1 0) (ap₂ (table_line_bad (kinds st.tables)) (numbers_are h 0 (omega arith)) (numbers_are h 1 (omega arith)) ∙ p.0)),
        (
          (λ _ _ h v.
              let p = one_applies 8 _ v in
              ap (refused_here st) (sym p.1)
              ∙ row_refused st (row_of (get_or ns 0 0) (get_or ns 1 0)) (ap₂ (λ (a b : ℕ). row_bad (last_rows st.tables) (row_of a b)) (numbers_are h 0 (omega arith)) (numbers_are h 1 (omega arith)) ∙ p.0)),
          (
            (λ _ _ h v. let p = one_applies 9 _ v in ap (refused_here st) (sym p.1) ∙ car_refused st ns (ap (leb most_car_lines) counted.cars ∙ p.0)),
            (
              (λ _ _ h v. let p = one_applies 9 _ v in ap (refused_here st) (sym p.1) ∙ strike_refused st (get_or ns 0 0) (ap (leb most_strikes) counted.struck ∙ p.0)),
              (
                (λ _ _ h v.
                    let p = one_applies 9 _ v in
                    ap (refused_here st) (sym p.1)
                    ∙ end_refused st (length s) (get_or ns 0 0) (ap₂ eqb (numbers_are h 0 (omega arith)) counted.cars ∙ not-true _ p.0)),
                tt,
              ),
            ),
          ),
        ),
      ) h.found h

  pub step_refused : Counted st → (0 < length st.history → 0 < length st.tables) → {k : ℕ} → first (line_faults st.tables st.owed st.history rest) ≡ refuses k
      → refused_here st k ≡ step_of s st
  step_refused counted h {k} f = go (line_at s st.at (due_of st)) refl
    where
      go : (x : Result Line Refusal) → line_at s st.at (due_of st) ≡ x → refused_here st k ≡ step_of s st
      go (Ok line) e =
          letter_refused counted line.letter line.numbers (is_line s st.at (due_of st) line e) (ap verdict_of (sym e) ∙ sym (line_verdict counted h) ∙ f)
          ∙ step_read s st (Ok line) (sym e)
      go (Err n) e =
          let v : refuses (refusal_number n) ≡ refuses k = ap verdict_of (sym e) ∙ sym (line_verdict counted h) ∙ f in
          let same : refusal_number n ≡ k = cc in
          ap (refused_here st) (sym same) ∙ step_read s st (Err n) (sym e)
