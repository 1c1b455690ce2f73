-- Line after line: the turns never run out, so that what the lines from a place on bring does not depend on their number.
use Prim.Native.Nat.{ℕ, zero, suc, ◌+◌, ◌≤◌, ◌<◌}
use mathlib.Core.Path.{◌≡◌, refl, ap, sym, ◌∙◌}
use mathlib.Core.List.{List}
use native.Mathlib.Numerals.{add-one}
use native.Mathlib.Omega.{arith}
use lib.Dec.{ltb}
use lib.ListN.{length}
use borrow.Author.Tests.{ltb-false, ltb-true, lt-ltb, le-ltb}
use Rattle.base.proofs.Choice.{cond_either}
use Rattle.grammar.specs.Sheet.{longest, SheetRead, refused_at, State, Step, next, over, step_of, after, lines, read_from, start, sheet_of}
use Rattle.grammar.specs.Proper.{Proper}
use Rattle.grammar.specs.Inner.{SoundState, Recorded}
use Rattle.grammar.proofs.Steps.{After, after_step}

-- The turns.

lines_same : (j k : ℕ) (s : List ℕ) (st : State) → SoundState (length s) st → length s < st.at + j → length s < st.at + k → lines j s st ≡ lines k s st
unfolding lines
lines_same zero k s st h v w = absurd (omega (arith, h.within))
lines_same (suc j) zero s st h v w = absurd (omega (arith, h.within))
lines_same (suc j) (suc k) s st h v w = go (λ st' g i. lines_same j k s st' g (omega arith) (omega arith)) (step_of s st) (after_step s st h)
  where
    go : ((st' : State) → SoundState (length s) st' → st.at < st'.at → lines j s st' ≡ lines k s st')
        → (p : Step) → After (length s) st p → after (λ (x : State). lines j s x) p ≡ after (λ (x : State). lines k s x) p
    go later (next st') a = later st' a.0 a.1
    go later (over st' r) a = refl

lines_proper : (k : ℕ) (s : List ℕ) (st : State) → length s ≤ longest → SoundState (length s) st → Recorded st → length s < st.at + k → Proper (length s) (lines k s st)
unfolding lines
lines_proper zero s st b h c w = absurd (omega (arith, h.within))
lines_proper (suc k) s st b h c w = go (λ st' g i d. lines_proper k s st' b g d (omega arith)) (step_of s st) (after_step s st h)
  where
    go : ((st' : State) → SoundState (length s) st' → st.at < st'.at → Recorded st' → Proper (length s) (lines k s st'))
        → (p : Step) → After (length s) st p → Proper (length s) (after (λ (x : State). lines k s x) p)
    go later (next st') a = later st' a.0 a.1 (a.2 c)
    go later (over st' r) a = a b c

start_sound : (n : ℕ) → SoundState n start
start_sound n = record { within = omega arith; number = omega arith; passed = refl; few_cars = omega arith; few_strikes = omega arith }

pub start_recorded : Recorded start
start_recorded = record { each = tt; counted = record { cars = refl; struck = refl } }

pub sheet_proper : (s : List ℕ) → Proper (length s) (sheet_of s)
unfolding sheet_of
sheet_proper s =
    cond_either (Proper (length s)) (ltb longest (length s)) _ _
    (λ e. record { lines = omega arith; least = omega arith; most = omega arith; long = λ _. ltb-true longest (length s) e })
    (λ e. lines_proper (length s + 1) s start (ltb-false longest (length s) e) (start_sound (length s)) start_recorded (omega arith))

-- 2 and the start.

pub sheet_long : (s : List ℕ) → longest < length s → refused_at 0 2 ≡ sheet_of s
unfolding sheet_of
sheet_long s h = sym (simp (lt-ltb longest (length s) h))

pub sheet_short : (s : List ℕ) → length s ≤ longest → read_from s start ≡ sheet_of s
unfolding sheet_of
sheet_short s h = sym (simp (le-ltb longest (length s) h))

pub sound_start : (n : ℕ) (st : State) → st ≡ start → SoundState n st
sound_start n st e = rw e (start_sound n)

-- One line, and the rest.

module _ (s : List ℕ) (st : State) (p : Step) (e : p ≡ step_of s st) (h : SoundState (length s) st) where
  first : read_from s st ≡ after (λ (x : State). lines (length s) s x) p
  unfolding lines
  first = ap (λ (i : ℕ). lines i s st) (add-one (length s)) ∙ ap (after (λ (x : State). lines (length s) s x)) (sym e)

  pub went_on : (st' : State) → p ≡ next st' → SoundState (length s) st' × (st.at < st'.at) × (read_from s st' ≡ read_from s st)
  went_on st' n =
      let a : After (length s) st (next st') = rw (sym e ∙ n) at (after_step s st h) in (
        a.0,
        a.1,
        lines_same (length s + 1) (length s) s st' a.0 (omega (arith, a.1)) (omega (arith, a.1))
            ∙ sym (first ∙ ap (after (λ (x : State). lines (length s) s x)) n),
      )

  pub is_over : (st' : State) (r : SheetRead) → p ≡ over st' r → r ≡ read_from s st
  is_over st' r o = sym (first ∙ ap (after (λ (x : State). lines (length s) s x)) o)
