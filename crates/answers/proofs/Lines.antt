-- Every number of every line of an answer fits its field; the line of a car has at most the bytes of an A line, that of a strike those of an X line.
use Prim.Native.Nat.{ℕ, ◌+◌, ◌*◌, ◌≤◌}
use mathlib.Core.Path.{◌≡◌, refl}
use mathlib.Core.Bool.{true}
use mathlib.Core.List.{List, [], ◌∷◌, ◌++◌}
use native.Mathlib.Omega.{arith}
use lib.ListN.{length, length-append}
use borrow.Author.Tests.{le-leb}
use Rattle.base.specs.Limits.{largest, grade_count}
use Rattle.base.specs.Answer.{Test, last_refusal, Verdict, accepts, refuses, first, figures, refusal, answer}
use Rattle.base.proofs.Answer.{numbered, numbered-append, number_most, accepted_parts}
use Rattle.base.specs.Lists.{Each}
use Rattle.reading.specs.declared.letter.Letter.TheVariants.{CarAccepted, CarRefused, Totals as S, GradeTotals as G}
use Rattle.reading.specs.declared.letter.Line.{Line}
use Rattle.reading.specs.Letter.{width_of}
use Rattle.line.specs.Writing.{line_of, small_to}
use Rattle.line.proofs.Bytes.{length_line_of}
use Rattle.table.specs.Table.{Table, tables_tests, tables_verdict}
use Rattle.table.proofs.Table.{tables_numbered}
use Rattle.table.proofs.Rising.{tables_last_most}
use Rattle.kilograms.specs.Inner.{most_cold_volume}
use Rattle.kilograms.specs.Steps as steps
use Rattle.kilograms.proofs.Bounds.{stick_coefficient_most, hot_volume_most, cold_volume_most}
use Rattle.car.specs.declared.Measured.{Measured}
use Rattle.car.specs.Measured.{gross, net, v0, v15_from, mass, six_figures}
use Rattle.car.specs.Car.{Intake, intake_number, before_tests, measured_of, car_tests, figures_of}
use Rattle.car.proofs.Answers.{before_numbered, own_numbered}
use Rattle.car.specs.Inner.{Passed}
use Rattle.car.proofs.Accepted.{passed_car, known, low, fields, shows}
use Rattle.car.proofs.Masses.{mass_most}
use Rattle.summing.specs.declared.Totals.{Totals}
use Rattle.summing.specs.declared.Sums.{Sums}
use Rattle.consist.specs.Train.{Train, train_tests, admission_tests, enter_tests, enter_answer, strike_tests, strike_answer}
use Rattle.summing.specs.Inner.{Low, Sound}
use Rattle.summing.proofs.Adding.{grades_low}
use Rattle.grammar.specs.Text.{text_of}
use Rattle.answers.specs.Listing.{answer_line, struck_line, totals_line, grade_line, grade_lines, totals_lines, sheet_refused_line}
use Rattle.answers.specs.Reconciled.{Small}

-- each test of a car entered in a train has the number of a refusal
enter_numbered : (ts : List Table) (t : Train) (c : Intake) → numbered (enter_tests ts t c) ≡ true
unfolding enter_tests admission_tests
enter_numbered ts t c =
    let tables : List Test = tables_tests ts in
    let place : List Test = train_tests t (intake_number c) in
    numbered-append (admission_tests ts t c) (car_tests ts c) (numbered-append (before_tests c) (tables ++ place) (before_numbered c) (numbered-append tables place (tables_numbered ts) refl)) (own_numbered ts c)

-- a line that can be written wherever it has room
pub record Fit (l : Line) : Type 0 where
  pub fourteen : length l.numbers ≡ 14
  pub small : Small l
  pub width : width_of l.letter ≤ width_of CarAccepted

x_fit : (number n : ℕ) → number ≤ largest → n ≤ last_refusal → Fit (answer_line number (refusal n))
unfolding small_to
x_fit number n h k = record { fourteen = refl; small = simp (le-leb number largest h, le-leb n largest (omega arith)); width = omega arith }

-- an accepted car's figures
v15_most : (ts : List Table) (m : Measured) → Passed ts m → v15_from m (v0 ts m) ≤ most_cold_volume
unfolding steps.volume15_of
v15_most ts m h =
    let f = fields ts m h in
    cold_volume_most f.density.light f.hot (hot_volume_most (stick_coefficient_most m.stick) f.hot (shows ts m h).most)

six_fit : (ts : List Table) (number : ℕ) (m : Measured) → number ≤ largest → Passed ts m → Fit (answer_line number (figures (six_figures ts number m)))
unfolding small_to six_figures mass
six_fit ts number m k h =
    let last = tables_last_most m.kind ts h.tables (known ts m h) in
    let v = (shows ts m h).most in
    record {
      fourteen = refl;
      small = simp (
        le-leb number largest k,
        le-leb m.level largest (omega (arith, low ts m h)),
        le-leb (v0 ts m) largest (omega arith),
        le-leb (v15_from m (v0 ts m)) largest (omega (arith, v15_most ts m h)),
        le-leb (mass gross ts m) largest (omega (arith, mass_most ts m h gross)),
        le-leb (mass net ts m) largest (omega (arith, mass_most ts m h net)),
      );
      width = omega arith;
    }

-- the line of a car on tables that are not refused
pub car_fit : (ts : List Table) (t : Train) (c : Intake) → tables_verdict ts ≡ accepts → intake_number c ≤ largest → Fit (answer_line (intake_number c) (enter_answer ts t c))
unfolding enter_tests enter_answer
car_fit ts t c good h = by_verdict (first (enter_tests ts t c)) refl
  where
    by_verdict : (v : Verdict) → first (enter_tests ts t c) ≡ v → Fit (answer_line (intake_number c) (answer v (figures_of ts c)))
    by_verdict (refuses n) e = x_fit (intake_number c) n h (number_most (enter_tests ts t c) (enter_numbered ts t c) e)
    by_verdict accepts e = six_fit ts (intake_number c) (measured_of c) h (passed_car c good (accepted_parts (car_tests ts c) (admission_tests ts t c) e).1)

-- the line of a strike
strike_numbered : (t : Train) (n : ℕ) → numbered (strike_tests t n) ≡ true
unfolding strike_tests
strike_numbered t n = refl

pub strike_fit : (t : Train) (n : ℕ) → n ≤ largest → Fit (struck_line n (strike_answer t n)) × (width_of (struck_line n (strike_answer t n)).letter ≤ width_of CarRefused)
unfolding strike_answer small_to
strike_fit t n h = by_verdict (first (strike_tests t n)) refl
  where
    by_verdict : (v : Verdict) → first (strike_tests t n) ≡ v
        → Fit (struck_line n (answer v (n ∷ []))) × (width_of (struck_line n (answer v (n ∷ []))).letter ≤ width_of CarRefused)
    by_verdict (refuses k) e = (x_fit n k h (number_most (strike_tests t n) (strike_numbered t n) e), omega arith)
    by_verdict accepts e = (record { fourteen = refl; small = simp (le-leb n largest h); width = omega arith }, omega arith)

-- S, G and Z
pub totals_fit : {t : Totals} → Low t → Fit (totals_line t)
unfolding small_to
totals_fit {t} h = record {
  fourteen = refl;
  small = simp (le-leb t.accepted largest (omega (arith, h.few)), le-leb t.gross largest (omega (arith, h.gross_low)), le-leb t.net largest (omega (arith, h.net_low)));
  width = omega arith;
}

pub grade_fit : {g : ℕ} {t : Totals} → g ≤ largest → Low t → Fit (grade_line g t)
unfolding small_to
grade_fit {g} {t} k h = record {
  fourteen = refl;
  small = simp (le-leb g largest k, le-leb t.accepted largest (omega (arith, h.few)), le-leb t.gross largest (omega (arith, h.gross_low)), le-leb t.net largest (omega (arith, h.net_low)));
  width = omega arith;
}

grades_fit : (g : ℕ) (ts : List Totals) → g + length ts ≤ largest → Each Low ts → Each Fit (grade_lines g ts)
grades_fit g [] k h = tt
grades_fit g (t ∷ ts) k (h, hs) = (grade_fit (omega arith) h, grades_fit (g + 1) ts (omega arith) hs)

pub all_fit : {s : Sums} → Sound s → length s.grades ≡ grade_count → Each Fit (totals_lines s)
all_fit {s} h n = (totals_fit h.low, grades_fit 1 s.grades (omega arith) (grades_low h))

-- how long they are
grades-length : (g : ℕ) (ts : List Totals) → length (text_of (grade_lines g ts)) ≡ width_of G * length ts
unfolding text_of
grades-length g [] = omega arith
grades-length g (t ∷ ts) =
    let l : Line = grade_line g t in
    omega (arith, length-append (line_of l) (text_of (grade_lines (g + 1) ts)), length_line_of l refl, grades-length (g + 1) ts)

pub totals_length : (s : Sums) → length s.grades ≡ grade_count → length (text_of (totals_lines s)) ≡ width_of S + grade_count * width_of G
unfolding text_of
totals_length s n =
    let l : Line = totals_line s.all in
    omega (arith, length-append (line_of l) (text_of (grade_lines 1 s.grades)), length_line_of l refl, grades-length 1 s.grades)

pub sheet_refused_fit : (line number : ℕ) → line ≤ largest → number ≤ largest → Fit (sheet_refused_line line number)
unfolding small_to
sheet_refused_fit line number h k = record { fourteen = refl; small = simp (le-leb line largest h, le-leb number largest k); width = omega arith }
