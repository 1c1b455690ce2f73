-- The lines behind the cars': S, then the loop over the grades.
use Prim.Native.Nat.{ℕ, ◌+◌, ◌≤◌, ◌<◌}
use mathlib.Core.Path.{◌≡◌, ap, sym, ◌∙◌}
use mathlib.Core.Bool.{true}
use mathlib.Core.List.{List, [], ◌∷◌}
use native.Mathlib.Numerals.{add-one}
use native.Mathlib.Omega.{arith}
use lib.ListN.{length, get_or, drop, drop_of_length-le}
use lib.Seq.{drop-cons}
use Rattle.base.specs.Limits.{grade_count}
use Rattle.base.specs.Buffer.{put}
use Rattle.reading.specs.declared.letter.Line.{Line}
use Rattle.reading.specs.Letter.{width_of}
use Rattle.line.specs.Writing.{line_of, writable}
use Rattle.summing.specs.declared.Sums.{Sums}
use Rattle.summing.specs.Sums.{no_totals}
use Rattle.summing.specs.Inner.{Low}
use Rattle.summing.proofs.Adding.{grade_low}
use Rattle.grammar.specs.Text.{text_of}
use Rattle.answers.specs.Listing.{totals_line, grade_line, grade_lines, totals_lines}
use Rattle.printing.specs.Inner.{Closing}
use Rattle.answers.proofs.Lines.{Fit, totals_fit, grade_fit}
use Rattle.printing.proofs.Laid.{Laid, none_laid, line_room, line_laid, all_laid}

-- S comes first.
module _ (s : Sums) (at : ℕ) (lent : List ℕ) (h : Closing s at (length lent)) where
  abbrev grades : List Line
  grades = grade_lines 1 s.grades

  pub first_room : writable (totals_line s.all) at (length lent) ≡ true
  first_room = let f = totals_fit h.sound.low in line_room lent at (totals_lines s) h.space lent at (totals_line s.all) grades (none_laid lent at (text_of (totals_lines s))) f.fourteen f.small

  pub first_laid : (l : Line) (out : List ℕ) (place : ℕ) → l ≡ totals_line s.all → out ≡ put lent at (line_of l) → place ≡ at + width_of l.letter → length out ≡ length lent
      → Laid lent at (totals_lines s) out place grades
  first_laid l out place = let f = totals_fit h.sound.low in line_laid lent at (totals_lines s) h.space lent at (totals_line s.all) grades (none_laid lent at (text_of (totals_lines s))) f.fourteen f.small l out place

-- Where the loop stands: over the buffer with S, the lines of the first i grades are written.
pub record Closed (lent : List ℕ) (from : ℕ) (s : Sums) (out : List ℕ) (place i : ℕ) : Type 0 where
  pub reached : i ≤ grade_count
  pub fits : from + length (text_of (grade_lines 1 s.grades)) ≤ length lent
  pub laid : Laid lent from (grade_lines 1 s.grades) out place (grade_lines (i + 1) (drop i s.grades))

pub none_closed : (before : List ℕ) (at : ℕ) (s : Sums) (lent : List ℕ) (from : ℕ) → Closing s at (length before) → Laid before at (totals_lines s) lent from (grade_lines 1 s.grades)
    → Closed lent from s lent from 0
none_closed before at s lent from h m = record {
  reached = omega arith;
  fits = omega (arith, h.space, m.total, m.same);
  laid = none_laid lent from (text_of (grade_lines 1 s.grades));
}

module _ (before : List ℕ) (at : ℕ) (s : Sums) (h : Closing s at (length before)) (lent : List ℕ) (from : ℕ) (out : List ℕ) (place i : ℕ) (m : Closed lent from s out place i) where
  -- a turn writes the next grade's line
  module _ (k : i < grade_count) where
    pub of_grade_lem : Low (get_or s.grades i no_totals)
    of_grade_lem = grade_low h.sound i (omega (arith, h.four))

    abbrev line : Line
    line = grade_line (i + 1) (get_or s.grades i no_totals)

    abbrev later : List Line
    later = grade_lines (i + 1 + 1) (drop (i + 1) s.grades)

    next_grade : grade_lines (i + 1) (drop i s.grades) ≡ line ∷ later
    next_grade =
        ap (grade_lines (i + 1)) (drop-cons s.grades i no_totals (omega (arith, h.four)))
        ∙ ap (λ (n : ℕ). line ∷ grade_lines (i + 1 + 1) (drop n s.grades)) (sym (add-one i))

    ahead : Laid lent from (grade_lines 1 s.grades) out place (line ∷ later)
    ahead = rw next_grade at m.laid

    fit : Fit line
    fit = grade_fit (omega arith) of_grade_lem

    pub grade_room : writable line place (length out) ≡ true
    grade_room = line_room lent from (grade_lines 1 s.grades) m.fits out place line later ahead fit.fourteen fit.small

    pub grade_turn : (l : Line) (out' : List ℕ) (place' : ℕ) → l ≡ line → out' ≡ put out place (line_of l) → place' ≡ place + width_of l.letter → length out' ≡ length out
        → Closed lent from s out' place' (i + 1)
    grade_turn l out' place' el eo ep en = record {
      reached = omega arith;
      fits = m.fits;
      laid = line_laid lent from (grade_lines 1 s.grades) m.fits out place line later ahead fit.fourteen fit.small l out' place' el eo ep en;
    }

  -- behind the last grade all is written
  module _ (k : grade_count ≤ i) where
    pub closed : Laid before at (totals_lines s) lent from (grade_lines 1 s.grades)
        → (place ≡ at + length (text_of (totals_lines s))) × (out ≡ put before at (text_of (totals_lines s)))
    closed first =
        let none : drop i s.grades ≡ [] = let n : length s.grades ≤ i = omega (arith, h.four) in drop_of_length-le s.grades n in
        let all = all_laid (rw none at m.laid) in
        (all.0 ∙ first.total, all.1 ∙ first.bytes)
