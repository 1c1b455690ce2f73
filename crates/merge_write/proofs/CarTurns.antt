-- The turns of `write_cars`: a line for each entry.
use Prim.Native.Nat.{ℕ, ◌+◌, ◌≤◌, ◌<◌}
use mathlib.Core.Path.{◌≡◌, ap, subst, ◌∙◌}
use mathlib.Core.Bool.{true}
use mathlib.Core.List.{List, [], ◌∷◌, append-nil}
use lib.ListN.{length, get_or, drop, drop_of_length-le}
use Rattle.base.specs.Buffer.{put}
use Rattle.base.specs.Lists.{Each}
use Rattle.reading.specs.declared.letter.Line.{Line}
use Rattle.reading.specs.Letter.{width_of, most_fields}
use Rattle.line.specs.Writing.{line_of, writable, small_to}
use Rattle.grammar.specs.Text.{text_of}
use Rattle.grammar.specs.Grammar.{c_line, CarNumbers}
use Rattle.grammar.proofs.Text.{car_places}
use Rattle.printing.proofs.Laid.{Laid, none_laid, line_room, line_laid, all_laid}
use Rattle.merge_lines.specs.Inner.{Appended}
use Rattle.merge_order.specs.Inner.{place_of}
use Rattle.merge_write.specs.Inner.{car_by, Stands, cars_with, car_lines, CarsReady}
use Rattle.merge_order.proofs.Rest.{drop_next}
use Rattle.merge_lines.specs.declared.read.ReadSheet.{ReadSheet}

car_small : (car : List ℕ) → CarNumbers car → small_to (c_line car).numbers most_fields ≡ true
car_small car h = ap (λ (x : List ℕ). small_to x most_fields) (append-nil car) ∙ h.small

module _ (first second : ReadSheet) (order : List ℕ) where
  -- the lines from entry i on
  abbrev left : ℕ → List Line
  left i = car_lines first second (drop i order)

  pub record CarsLaid (lent : List ℕ) (from : ℕ) (out : List ℕ) (place i : ℕ) : Type 0 where
    pub laid : Laid lent from (left 0) out place (left i)
    pub each : Each CarNumbers (cars_with first second (drop i order))
    pub places : Each (λ entry. Stands (place_of entry)) (drop i order)
    pub space : from + length (text_of (left 0)) ≤ length lent

  pub cars_none : (lent : List ℕ) (at : ℕ) → CarsReady first second order at (length lent) → CarsLaid lent at lent at 0
  cars_none lent at r = record { laid = none_laid lent at (text_of (left 0)); each = r.each; places = r.places; space = r.space }

  module _ (lent : List ℕ) (from : ℕ) (out : List ℕ) (place i : ℕ) (m : CarsLaid lent from out place i) (h : i < length order) where
    abbrev entry : ℕ
    entry = get_or order i 0

    abbrev line : Line
    line = c_line (car_by first second entry)

    next : drop i order ≡ entry ∷ drop (i + 1) order
    next = drop_next order i h

    each_next : Each CarNumbers (car_by first second entry ∷ cars_with first second (drop (i + 1) order))
    each_next = subst (λ (l : List ℕ). Each CarNumbers (cars_with first second l)) next m.each

    places_next : Each (λ entry. Stands (place_of entry)) (entry ∷ drop (i + 1) order)
    places_next = subst (Each (λ entry. Stands (place_of entry))) next m.places

    laid_next : Laid lent from (left 0) out place (line ∷ left (i + 1))
    laid_next = subst (λ (l : List ℕ). Laid lent from (left 0) out place (car_lines first second l)) next m.laid

    pub c_place : Stands (place_of entry)
    c_place = places_next.0

    pub c_room : writable line place (length out) ≡ true
    c_room = line_room lent from (left 0) m.space out place line (left (i + 1)) laid_next (car_places (car_by first second entry) each_next.0) (car_small (car_by first second entry) each_next.0)

    pub c_laid : (l : Line) (out' : List ℕ) (place' : ℕ) → l ≡ line → out' ≡ put out place (line_of l) → place' ≡ place + width_of l.letter → length out' ≡ length out
        → CarsLaid lent from out' place' (i + 1)
    c_laid l out' place' el eo ep en = record {
      laid = line_laid lent from (left 0) m.space out place line (left (i + 1)) laid_next (car_places (car_by first second entry) each_next.0) (car_small (car_by first second entry) each_next.0) l out' place' el eo ep en;
      each = each_next.1;
      places = places_next.1;
      space = m.space;
    }

  pub cars_done : (lent : List ℕ) (from : ℕ) (out : List ℕ) (place i : ℕ) → CarsLaid lent from out place i → length order ≤ i
      → Appended (car_lines first second order) from lent place out
  cars_done lent from out place i m h =
      let none : left i ≡ [] = ap (car_lines first second) (drop_of_length-le order h) in
      all_laid (subst (λ (ls : List Line). Laid lent from (left 0) out place ls) none m.laid)
