-- How the cars that a sheet holds lie in arrays, by their numbers and by which lines they are; it is no part of what a sheet holds.
use Rattle.std.specs.Prelude.{ℕ, ◌+◌, ◌≤◌, ◌<◌, ◌≡◌, cond, ◌||◌, List, [], ◌∷◌, ◌++◌, map, leb, length, take}
use Rattle.base.specs.Limits.{largest, most_cars, most_car_lines, most_strikes}
use Rattle.base.specs.Lists.{Each}
use Rattle.base.specs.Numbers.{outside, member}
use Rattle.consist.specs.Train.{position, remove_at}
use Rattle.holding.specs.Layout.{history_of}
use Rattle.merge_spec.specs.Held.{number_of}
use Rattle.merge_spec.specs.Inner.{kept_from}
use Rattle.merge_order.specs.Inner.{car_in}
use Rattle.merge_lines.specs.declared.read.ReadSheet.{ReadSheet}
use Rattle.merge_held.specs.declared.Held.{Held}

-- how many lines stand behind the tables at most
abbrev pub most_lines : ℕ
most_lines = most_car_lines + most_strikes

-- two arrays of sixty, of which the first `count` are held
pub record Rows (numbers places : List ℕ) (count : ℕ) : Type 0 where
  pub few : count ≤ most_cars
  pub first : length numbers ≡ most_cars
  pub second : length places ≡ most_cars

-- l with x behind it, unless 9, 10 or 11 turns away a car of this number behind those
abbrev pub one_more : List ℕ → ℕ → List ℕ → ℕ → List ℕ
one_more numbers number l x = cond (leb most_cars (length numbers) || outside 1 largest number || member number numbers) l (l ++ (x ∷ []))

-- l without what stands where the number is among those
abbrev pub one_less : List ℕ → ℕ → List ℕ → List ℕ
one_less numbers number l = cond (member number numbers) (remove_at (position number numbers) l) l

-- the cars held on a sheet, one after another
abbrev pub cars_at : ReadSheet → Held → List (List ℕ)
cars_at s h = map (car_in s.fields.now) (take h.count h.places)

-- they are those that the lines of the sheet keep
pub record HeldIn (s : ReadSheet) (h : Held) : Type 0 where
  pub few : h.count ≤ most_cars
  pub lines : cars_at s h ≡ kept_from [] (history_of s.fields.now s.lines)
  pub numbers : take h.count h.numbers ≡ map number_of (cars_at s h)
  pub places : Each (λ p. p < most_lines) (take h.count h.places)
