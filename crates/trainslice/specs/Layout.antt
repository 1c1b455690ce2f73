-- How a train lies in a slice of numbers, and what is handed back in one.
use Rattle.std.specs.Prelude.{ℕ, ◌+◌, ◌*◌, ◌/◌, ◌%◌, ◌≡◌, Bool, true, cond, ◌&&◌, List, [], ◌∷◌, ◌++◌, get_or, take, drop}
use Rattle.base.specs.Limits.{most_cars, grade_count}
use Rattle.summing.specs.declared.Totals.{Totals}
use Rattle.summing.specs.declared.Sums.{Sums}
use Rattle.consist.specs.Train.{Train}
use Rattle.marshalling.specs.Handed.{length_is}
use Rattle.marshalling.specs.Layout.{car_sized}

-- Totals: accepted cars, gross and net in kg, each as a low and a high half of 32 bits.

abbrev pub half : ℕ
half = 4_294_967_296

abbrev pub joined : ℕ → ℕ → ℕ
joined low high = low + half * high

abbrev pub totals_places : ℕ
totals_places = 5

-- those that lie from a place on
abbrev pub totals_at : List ℕ → ℕ → Totals
totals_at l at = record {
  accepted = get_or l at 0;
  gross = joined (get_or l (at + 1) 0) (get_or l (at + 2) 0);
  net = joined (get_or l (at + 3) 0) (get_or l (at + 4) 0);
}

abbrev pub totals_numbers : Totals → List ℕ
totals_numbers t = t.accepted ∷ t.gross % half ∷ t.gross / half ∷ t.net % half ∷ t.net / half ∷ []

-- A train: the totals of all cars and of each grade, then how many cars it holds, then sixty places for their numbers, sixty for their grades, sixty for their
-- gross and sixty for their net masses.

abbrev pub sums_places : ℕ
sums_places = totals_places + grade_count * totals_places

abbrev pub train_places : ℕ
train_places = sums_places + 1 + 4 * most_cars

abbrev pub sums_of : List ℕ → Sums
sums_of l = record { all = totals_at l 0; grades = totals_at l 5 ∷ totals_at l 10 ∷ totals_at l 15 ∷ totals_at l 20 ∷ [] }

-- a row of sixty that lies from a place on
abbrev pub row_at : List ℕ → ℕ → List ℕ
row_at l at = take most_cars (drop at l)

abbrev pub train_of : List ℕ → Train
train_of l = record { sums = sums_of l; held = get_or l sums_places 0; numbers = row_at l 26; grades = row_at l 86; grosses = row_at l 146; nets = row_at l 206 }

abbrev pub grades_numbers : List Totals → List ℕ
grades_numbers [] = []
grades_numbers (t ∷ ts) = totals_numbers t ++ grades_numbers ts

abbrev pub sums_numbers : Sums → List ℕ
sums_numbers s = totals_numbers s.all ++ grades_numbers s.grades

abbrev pub train_numbers : Train → List ℕ
train_numbers t = sums_numbers t.sums ++ (t.held ∷ (t.numbers ++ (t.grades ++ (t.grosses ++ t.nets))))

-- the lengths of a train and of a car of so many numbers with its tables
unfoldable pub train_sized : ℕ → List ℕ → List ℕ → List ℕ → List ℕ → List ℕ → List ℕ → List ℕ → Bool
train_sized fields train types rows levels capacities car figures =
    length_is train_places train && car_sized fields types rows levels capacities car figures

-- the train t handed back, in the lent numbers where the lengths are right; the next call reads t from them, and a train that was
-- not changed is left number by number
pub record TrainHanded (right : Bool) (t : Train) (lent left : List ℕ) : Type 0 where
  pub numbers : left ≡ cond right (train_numbers t) lent
  pub again : right ≡ true → train_of left ≡ t
  pub unchanged : t ≡ train_of lent → left ≡ lent
