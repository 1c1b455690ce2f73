-- Laws of letters: what a test that is computed over all of them gives for each, and what is known of a letter that is found.
use Prim.Native.Nat.{ℕ, ◌≤◌}
use mathlib.Core.Path.{◌≡◌, refl, ap, sym, ◌∙◌}
use mathlib.Core.Bool.{Bool, true, false, cond, not, true≢false}
use mathlib.Core.List.{List, [], ◌∷◌}
use mathlib.Core.Logic.{inl, inr}
use Rattle.std.specs.Prelude.{Some, None}
use lib.Dec.{leb, eqb}
use borrow.Author.Tests.{leb-true, eqb-true, eqb-false, not-true}
use denote.Struct.Field.{Field}
use denote.Enum.Declared.{Choice, Record}
use Rattle.base.specs.Lists.{Each}
use Rattle.base.proofs.Choice.{both, never}
use Rattle.reading.specs.declared.letter.Letter.{Letter}
use Rattle.reading.specs.declared.letter.Letter.TheVariants.{Table, Row, Car, Strike, End, CarAccepted, CarRefused, Totals, GradeTotals, SheetRefused}
use Rattle.reading.specs.declared.Due.{Due}
use Rattle.reading.specs.Letter.{byte_of, of_sheet, count_of, most_fields}
use Rattle.reading.specs.Reading.{Candidate, letter_if, letter_among, sheet_letters, letter_of, any}
use Rattle.reading.specs.contracts.letter.Letter.{enum}

-- A test of every value of an enum whose variants hold nothing: its declaration is the list of them all.

abbrev every : (Fss : List (List Field)) → (Choice Fss → Bool) → Bool
every [] test = true
every ([] ∷ Fss) test = cond (test (inl tt)) (every Fss (λ c. test (inr c))) false
every ((F ∷ Fs) ∷ Fss) test = false

every_at : (Fss : List (List Field)) (test : Choice Fss → Bool) → every Fss test ≡ true → (c : Choice Fss) → test c ≡ true
every_at [] test e c = absurd c
every_at ([] ∷ Fss) test e (inl v) = (both (test (inl tt)) (every Fss (λ c. test (inr c))) e).0
every_at ([] ∷ Fss) test e (inr c) = every_at Fss (λ c. test (inr c)) (both (test (inl tt)) (every Fss (λ c. test (inr c))) e).1 c
every_at ((F ∷ Fs) ∷ Fss) test e c = absurd (true≢false (sym e))

module _ (N : Record) (test : N.D → Bool) where
  each_value : every N.parts (λ c. test (N.make c)) ≡ true → (d : N.D) → test d ≡ true
  each_value e d = ap test (sym (N.eta d)) ∙ every_at N.parts (λ c. test (N.make c)) e (N.as_values d)

-- The one test of all letters: the fields have places, and the byte is no line feed.

sound : Letter → Bool
sound l = cond (leb (count_of l) most_fields) (not (eqb (byte_of l) 10)) false

all_sound : (l : Letter) → (leb (count_of l) most_fields ≡ true) × (not (eqb (byte_of l) 10) ≡ true)
unfolding sound
all_sound l = both (leb (count_of l) most_fields) (not (eqb (byte_of l) 10)) (each_value enum sound refl l)

pub count_most : (l : Letter) → count_of l ≤ most_fields
count_most l = leb-true (count_of l) most_fields (all_sound l).0

pub plain_letter : (l : Letter) → byte_of l ≡ 10 → ⊥
plain_letter l = eqb-false (byte_of l) 10 (not-true (eqb (byte_of l) 10) (all_sound l).1)

-- A letter that is found has what each candidate has that bears the byte and is due.

module _ (P : Letter → Type 0) (b : ℕ) (l : Letter) where
  among : (cs : List Candidate) → Each (λ c. b ≡ byte_of c.letter → c.due ≡ true → P c.letter) cs → letter_among b cs ≡ Some l → P l
  among [] h e = never (cc)
  among (c ∷ cs) (h, hs) e = go (among cs hs) (eqb b (byte_of c.letter)) refl c.due refl e
    where
      go : (letter_among b cs ≡ Some l → P l)
          → (t : Bool) → eqb b (byte_of c.letter) ≡ t → (u : Bool) → c.due ≡ u → cond t (letter_if u c.letter) (letter_among b cs) ≡ Some l → P l
      go later true f true d e = let same : c.letter ≡ l = cc in rw same at (h (eqb-true b (byte_of c.letter) f) d)
      go later true f false d e = never (cc)
      go later false f u d e = later e

  pub found : (due : Due) → Each (λ c. b ≡ byte_of c.letter → c.due ≡ true → P c.letter) (sheet_letters due) → letter_of b due ≡ Some l → P l
  unfolding letter_of
  found due = among (sheet_letters due)

-- so it bears the byte
pub from_letter : (due : Due) (b : ℕ) (l : Letter) → letter_of b due ≡ Some l → b ≡ byte_of l
from_letter due b l = found (λ m. b ≡ byte_of m) b l due (all (sheet_letters due))
  where
    all : (cs : List Candidate) → Each (λ c. b ≡ byte_of c.letter → c.due ≡ true → b ≡ byte_of c.letter) cs
    all [] = tt
    all (c ∷ cs) = ((λ e d. e), all cs)

-- a letter of a sheet is found by its byte, where any may come, and an answer's is not
pub by_byte : (l : Letter) → letter_of (byte_of l) any ≡ cond (of_sheet l) (Some l) None
unfolding letter_of
by_byte Table = refl
by_byte Row = refl
by_byte Car = refl
by_byte Strike = refl
by_byte End = refl
by_byte CarAccepted = refl
by_byte CarRefused = refl
by_byte Totals = refl
by_byte GradeTotals = refl
by_byte SheetRefused = refl
