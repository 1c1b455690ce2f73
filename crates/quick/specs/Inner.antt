-- What inner functions read and promise; it is no part of what a field means.
use Rattle.std.specs.Prelude.{ℕ, ◌+◌, ◌-◌, ◌*◌, ◌≤◌, ◌≡◌, List, get_or}
use Rattle.field.specs.declared.Seen.{Seen}
use Rattle.field.specs.declared.Seen.TheVariants.{Blank, Digits}
use Rattle.field.specs.Field.{column_of}
use Rattle.quick.specs.declared.Four.{Four}

-- the four columns behind the first of the field at `at`, and its last four
abbrev pub first_four : List ℕ → ℕ → Four
first_four s at = record { a = get_or s (at + 1) 0; b = get_or s (at + 2) 0; c = get_or s (at + 3) 0; d = get_or s (at + 4) 0 }

abbrev pub last_four : List ℕ → ℕ → Four
last_four s at = record { a = get_or s (at + 5) 0; b = get_or s (at + 6) 0; c = get_or s (at + 7) 0; d = get_or s (at + 8) 0 }

-- m is n, which is not below `least` and stands behind two spaces
pub record BehindSpaces (a b least n m : ℕ) : Type 0 where
  pub same : m ≡ n
  pub enough : least ≤ n
  pub first : a ≡ 32
  pub second : b ≡ 32

-- four bytes are the digits of n, which is not below `least`
pub record DigitsOf (least a b c d n : ℕ) : Type 0 where
  pub digits : (48 ≤ a) × (a ≤ 57) × (48 ≤ b) × (b ≤ 57) × (48 ≤ c) × (c ≤ 57) × (48 ≤ d) × (d ≤ 57)
  pub value : n ≡ 1_000 * (a - 48) + 100 * (b - 48) + 10 * (c - 48) + (d - 48)
  pub enough : least ≤ n

-- what is seen past two columns, and past four
abbrev pub past_two : Seen → ℕ → ℕ → Seen
past_two x c d = column_of (column_of x c) d

abbrev pub past_four : Seen → Four → Seen
past_four x f = past_two (past_two x f.a f.b) f.c f.d

-- behind spaces, four columns hold n
abbrev pub ShortOf : Four → ℕ → Type 0
ShortOf f n = past_four Blank f ≡ Digits n

-- behind spaces, two columns hold n, which is not 0
pub record HighOf (c d n : ℕ) : Type 0 where
  pub seen : past_two Blank c d ≡ Digits n
  pub some : 1 ≤ n
  pub most : n ≤ 99
