-- The letters: T, R, C, K, E of a sheet and A, X, S, G, Z of an answer, which has K lines too, with their bytes and the number of fields of their lines.
use Rattle.std.specs.Prelude.{ℕ, ◌+◌, ◌*◌, Bool, true, false}
use Rattle.field.specs.Field.{columns}
use Rattle.reading.specs.declared.letter.Letter.{Letter}
use Rattle.reading.specs.declared.letter.Letter.TheVariants.{Table, Row, Car, Strike, End, CarAccepted, CarRefused, Totals, GradeTotals, SheetRefused}

abbrev pub byte_of : Letter → ℕ
byte_of Table = 84
byte_of Row = 82
byte_of Car = 67
byte_of Strike = 75
byte_of End = 69
byte_of CarAccepted = 65
byte_of CarRefused = 88
byte_of Totals = 83
byte_of GradeTotals = 71
byte_of SheetRefused = 90

-- T, R, C, K and E are a sheet's, the others an answer's alone
abbrev pub of_sheet : Letter → Bool
of_sheet Table = true
of_sheet Row = true
of_sheet Car = true
of_sheet Strike = true
of_sheet End = true
of_sheet CarAccepted = false
of_sheet CarRefused = false
of_sheet Totals = false
of_sheet GradeTotals = false
of_sheet SheetRefused = false

-- how many fields
abbrev pub count_of : Letter → ℕ
count_of Table = 2
count_of Row = 2
count_of Car = 14
count_of Strike = 1
count_of End = 1
count_of CarAccepted = 6
count_of CarRefused = 2
count_of Totals = 3
count_of GradeTotals = 4
count_of SheetRefused = 2

-- the line's length in bytes: the letter, its fields, and the line feed
abbrev pub width_of : Letter → ℕ
width_of letter = 2 + columns * count_of letter

-- the most fields that a letter has: a line's value has as many places
abbrev pub most_fields : ℕ
most_fields = 14
