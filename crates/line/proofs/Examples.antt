-- Worked examples, computed: the first car of document 01's sheet, a strike of it, a leading zero, and a line with a carriage return.
use Prim.Native.Nat.{ℕ}
use mathlib.Core.Path.{◌≡◌, refl}
use mathlib.Core.List.{List, [], ◌∷◌}
use Rattle.std.specs.Prelude.{Err}
use lib.ListN.{replicate}
use Rattle.base.specs.declared.refusal.Refusal.TheVariants.{NoLine, LineLength, NotNumber}
use Rattle.field.specs.Field.{seen_to, field_at, justified, field_of}
use Rattle.reading.specs.declared.letter.Letter.TheVariants.{Row, Car, Strike}
use Rattle.reading.specs.Reading.{letter_of, feed, feed_at, good, values, line_by, line_at}
use Rattle.line.specs.Alone.{read_line}
use Rattle.line.specs.RoundTrip.{read_as}
use Rattle.line.specs.Writing.{fields_of, line_of}

first_car : List ℕ
first_car = 50_000_001 ∷ 1 ∷ 3 ∷ 1 ∷ 2 ∷ 1_500 ∷ 1_500 ∷ 0 ∷ 0 ∷ 0 ∷ 600 ∷ 9_500 ∷ 50 ∷ 20 ∷ []

car_read : read_line (line_of (record { letter = Car; numbers = first_car })) ≡ read_as (record { letter = Car; numbers = first_car })
unfolding first_car fields_of justified field_of line_of seen_to field_at letter_of feed feed_at good values line_by line_at
car_read = refl

-- "K 50000001" as bytes, read and written
strike_bytes : List ℕ
strike_bytes = 75 ∷ 32 ∷ 53 ∷ 48 ∷ 48 ∷ 48 ∷ 48 ∷ 48 ∷ 48 ∷ 49 ∷ 10 ∷ []

strike_written : line_of (record { letter = Strike; numbers = 50_000_001 ∷ replicate 13 0 }) ≡ strike_bytes
unfolding strike_bytes fields_of justified field_of line_of
strike_written = refl

strike_read : read_line strike_bytes ≡ read_as (record { letter = Strike; numbers = 50_000_001 ∷ replicate 13 0 })
unfolding strike_bytes seen_to field_at letter_of feed feed_at good values line_by line_at
strike_read = refl

-- "R     1000    20000" as bytes
row : line_of (record { letter = Row; numbers = 1_000 ∷ 20_000 ∷ replicate 12 0 })
    ≡ 82 ∷ 32 ∷ 32 ∷ 32 ∷ 32 ∷ 32 ∷ 49 ∷ 48 ∷ 48 ∷ 48 ∷ 32 ∷ 32 ∷ 32 ∷ 32 ∷ 50 ∷ 48 ∷ 48 ∷ 48 ∷ 48 ∷ 10 ∷ []
unfolding fields_of justified field_of line_of
row = refl

-- "E" and the field "      002"
leading_zero : read_line (69 ∷ 32 ∷ 32 ∷ 32 ∷ 32 ∷ 32 ∷ 32 ∷ 48 ∷ 48 ∷ 50 ∷ 10 ∷ []) ≡ Err NotNumber
unfolding seen_to field_at letter_of feed feed_at good values line_by line_at
leading_zero = refl

carriage_return : read_line (69 ∷ 32 ∷ 32 ∷ 32 ∷ 32 ∷ 32 ∷ 32 ∷ 32 ∷ 32 ∷ 50 ∷ 13 ∷ 10 ∷ []) ≡ Err LineLength
unfolding letter_of feed feed_at line_by line_at
carriage_return = refl

-- "hello" with no line feed is 3, whatever its letter
no_feed : read_line (104 ∷ 101 ∷ 108 ∷ 108 ∷ 111 ∷ []) ≡ Err NoLine
unfolding feed feed_at line_at
no_feed = refl
