-- A line that is read and written again brings its bytes, and a line that is written and read again brings its numbers.
use Prim.Native.Nat.{ℕ, zero, suc, ◌+◌, ◌-◌, ◌*◌, ◌%◌, ◌/◌, ◌≤◌, ◌<◌}
use mathlib.Core.Path.{◌≡◌, refl, ap, sym, ◌∙◌}
use mathlib.Core.Bool.{Bool, true, false, cond}
use mathlib.Core.List.{List, [], ◌∷◌, ◌++◌, append_assoc}
use Rattle.std.specs.Prelude.{Option, Some, Ok}
use native.Mathlib.Nat.{add-zero, zero-add}
use native.Mathlib.Numerals.{add-one}
use native.Mathlib.Omega.{arith}
use lib.ListN.{length, get_or, take, drop, replicate, length-append, length-drop, take-append-drop}
use lib.Seq.{take-add, take_at, take-suc, take-take, drop-cons, drop-drop, drop_at, append_snoc, length-take-le, get_or-drop, get_or-take}
use lib.Dec.{eqb}
use borrow.Author.Tests.{ne_eqb}
use Rattle.base.specs.Buffer.{put}
use Rattle.base.specs.Limits.{largest}
use Rattle.field.specs.Field.{field_at, glyph_of, justified, field_of}
use Rattle.field.proofs.Writing.{length_field_of}
use Rattle.field.proofs.RoundTrip.{written_read, read_written}
use Rattle.reading.specs.declared.letter.Letter.{Letter}
use Rattle.reading.specs.declared.letter.Line.{Line}
use Rattle.reading.specs.declared.Due.{Due}
use Rattle.reading.specs.Letter.{byte_of, count_of, width_of}
use Rattle.reading.specs.Reading.{letter_of, feed, feed_at, field_value, good, values, filled, any, line_at}
use Rattle.line.specs.Alone.{read_line}
use Rattle.line.specs.Writing.{fields_of, line_of, small_to, writable, after_write}
use Rattle.line.specs.RoundTrip.{read_as, WrittenReadsBack, ReadWritesBack}
use Rattle.reading.proofs.Letters.{count_most, plain_letter, from_letter, by_byte}
use Rattle.reading.proofs.Fields.{feed_byte, is_number_lem, good_part, good_at, length_values, value_at}
use Rattle.reading.proofs.Lines.{Opening, line_read, IsLine, is_line}
use Rattle.line.proofs.Bytes.{small_at, small_from, fields_snoc, fields-length, length_line_of, can_write, has_room, line_written, answered}

-- Read and written again.

-- the bytes of k fields that are numbers
fields_bytes : (s : List ℕ) (at k : ℕ) → good s at k ≡ true → take (9 * k) (drop at s) ≡ fields_of (values s at k)
unfolding values fields_of
fields_bytes s at zero g = refl
fields_bytes s at (suc k) g =
    let p = good_part s at k g in
    let n : ℕ = field_value (field_at s (at + 9 * k)) in
    let f = written_read s (at + 9 * k) n (is_number_lem (field_at s (at + 9 * k)) p.1) in
    let e : 9 * suc k ≡ 9 * k + 9 = omega arith in
    ap (λ (i : ℕ). take i (drop at s)) e
    ∙ take-add (9 * k) 9 (drop at s)
    ∙ ap (λ (x : List ℕ). x ++ take 9 (drop (9 * k) (drop at s))) (fields_bytes s at k p.0)
    ∙ ap (λ (x : List ℕ). fields_of (values s at k) ++ take 9 x) (drop-drop (9 * k) at s)
    ∙ ap (λ (x : List ℕ). fields_of (values s at k) ++ x) f.bytes
    ∙ sym (fields_snoc (values s at k) n)

-- what was read are the bytes that are written for it
pub read_bytes : (s : List ℕ) (at : ℕ) (due : Due) (l : Line) → IsLine s at due l.letter l.numbers → take (width_of l.letter) (drop at s) ≡ line_of l
unfolding line_of
read_bytes s at due l h =
    let k : ℕ = count_of l.letter in
    let p : feed_at s at - at ≡ 1 + 9 * k = h.place in
    let w = h.within in
    let d : length (drop at s) ≡ length s - at = length-drop at s in
    let v : take k l.numbers ≡ values s (at + 1) k = ap (λ (x : List ℕ). take k x) h.are ∙ take_at (values s (at + 1) k) (replicate (14 - k) 0) k (length_values s (at + 1) k) in
    let fs : take (9 * k) (drop (at + 1) s) ≡ fields_of (take k l.numbers) = fields_bytes s (at + 1) k h.fields ∙ ap fields_of (sym v) in
    let q : feed_at s at ≡ at + 1 + 9 * k = omega arith in
    let nl : get_or s (at + 1 + 9 * k) 0 ≡ 10 = ap (λ (i : ℕ). get_or s i 0) (sym q) ∙ feed_byte s at w in
    let b : get_or s at 0 ≡ byte_of l.letter = from_letter due (get_or s at 0) l.letter h.found in
    let e : 2 + 9 * k ≡ suc (9 * k + 1) = omega arith in
    ap (λ (i : ℕ). take i (drop at s)) e
    ∙ ap (λ (x : List ℕ). take (suc (9 * k + 1)) x) (drop-cons s at 0 (omega arith))
    ∙ ap (λ (i : ℕ). get_or s at 0 ∷ take (9 * k + 1) (drop i s)) (sym (add-one at))
    ∙ ap (λ (x : List ℕ). get_or s at 0 ∷ x) (take-add (9 * k) 1 (drop (at + 1) s))
    ∙ ap (λ (x : List ℕ). get_or s at 0 ∷ (take (9 * k) (drop (at + 1) s) ++ take 1 x)) (drop-drop (9 * k) (at + 1) s ∙ drop-cons s (at + 1 + 9 * k) 0 (omega arith))
    ∙ ap (λ (x : ℕ). get_or s at 0 ∷ (take (9 * k) (drop (at + 1) s) ++ (x ∷ []))) nl
    ∙ ap (λ (x : List ℕ). get_or s at 0 ∷ (x ++ (10 ∷ []))) fs
    ∙ ap (λ (x : ℕ). x ∷ (fields_of (take k l.numbers) ++ (10 ∷ []))) b

-- the numbers of a line that was read are small enough to be written
pub read_small : (s : List ℕ) (at : ℕ) (due : Due) (l : Letter) (ns : List ℕ) → IsLine s at due l ns → small_to ns (count_of l) ≡ true
read_small s at due l ns h =
    let k : ℕ = count_of l in
    small_from ns k
    (λ j i.
    let n : ℕ = field_value (field_at s (at + 1 + 9 * j)) in
    let e : get_or ns j 0 ≡ n = ap (λ (x : List ℕ). get_or x j 0) h.are ∙ value_at s (at + 1) k j (replicate (14 - k) 0) i in
    rw e (written_read s (at + 1 + 9 * j) n (good_at s (at + 1) k j h.fields i)).small)

pub read_writes_back : (s : List ℕ) → ReadWritesBack s (read_line s)
read_writes_back s = record {
  width = λ line room z h. sym (answered line 0 room (fits line room z h));
  bytes = λ line lent z h. sym (line_written line 0 lent (fits line (length lent) z h)) ∙ ap (λ (x : List ℕ). put lent 0 x) (sym (read_bytes s 0 any line (is_line s 0 any line z)));
}
  where
    fits : (line : Line) (room : ℕ) → read_line s ≡ Ok line → width_of line.letter ≤ room → writable line 0 room ≡ true
    fits line room z h = can_write line 0 room (omega arith) (read_small s 0 any line.letter line.numbers (is_line s 0 any line z))

-- Written and read again.

-- no byte of a list is a line feed
Plain : List ℕ → Type 0
Plain [] = Unit {0}
Plain (b ∷ l) = (b ≡ 10 → ⊥) × Plain l

plain_append : (xs ys : List ℕ) → Plain xs → Plain ys → Plain (xs ++ ys)
unfolding Plain
plain_append [] ys p q = q
plain_append (x ∷ xs) ys p q = (p.0, plain_append xs ys p.1 q)

feed_skip : (xs r : List ℕ) → Plain xs → feed (xs ++ r) ≡ length xs + feed r
unfolding Plain feed
feed_skip [] r p = sym (zero-add (feed r))
feed_skip (x ∷ xs) r p = simp (ne_eqb x 10 p.0) (ap suc (feed_skip xs r p.1) ∙ omega arith)

plain_glyph : (n : ℕ) → glyph_of n ≡ 10 → ⊥
plain_glyph n = go (eqb n 0)
  where
    go : (t : Bool) → cond t 32 (48 + n % 10) ≡ 10 → ⊥
    go true e = omega arith
    go false e = omega arith

plain_justified : (k n : ℕ) → Plain (justified k n)
unfolding Plain justified
plain_justified zero n = tt
plain_justified (suc k) n = plain_append (justified k (n / 10)) (glyph_of n ∷ []) (plain_justified k (n / 10)) (plain_glyph n, tt)

plain_field : (n : ℕ) → Plain (field_of n)
unfolding Plain field_of
plain_field n = plain_append (justified 8 (n / 10)) ((48 + n % 10) ∷ []) (plain_justified 8 (n / 10)) ((λ e. omega arith), tt)

plain_fields : (ns : List ℕ) → Plain (fields_of ns)
unfolding Plain fields_of
plain_fields [] = tt
plain_fields (n ∷ ns) = plain_append (field_of n) (fields_of ns) (plain_field n) (plain_fields ns)

-- field j of a run of fields
field_of_lem : (ns post : List ℕ) (j : ℕ) → j < length ns → take 9 (drop (9 * j) (fields_of ns ++ post)) ≡ field_of (get_or ns j 0)
unfolding fields_of
field_of_lem [] post j h = absurd (omega arith)
field_of_lem (n ∷ ns) post zero h =
    ap (λ (x : List ℕ). take 9 x) (append_assoc (field_of n) (fields_of ns) post)
    ∙ take_at (field_of n) (fields_of ns ++ post) 9 (length_field_of n)
field_of_lem (n ∷ ns) post (suc j) h =
    let e : 9 * suc j ≡ 9 + 9 * j = omega arith in
    ap (λ (i : ℕ). take 9 (drop i (field_of n ++ fields_of ns ++ post))) e
    ∙ ap (λ (x : List ℕ). take 9 x)
    (sym (drop-drop (9 * j) 9 (field_of n ++ fields_of ns ++ post))
    ∙ ap (λ (x : List ℕ). drop (9 * j) (drop 9 x)) (append_assoc (field_of n) (fields_of ns) post)
    ∙ ap (λ (x : List ℕ). drop (9 * j) x) (drop_at (field_of n) (fields_of ns ++ post) 9 (length_field_of n)))
    ∙ field_of_lem ns post j (omega arith)

-- fields that each read as a number
all_read : (s : List ℕ) (at : ℕ) (ns : List ℕ) → ((j : ℕ) → j < length ns → field_at s (at + 9 * j) ≡ Some (get_or ns j 0))
    → (k : ℕ) → k ≤ length ns → (good s at k ≡ true) × (values s at k ≡ take k ns)
unfolding good values
all_read s at ns f zero h = (refl, refl)
all_read s at ns f (suc k) h =
    let r = all_read s at ns f k (omega arith) in
    let e = f k h in
    (simp (r.0, e), ap (λ (x : List ℕ). x ++ (field_value (field_at s (at + 9 * k)) ∷ [])) r.1 ∙ ap (λ (x : Option ℕ). take k ns ++ (field_value x ∷ [])) e ∙ sym (take-suc ns k 0 h))

-- a line whose bytes stand at a place of s
module _ (s : List ℕ) (at : ℕ) (l : Line) (post : List ℕ) (n : length l.numbers ≡ 14) (d : drop at s ≡ line_of l ++ post) where
  bytes : drop at s ≡ byte_of l.letter ∷ (fields_of (take (count_of l.letter) l.numbers) ++ (10 ∷ post))
  unfolding line_of
  bytes = d ∙ ap (λ (x : List ℕ). byte_of l.letter ∷ x) (append_snoc (fields_of (take (count_of l.letter) l.numbers)) 10 post)

  count : length (take (count_of l.letter) l.numbers) ≡ count_of l.letter
  count = length-take-le (count_of l.letter) l.numbers (omega (arith, count_most l.letter))

  columns : length (fields_of (take (count_of l.letter) l.numbers)) ≡ 9 * count_of l.letter
  columns = fields-length l.numbers (count_of l.letter) (omega (arith, count_most l.letter))

  feed_there : feed_at s at ≡ at + (1 + 9 * count_of l.letter)
  unfolding feed_at feed Plain
  feed_there =
      let xs : List ℕ = byte_of l.letter ∷ fields_of (take (count_of l.letter) l.numbers) in
      ap (λ (x : List ℕ). at + feed x) bytes
      ∙ ap (λ (i : ℕ). at + i)
      (feed_skip xs (10 ∷ post) (plain_letter l.letter, plain_fields (take (count_of l.letter) l.numbers))
      ∙ omega (arith, columns))

  inside : at + (1 + 9 * count_of l.letter) < length s
  inside = omega (arith, sym (length-drop at s) ∙ ap length bytes ∙ ap suc (length-append (fields_of (take (count_of l.letter) l.numbers)) (10 ∷ post)), columns)

  first_byte : get_or s at 0 ≡ byte_of l.letter
  first_byte = ap (λ (i : ℕ). get_or s i 0) (sym (add-zero at)) ∙ sym (get_or-drop at s 0 0) ∙ ap (λ (x : List ℕ). get_or x 0 0) bytes

  field_there : small_to l.numbers (count_of l.letter) ≡ true
      → (j : ℕ) → j < length (take (count_of l.letter) l.numbers) → field_at s (at + 1 + 9 * j) ≡ Some (get_or (take (count_of l.letter) l.numbers) j 0)
  field_there small j h =
      let ns : List ℕ = take (count_of l.letter) l.numbers in
      let i : j < count_of l.letter = omega (arith, count) in
      let le : get_or ns j 0 ≤ largest = rw (get_or-take (count_of l.letter) l.numbers j 0 i) (small_at l.numbers (count_of l.letter) small j i) in
      read_written s (at + 1 + 9 * j) (get_or ns j 0) le
      (ap (λ (x : List ℕ). take 9 x)
      (sym (drop-drop (9 * j) (at + 1) s)
      ∙ ap (λ (x : List ℕ). drop (9 * j) x) (sym (drop-drop 1 at s) ∙ ap (λ (x : List ℕ). drop 1 x) bytes))
      ∙ field_of_lem ns (10 ∷ post) j h)

-- what is written for a line reads as its letter and numbers
pub bytes_read : (s : List ℕ) (at : ℕ) (due : Due) (l : Line) → letter_of (byte_of l.letter) due ≡ Some l.letter → small_to l.numbers (count_of l.letter) ≡ true
    → length l.numbers ≡ 14 → take (width_of l.letter) (drop at s) ≡ line_of l → line_at s at due ≡ read_as l
bytes_read s at due l f small n t =
    let k : ℕ = count_of l.letter in
    let ns : List ℕ = take k l.numbers in
    let post : List ℕ = drop (width_of l.letter) (drop at s) in
    let d : drop at s ≡ line_of l ++ post = sym (take-append-drop (width_of l.letter) (drop at s)) ∙ ap (λ (x : List ℕ). x ++ post) t in
    let h : Opening s at due (at + (1 + 9 * k)) l.letter k =
    record {
      place = sym (feed_there s at l post n d);
      within = inside s at l post n d;
      found = sym (ap (λ (b : ℕ). letter_of b due) (first_byte s at l post n d) ∙ f);
      count = refl;
    } in
    let r = all_read s (at + 1) ns (field_there s at l post n d small) k (omega (arith, count s at l post n d)) in
    let v : values s (at + 1) k ≡ ns = r.1 ∙ take-take k k l.numbers (omega arith) in
    line_read s at due (at + (1 + 9 * k)) l.letter k h (omega arith) (filled (values s (at + 1) k) k) (simp r.0)
    ∙ ap (λ (x : List ℕ). Ok (record { letter = l.letter; numbers = filled x k })) v

pub written_reads_back : (l : Line) (lent : List ℕ) → length l.numbers ≡ 14 → WrittenReadsBack l lent (after_write l 0 lent)
written_reads_back l lent n = record {
  numbers = λ f e.
      let p = has_room l 0 (length lent) e in
      ap read_line (sym (line_written l 0 lent e))
      ∙ bytes_read (put lent 0 (line_of l)) 0 any l (by_byte l.letter ∙ simp f) p.1 n (take_at (line_of l) (drop (0 + length (line_of l)) lent) (width_of l.letter) (length_line_of l n));
}
