-- Laws of writing a line: its bytes as the loop writes them, and whether it can be written.
use Prim.Native.Nat.{ℕ, zero, suc, ◌+◌, ◌*◌, ◌≤◌, ◌<◌}
use mathlib.Core.Path.{◌≡◌, refl, ap, sym, ◌∙◌}
use mathlib.Core.Bool.{Bool, true, false, cond}
use mathlib.Core.Logic.{⊎_elim}
use mathlib.Core.List.{List, [], ◌∷◌, ◌++◌, append_assoc, append-nil}
use native.Mathlib.Numerals.{add-one}
use native.Mathlib.Omega.{arith}
use lib.ListN.{length, set, get_or, take, length-append}
use lib.Seq.{take-suc, length-take-le}
use lib.Dec.{leb}
use borrow.Author.Tests.{le-leb, lt-leb, leb-true}
use Rattle.base.specs.Answer.{refusal, figures}
use Rattle.base.specs.Buffer.{put}
use Rattle.base.specs.Limits.{largest}
use Rattle.base.proofs.Choice.{below, cond_same, both}
use Rattle.base.proofs.Buffer.{put_put, set_put, length_put}
use Rattle.field.specs.Field.{field_of, after_field}
use Rattle.field.proofs.Writing.{length_field_of, field_written}
use Rattle.reading.specs.declared.letter.Line.{Line}
use Rattle.reading.specs.Letter.{byte_of, count_of, width_of}
use Rattle.line.specs.Writing.{fields_of, line_of, small_to, writable, write_answer, after_write}
use Rattle.reading.proofs.Letters.{count_most}

-- Small numbers.

pub small_more : (ns : List ℕ) (j : ℕ) → small_to ns j ≡ true → get_or ns j 0 ≤ largest → small_to ns (j + 1) ≡ true
unfolding small_to
small_more ns j g h = ap (λ (k : ℕ). small_to ns k) (add-one j) ∙ simp (g, le-leb (get_or ns j 0) largest h)

pub large_stays : (ns : List ℕ) (j k : ℕ) → j < k → largest < get_or ns j 0 → small_to ns k ≡ false
unfolding small_to
large_stays ns j zero h l = absurd (omega arith)
large_stays ns j (suc k) h l =
    ⊎_elim
    (λ (m : j < k). ap (λ (t : Bool). cond t (leb (get_or ns k 0) largest) false) (large_stays ns j k m l))
    (λ (m : k ≤ j).
    let p : j ≡ k = omega arith in
    ap (λ (t : Bool). cond (small_to ns k) t false) (lt-leb (get_or ns k 0) largest (rw p at l)) ∙ cond_same (small_to ns k) false)
    (below j k)

pub small_done : (ns : List ℕ) (j k : ℕ) → j ≤ k → k ≤ j → small_to ns j ≡ true → true ≡ small_to ns k
small_done ns j k h h' g = let p : j ≡ k = omega arith in sym (rw p at g)

pub small_at : (ns : List ℕ) (k : ℕ) → small_to ns k ≡ true → (j : ℕ) → j < k → get_or ns j 0 ≤ largest
unfolding small_to
small_at ns zero e j h = absurd (omega arith)
small_at ns (suc k) e j h =
    let p = both (small_to ns k) (leb (get_or ns k 0) largest) e in
    ⊎_elim
    (λ (i : j < k). small_at ns k p.0 j i)
    (λ (i : k ≤ j). let q : k ≡ j = omega arith in rw q at (leb-true (get_or ns k 0) largest p.1))
    (below j k)

pub small_from : (ns : List ℕ) (k : ℕ) → ((j : ℕ) → j < k → get_or ns j 0 ≤ largest) → small_to ns k ≡ true
unfolding small_to
small_from ns zero f = refl
small_from ns (suc k) f = simp (small_from ns k (λ j h. f j (omega arith)), le-leb (get_or ns k 0) largest (f k (omega arith)))

-- The fields of a line.

length_fields_of : (ns : List ℕ) → length (fields_of ns) ≡ 9 * length ns
unfolding fields_of
length_fields_of [] = refl
length_fields_of (n ∷ ns) = rw (length-append, length_field_of n, length_fields_of ns) (omega arith)

pub fields_snoc : (ns : List ℕ) (n : ℕ) → fields_of (ns ++ (n ∷ [])) ≡ fields_of ns ++ field_of n
unfolding fields_of
fields_snoc [] n = append-nil (field_of n)
fields_snoc (m ∷ ns) n = ap (λ (x : List ℕ). field_of m ++ x) (fields_snoc ns n) ∙ sym (append_assoc (field_of m) (fields_of ns) (field_of n))

fields_more : (ns : List ℕ) (j : ℕ) → j < length ns → fields_of (take (j + 1) ns) ≡ fields_of (take j ns) ++ field_of (get_or ns j 0)
fields_more ns j h =
    ap (λ (k : ℕ). fields_of (take k ns)) (add-one j)
    ∙ ap fields_of (take-suc ns j 0 h)
    ∙ fields_snoc (take j ns) (get_or ns j 0)

pub fields-length : (ns : List ℕ) (j : ℕ) → j ≤ length ns → length (fields_of (take j ns)) ≡ 9 * j
fields-length ns j h = length_fields_of (take j ns) ∙ ap (λ (k : ℕ). 9 * k) (length-take-le j ns h)

pub length_line_of : (l : Line) → length l.numbers ≡ 14 → length (line_of l) ≡ width_of l.letter
unfolding line_of
length_line_of l n =
    ap suc (length-append (fields_of (take (count_of l.letter) l.numbers)) (10 ∷ []))
    ∙ omega (arith, fields-length l.numbers (count_of l.letter) (omega (arith, count_most l.letter)))

-- The loop of `put_line`: one more field, and the end.

pub write_more : (o : List ℕ) (at j : ℕ) (ns out out' : List ℕ) → j < length ns → get_or ns j 0 ≤ largest → at + 9 * j + 9 ≤ length o → length out ≡ length o
    → out ≡ put o at (fields_of (take j ns)) → out' ≡ after_field (get_or ns j 0) (at + 9 * j) out → out' ≡ put o at (fields_of (take (j + 1) ns))
write_more o at j ns out out' h small r len e f =
    let x : List ℕ = fields_of (take j ns) in
    let y : List ℕ = field_of (get_or ns j 0) in
    let p : length x ≡ 9 * j = fields-length ns j (omega arith) in
    f
    ∙ field_written (get_or ns j 0) (at + 9 * j) out small (omega arith)
    ∙ ap (λ (l : List ℕ). put l (at + 9 * j) y) e
    ∙ ap (λ (k : ℕ). put (put o at x) (at + k) y) (sym p)
    ∙ put_put o at x y (omega (arith, length_field_of (get_or ns j 0)))
    ∙ ap (λ (l : List ℕ). put o at l) (sym (fields_more ns j h))

pub write_end : (o : List ℕ) (at j k b : ℕ) (l : Line) (out : List ℕ) → b ≡ byte_of l.letter → k ≡ count_of l.letter → length l.numbers ≡ 14
    → at + width_of l.letter ≤ length o → j ≤ k → k ≤ j → out ≡ put (set o at b) (at + 1) (fields_of (take j l.numbers))
    → set out (at + 1 + 9 * k) 10 ≡ put o at (line_of l)
unfolding line_of
write_end o at j k b l out eb ek n r h h' e =
    let x : List ℕ = fields_of (take k l.numbers) in
    let m : count_of l.letter ≤ 14 = count_most l.letter in
    let p : length x ≡ 9 * k = fields-length l.numbers k (omega arith) in
    let jk : j ≡ k = omega arith in
    let q : out ≡ put o at (b ∷ x) =
    e
    ∙ ap (λ (i : ℕ). put (set o at b) (at + 1) (fields_of (take i l.numbers))) jk
    ∙ ap (λ (y : List ℕ). put y (at + 1) x) (set_put o at b (omega arith))
    ∙ put_put o at (b ∷ []) x (omega arith) in
    let d : at + 1 + 9 * k ≡ at + length (b ∷ x) = omega arith in
    ap (λ (y : List ℕ). set y (at + 1 + 9 * k) 10) q
    ∙ ap (λ (y : ℕ). set (put o at (b ∷ x)) y 10) d
    ∙ set_put (put o at (b ∷ x)) (at + length (b ∷ x)) 10 (omega (arith, length_put o at (b ∷ x) (omega arith)))
    ∙ put_put o at (b ∷ x) (10 ∷ []) (omega arith)
    ∙ ap (λ (y : ℕ). put o at (b ∷ (fields_of (take y l.numbers) ++ (10 ∷ [])))) ek
    ∙ ap (λ (y : ℕ). put o at (y ∷ (fields_of (take (count_of l.letter) l.numbers) ++ (10 ∷ [])))) eb

-- Whether a line can be written, and what is answered and left.

pub can_write : (l : Line) (at room : ℕ) → at + width_of l.letter ≤ room → small_to l.numbers (count_of l.letter) ≡ true → writable l at room ≡ true
unfolding writable
can_write l at room h s = simp (le-leb (at + width_of l.letter) room h, s)

pub has_room : (l : Line) (at room : ℕ) → writable l at room ≡ true → (at + width_of l.letter ≤ room) × (small_to l.numbers (count_of l.letter) ≡ true)
unfolding writable
has_room l at room e =
    let p = both (leb (at + width_of l.letter) room) (small_to l.numbers (count_of l.letter)) e in
    (leb-true (at + width_of l.letter) room p.0, p.1)

module _ (l : Line) (at : ℕ) (o : List ℕ) where
  left : writable l at (length o) ≡ false → (refusal 22 ≡ write_answer l at (length o)) × (o ≡ after_write l at o)
  unfolding write_answer after_write
  left e = (simp e, simp e)

  pub short : length o < at + width_of l.letter → (refusal 22 ≡ write_answer l at (length o)) × (o ≡ after_write l at o)
  unfolding writable
  short h = left (simp (lt-leb (at + width_of l.letter) (length o) h))

  pub large : small_to l.numbers (count_of l.letter) ≡ false → (refusal 22 ≡ write_answer l at (length o)) × (o ≡ after_write l at o)
  unfolding writable
  large e = left (simp e (cond_same (leb (at + width_of l.letter) (length o)) false))

  pub line_written : writable l at (length o) ≡ true → put o at (line_of l) ≡ after_write l at o
  unfolding after_write
  line_written e = simp e

pub answered : (l : Line) (at room : ℕ) → writable l at room ≡ true → figures (width_of l.letter ∷ []) ≡ write_answer l at room
unfolding write_answer
answered l at room e = simp e
