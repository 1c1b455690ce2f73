-- The numbers that a line is written with are small where each of them is.
use Prim.Native.Nat.{ℕ, ◌≤◌}
use mathlib.Core.Path.{◌≡◌, refl, ap, sym, ◌∙◌}
use mathlib.Core.Bool.{Bool, true, false}
use mathlib.Core.List.{List}
use Rattle.std.specs.Prelude.{◌↔◌, IsTrue, EachIndex}
use native.Mathlib.Omega.{arith}
use lib.ListN.{length, get_or, take}
use lib.Seq.{get_or-take, length-take-le}
use Rattle.base.specs.Limits.{largest}
use Rattle.reading.specs.declared.letter.Line.{Line}
use Rattle.reading.specs.Letter.{count_of}
use Rattle.line.specs.Writing.{small_to}
use Rattle.line.proofs.Bytes.{small_at, small_from}

small_same : (ns : List ℕ) (n : ℕ) (r : Bool) → n ≤ length ns → (IsTrue r ↔ EachIndex (take n ns) (λ k. get_or (take n ns) k 0 ≤ largest)) → r ≡ small_to ns n
small_same ns n true h e =
    let l : length (take n ns) ≡ n = length-take-le n ns h in
    sym (small_from ns n (λ j i. rw (get_or-take n ns j 0 i) at (e.0 refl j (omega arith))))
small_same ns n false h e = go (small_to ns n) refl
  where
    go : (t : Bool) → small_to ns n ≡ t → false ≡ t
    go false s = refl
    go true s =
        let l : length (take n ns) ≡ n = length-take-le n ns h in
        e.1 (λ j i. let m = get_or-take n ns j 0 (omega arith) in rw m (small_at ns n s j (omega arith)))

-- as many as the letter has fields
pub small_line : (l : Line) (n : ℕ) (r : Bool) → n ≡ count_of l.letter → n ≤ length l.numbers → (IsTrue r ↔ EachIndex (take n l.numbers) (λ k. get_or (take n l.numbers) k 0 ≤ largest))
    → r ≡ small_to l.numbers (count_of l.letter)
small_line l n r c h e = small_same l.numbers n r h e ∙ ap (small_to l.numbers) c
