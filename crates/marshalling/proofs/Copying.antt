-- A run of numbers that takes the place of a whole list.
use Prim.Native.Nat.{ℕ}
use mathlib.Core.Path.{◌≡◌, ap, ◌∙◌}
use mathlib.Core.List.{List, ◌++◌, append-nil}
use native.Mathlib.Nat.{zero-add}
use lib.ListN.{length, drop}
use lib.Seq.{drop-length}
use Rattle.base.specs.Buffer.{put}

pub put_whole : (l xs : List ℕ) → length xs ≡ length l → put l 0 xs ≡ xs
put_whole l xs e =
    ap (λ (k : ℕ). xs ++ drop k l) (zero-add (length xs) ∙ e) ∙ ap (λ (r : List ℕ). xs ++ r) (drop-length l) ∙ append-nil xs
