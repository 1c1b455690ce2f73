-- `merge_lines::car_line` meets its contract: the numbers behind the letter are copied.
use Prim.Native.Nat.{ℕ, ◌+◌, ◌-◌, ◌*◌}
use mathlib.Core.List.{List, append-nil}
use mathlib.Core.Path.{◌≡◌, ap, ap₂, sym, ◌∙◌}
use native.Mathlib.Omega.{arith}
use lib.ListN.{take, drop}
use lib.Seq.{drop-drop}
use Rattle.std.proofs.lemmas.Slice.{between_is}
use Rattle.reading.specs.declared.letter.Letter.TheVariants.{Car as C}
use Rattle.reading.specs.Letter.{most_fields}
use Rattle.holding.specs.Layout.{line_places}
use Rattle.merge_order.specs.Inner.{car_in}
use Rattle.merge_lines.proofs.lines.car_line.Goals as goal

-- the numbers as the code takes them
taken : (fields : List ℕ) (i : ℕ) → let start = line_places * i + 1 in take (start + most_fields - start) (drop start fields) ≡ car_in fields i
taken fields i =
    let start : ℕ = line_places * i + 1 in
    let n : start + most_fields - start ≡ line_places - 1 = omega arith in
    ap₂ (λ (m : ℕ) (l : List ℕ). take m l) n (sym (drop-drop 1 (line_places * i) fields)) ∙ between_is (drop (line_places * i) fields) 1 line_places

pub returns : goal.returns
returns c =
    let a = c.args in
    ap (λ (x : List ℕ). record { letter = C; numbers = x }) (c.copy_from_slice.ensures.after ∙ taken a.fields.now a.i ∙ sym (append-nil (car_in a.fields.now a.i)))
