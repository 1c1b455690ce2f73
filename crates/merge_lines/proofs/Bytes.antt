-- The turns of `copy_bytes`: the bytes that were copied stand in the buffer.
use Prim.Native.Nat.{ℕ, ◌+◌, ◌≤◌, ◌<◌}
use mathlib.Core.Path.{◌≡◌, ap, ap₂, sym, ◌∙◌}
use mathlib.Core.List.{List, [], ◌∷◌, ◌++◌}
use native.Mathlib.Numerals.{add-one}
use native.Mathlib.Omega.{arith}
use lib.ListN.{length, get_or, take, drop, set, length-drop}
use lib.Seq.{take-suc, length-take-le, get_or-drop}
use Rattle.base.specs.Buffer.{put}
use Rattle.base.proofs.Buffer.{put_nil, put_put, length_put, set_put}

module _ (lent text : List ℕ) (at from n : ℕ) (fits : at + n ≤ length lent) (there : from + n ≤ length text) where
  abbrev some : ℕ → List ℕ
  some i = take i (drop from text)

  some-length : (i : ℕ) → i ≤ n → length (some i) ≡ i
  some-length i h = length-take-le i (drop from text) (omega (arith, length-drop from text))

  pub copied_none : lent ≡ put lent at (some 0)
  copied_none = sym (put_nil lent at)

  pub copied_next : (out : List ℕ) (i : ℕ) → i < n → out ≡ put lent at (some i) → set out (at + i) (get_or text (from + i) 0) ≡ put lent at (some (i + 1))
  copied_next out i h e =
      let b : ℕ = get_or text (from + i) 0 in
      let l = some-length i (omega arith) in
      let same : length out ≡ length lent = ap length e ∙ length_put lent at (some i) (omega (arith, l)) in
      let more : some (i + 1) ≡ some i ++ (b ∷ []) =
      ap (λ (k : ℕ). take k (drop from text)) (add-one i) ∙ take-suc (drop from text) i 0 (omega (arith, length-drop from text)) ∙ ap (λ (x : ℕ). some i ++ (x ∷ [])) (get_or-drop from text i 0) in
      set_put out (at + i) b (omega (arith, same))
      ∙ ap₂ (λ (o : List ℕ) (k : ℕ). put o (at + k) (b ∷ [])) e (sym l)
      ∙ put_put lent at (some i) (b ∷ []) (omega (arith, l))
      ∙ ap (put lent at) (sym more)
