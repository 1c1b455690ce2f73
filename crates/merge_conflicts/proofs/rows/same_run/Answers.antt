-- `merge_conflicts::same_run` meets its contract: two slices are compared.
use Prim.Native.Nat.{ℕ, ◌+◌, ◌-◌}
use mathlib.Core.Path.{◌≡◌, ap₂, sym, ◌∙◌}
use native.Mathlib.Omega.{arith}
use lib.Dec.{eqb}
use lib.ListN.{length, take, drop}
use borrow.Author.Rules.{rules}
use Rattle.std.specs.Cmp.Lexicographic.{pointwise}
use Rattle.table.specs.Layout.{places}
use Rattle.merge_conflicts.proofs.Comparing.{run_is}
use Rattle.merge_conflicts.proofs.rows.same_run.Goals as goal

pub returns : goal.returns
returns c =
    let a = c.args in
    let size : (length a.xs.now ≡ places) × (length a.ys.now ≡ places) = (search rules, search rules) in
    let p : a.n ≡ a.at + a.n - a.at = omega arith in
    let q : a.n ≡ a.at2 + a.n - a.at2 = omega arith in
    c.eq.ensures
    ∙ sym (ap₂ (λ (m k : ℕ). pointwise eqb (take m (drop a.at a.xs.now)) (take k (drop a.at2 a.ys.now))) p q)
    ∙ run_is a.xs.now a.ys.now a.at a.at2 a.n (omega (arith, size, c.requires)) (omega (arith, size, c.requires))
