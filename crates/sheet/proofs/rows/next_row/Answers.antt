-- `sheet::rows::next_row` meets its contract: a row that `row_at` finds and `later_row_bad` lets pass.
use Prim.Native.Nat.{ℕ}
use mathlib.Core.Path.{◌≡◌, ap, sym, ◌∙◌}
use Rattle.reading.proofs.Row.{row_known}
use Rattle.sheet.proofs.rows.next_row.Goals as goal

pub returns : goal.returns
returns c = λ level capacity e.
    let a = c.args in
    let row = c.in_ok-level in
    let both : ◌≡◌ {A = ℕ × ℕ} (row.level, row.capacity) (level, capacity) = cc in
    let first : row.level ≡ level = ap (λ (r : ℕ × ℕ). r.0) both in
    let second : row.capacity ≡ capacity = ap (λ (r : ℕ × ℕ). r.1) both in (
      rw (← first, ← second) (row_known a.s.now a.at row.level row.capacity (sym row.was ∙ c.row_at.ensures)),
      rw (← first, ← second) (sym c.later_row_bad.ensures ∙ c.if-later_row_bad.false),
    )
