-- `rowline::row_at` meets its contract: a line has passed its tests, or fails one of them.
use mathlib.Core.Path.{sym, ◌∙◌, ◌≡◌}
use Prim.Native.Nat.{ℕ}
use Rattle.std.specs.Prelude.{Option, Some, None}
use native.Mathlib.Omega.{arith}
use Rattle.base.proofs.Choice.{never}
use Rattle.reading.proofs.Row.{row_some, row_none}
use Rattle.rowline.proofs.row_at.Goals as goal

pub returns-then-s-at : goal.returns-then-s-at
returns-then-s-at c = row_none c.args.s.now c.args.at (λ a b h. grind arith)

pub returns-in_err-level : goal.returns-in_err-level
returns-in_err-level c = c.from_residual.ensures ∙ row_none c.args.s.now c.args.at (λ a b h. let z : ◌≡◌ {A = Option ℕ} None (Some a) = sym c.in_err-level.was ∙ c.short_field.ensures ∙ h.level in never (cc))

pub returns-in_err-capacity : goal.returns-in_err-capacity
returns-in_err-capacity c = c.from_residual-in_err-capacity.ensures ∙ row_none c.args.s.now c.args.at (λ a b h. let z : ◌≡◌ {A = Option ℕ} None (Some b) = sym c.in_err-capacity.was ∙ c.long_field.ensures ∙ h.capacity in never (cc))

pub returns : goal.returns
returns c =
    row_some c.args.s.now c.args.at _ _ (record {
      letter = omega arith;
      room = omega arith;
      feed = omega arith;
      level = sym c.short_field.ensures ∙ c.in_ok-level.was;
      capacity = sym c.long_field.ensures ∙ c.in_ok-capacity.was;
    })
