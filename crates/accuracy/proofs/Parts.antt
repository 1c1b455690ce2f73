-- The tests of the permitted error in the parts in which the code takes them: the first refusal is that of the whole list.
use Prim.Native.Nat.{ℕ, ◌≤◌, ◌<◌}
use mathlib.Core.Path.{◌≡◌, ◌∙◌}
use mathlib.Core.Bool.{or-true}
use mathlib.Core.List.{List, ◌++◌}
use lib.Dec.{eqb}
use borrow.Author.Tests.{lt-ltb, le-ltb, eq-eqb, ne_eqb}
use Rattle.base.specs.Answer.{Test, accepts, refuses, first}
use Rattle.base.proofs.Answer.{one_passes, refuses-append, accepted-append}
use Rattle.table.specs.Table.{Table}
use Rattle.car.specs.Measured.{v0}
use Rattle.car.specs.Car.{Intake, measured_of, alone_tests}
use Rattle.accuracy.specs.declared.Errors.{Errors}
use Rattle.accuracy.specs.Permitted.{most_level_term, level_term_of, errors_bad, error_tests, term_tests, permitted_tests}
use Rattle.accuracy.specs.Inner.{ErrorsInRange}
use Rattle.accuracy.proofs.Bounds.{errors_in_range}

-- where 24 does not apply, each error is in its range
pub in_range : (e : Errors) → first (error_tests e) ≡ accepts → ErrorsInRange e
in_range e h = errors_in_range e (one_passes 24 (errors_bad e) h)

module _ (ts : List Table) (c : Intake) (e : Errors) where
  abbrev later : List Test
  later = error_tests e ++ term_tests ts (measured_of c) e

  pub car_away : {k : ℕ} → first (alone_tests ts c) ≡ refuses k → first (permitted_tests ts c e) ≡ refuses k
  unfolding permitted_tests
  car_away v = refuses-append later (alone_tests ts c) v

  module _ (alone : first (alone_tests ts c) ≡ accepts) where
    pub errors_away : {k : ℕ} → first (error_tests e) ≡ refuses k → first (permitted_tests ts c e) ≡ refuses k
    unfolding permitted_tests
    errors_away h = accepted-append later (alone_tests ts c) alone ∙ refuses-append (term_tests ts (measured_of c) e) (error_tests e) h

    module _ (right : first (error_tests e) ≡ accepts) where
      from_term : first (permitted_tests ts c e) ≡ first (term_tests ts (measured_of c) e)
      unfolding permitted_tests
      from_term = accepted-append later (alone_tests ts c) alone ∙ accepted-append (term_tests ts (measured_of c) e) (error_tests e) right

      pub no_volume : v0 ts (measured_of c) ≡ 0 → first (permitted_tests ts c e) ≡ refuses 25
      no_volume q = from_term ∙ rw (eq-eqb (v0 ts (measured_of c)) 0 q)

      pub too_large : most_level_term < level_term_of ts (measured_of c) e → first (permitted_tests ts c e) ≡ refuses 25
      too_large q = from_term ∙ rw (lt-ltb most_level_term (level_term_of ts (measured_of c) e) q, or-true (eqb (v0 ts (measured_of c)) 0))

      pub all_passed : (v0 ts (measured_of c) ≡ 0 → ⊥) → level_term_of ts (measured_of c) e ≤ most_level_term → first (permitted_tests ts c e) ≡ accepts
      all_passed n q = from_term ∙ rw (ne_eqb (v0 ts (measured_of c)) 0 n, le-ltb most_level_term (level_term_of ts (measured_of c) e) q)
