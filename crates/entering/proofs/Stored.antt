-- What the code stores of a car is the train with its answer.
use Prim.Native.Nat.{ℕ, ◌+◌, ◌<◌}
use mathlib.Core.Path.{◌≡◌, ap, ◌∙◌}
use lib.ListN.{set}
use Rattle.std.proofs.Common.{Result, Ok, Err}
use Rattle.base.specs.Limits.{most_cars}
use Rattle.base.specs.declared.refusal.Refusal.{Refusal}
use Rattle.car.specs.declared.Figures.{Figures}
use Rattle.summing.specs.Sums.{sums_of, sums_with}
use Rattle.summing.specs.Inner.{Graded, shown_as}
use Rattle.consist.specs.Train.{Train, cars_of, shown_in}
use Rattle.consist.specs.Inner.{Sixty, with_answer}
use Rattle.consist.specs.Lent.{lent_train}
use Rattle.consist.proofs.Lent.{lent_made, made_with}
use Rattle.entering.specs.declared.Load.{Load}
use Rattle.entering.specs.Load.{load_as}

module _ (t : Train) (number : ℕ) where
  -- the rows with one car more
  abbrev pub stored_train : Load → Train
  stored_train l = lent_train (t.held + 1) (set t.numbers t.held number) (set t.grades t.held l.grade) (set t.grosses t.held l.gross) (set t.nets t.held l.net)

  pub stored : (grade : ℕ) (a : Result Figures Refusal) {l : Load} → Sixty t → t.held < most_cars → t.sums ≡ sums_of (shown_in (cars_of t)) → Graded grade a → l ≡ load_as grade a
      → stored_train l ≡ with_answer t number grade a
  stored grade a s low made g p = ap stored_train p ∙ by_answer a (made_with t s low made number grade a g)
    where
      by_answer : (a : Result Figures Refusal) → (with_answer t number grade a).sums ≡ sums_of (shown_in (cars_of (with_answer t number grade a))) → stored_train (load_as grade a) ≡ with_answer t number grade a
      by_answer (Ok f) e =
          lent_made (sums_with t.sums (shown_as grade f.gross f.net)) (t.held + 1) (set t.numbers t.held number) (set t.grades t.held grade) (set t.grosses t.held f.gross)
          (set t.nets t.held f.net) e
      by_answer (Err r) e =
          lent_made (t.sums) (t.held + 1) (set t.numbers t.held number) (set t.grades t.held 0) (set t.grosses t.held 0) (set t.nets t.held 0) e
