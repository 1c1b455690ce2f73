-- What is handed over, from what the code's answer tells.
use Prim.Native.Nat.{ℕ}
use mathlib.Core.Path.{◌≡◌, refl, sym, ap, ◌∙◌}
use mathlib.Core.Bool.{Bool, true, false, cond}
use mathlib.Core.List.{List}
use Rattle.std.specs.Prelude.{Result, Ok, Err}
use Rattle.base.specs.Answer.{Answer, refusal, Verdict, accepts, refuses, number_of, answer}
use Rattle.base.specs.Refusal.{figure_told}
use Rattle.base.specs.declared.refusal.Refusal.{Refusal}
use Rattle.marshalling.specs.Handed.{bad_length, sized, number_handed, Handed, figure_left, OneHanded}

pub handed : {A : Type 0} (after : Answer → A → A) (lent : A) {told a : Answer} → told ≡ a → Handed after a (number_handed told) lent (after told lent)
handed after lent e = record { number = ap number_handed e; contents = ap (λ (x : Answer). after x lent) e }

-- the same, where a place holds what the answer tells by an equation
pub handed_into : {A : Type 0} (after : Answer → A → A) (lent : A) {left : A} {told a : Answer} → left ≡ after told lent → told ≡ a → Handed after a (number_handed told) lent left
handed_into after lent w e = record { number = ap number_handed e; contents = w ∙ ap (λ (x : Answer). after x lent) e }

pub handed_as : {A : Type 0} {after : Answer → A → A} {a b : Answer} {r : ℕ} {lent left : A} → Handed after a r lent left → a ≡ b → Handed after b r lent left
handed_as {after} {lent} h e = record { number = h.number ∙ ap number_handed e; contents = h.contents ∙ ap (λ (x : Answer). after x lent) e }

pub right_sized : {right : Bool} (a : Answer) → right ≡ true → a ≡ sized right a
right_sized a e = ap (λ (b : Bool). sized b a) (sym e)

pub wrong_sized : {right : Bool} (a : Answer) → right ≡ false → refusal bad_length ≡ sized right a
wrong_sized a e = ap (λ (b : Bool). sized b a) (sym e)

-- a lent slice that is not written
pub kept : {right : Bool} (written lent : List ℕ) → right ≡ false → lent ≡ cond right written lent
kept written lent e = cc

-- a verdict's number is that of its answer
pub number_answered : (v : Verdict) (values : List ℕ) → number_of v ≡ number_handed (answer v values)
number_answered accepts values = refl
number_answered (refuses n) values = refl

-- one figure handed over, from what its result tells
pub figure_handed : (a : Result ℕ Refusal) {b : Answer} {r lent left : ℕ} → OneHanded a r lent left → figure_told a ≡ b → Handed figure_left b r lent left
figure_handed (Ok n) h e = handed_as (record { number = h.number; contents = h.contents }) e
figure_handed (Err n) h e = handed_as (record { number = h.number; contents = h.contents }) e
