-- `stepping::read_step` meets its contract: the line due is read, and its letter picks the rule.
use Prim.Native.Nat.{ℕ, ◌+◌}
use mathlib.Core.Path.{◌≡◌, refl, ap, sym, ◌∙◌}
use mathlib.Core.List.{List}
use Rattle.std.specs.Prelude.{Result, Ok, Err}
use lib.ListN.{length}
use Rattle.base.specs.declared.refusal.Refusal.{Refusal}
use Rattle.reading.specs.declared.letter.Letter.{Letter}
use Rattle.reading.specs.declared.letter.Letter.TheVariants.{Table as T, Row as R, Car as C, Strike as K, End as E}
use Rattle.reading.specs.declared.letter.Line.{Line}
use Rattle.reading.specs.declared.Due.{Due}
use Rattle.reading.specs.Reading.{line_at}
use Rattle.reading.proofs.Letters.{found}
use Rattle.reading.proofs.Lines.{is_line}
use Rattle.grammar.specs.Sheet.{due_by, due_of, by_letter, step_of}
use Rattle.holding.specs.declared.reader.Reader.{Reader}
use Rattle.holding.specs.Inner.{state_in}
use Rattle.holding.proofs.Arrays.{due_held}
use Rattle.grammar.proofs.Steps.{step_read, row_owed}
use Rattle.stepping.proofs.read_step.Goals as goal
use Rattle.stepping.proofs.read_step.Goals.{In-Ok}

-- the line that was read is the definition's
read : (s : List ℕ) (h : Reader) (l c f : List ℕ) (due : Due) (r : Result Line Refusal) → due ≡ due_by h.owed h.directory.count (h.cars + h.struck)
    → r ≡ line_at s h.at due → r ≡ line_at s h.at (due_of (state_in h l c f))
read s h l c f due r d e = e ∙ ap (line_at s h.at) (d ∙ due_held h l c f)

line_read : (c : In-Ok) → Ok c.in-Ok.line ≡ line_at c.args.s.now c.args.reader.at (due_of (state_in c.args.reader c.args.levels.now c.args.capacities.now c.args.fields.now))
line_read c = let a = c.args in sym c.in-Ok.is ∙ read a.s.now a.reader a.levels.now a.capacities.now a.fields.now _ _ c.due_of-due.ensures c.read_line_at.ensures

-- what the letter that was found brings
step : (c : In-Ok) (l : Letter) → c.in-Ok.line.letter ≡ l
    → by_letter (length c.args.s.now) (state_in c.args.reader c.args.levels.now c.args.capacities.now c.args.fields.now) l c.in-Ok.line.numbers
    ≡ step_of c.args.s.now (state_in c.args.reader c.args.levels.now c.args.capacities.now c.args.fields.now)
step c l e =
    let a = c.args in
    let st = state_in a.reader a.levels.now a.capacities.now a.fields.now in
    ap (λ (m : Letter). by_letter (length a.s.now) st m c.in-Ok.line.numbers) (sym e) ∙ step_read a.s.now st (Ok c.in-Ok.line) (line_read c)

pub row_line-requires : goal.row_line-requires
row_line-requires c =
    let a = c.args in
    let o = row_owed a.s.now (state_in a.reader a.levels.now a.capacities.now a.fields.now) (Ok c.in-Ok.line) (line_read (goal.at.row_line-requires c).In-Ok) c.in-Ok.line refl c.in-Row.is in
    (c.requires, o, c.requires.owing o)

pub returns-in-Table : goal.returns-in-Table
returns-in-Table c = c.table_line.ensures c.args.levels.now c.args.capacities.now c.args.fields.now ∙ step (goal.at.returns-in-Table c).In-Ok T c.in-Table.is

pub returns-in-Row : goal.returns-in-Row
returns-in-Row c = c.row_line.ensures c.args.fields.now ∙ step (goal.at.returns-in-Row c).In-Ok R c.in-Row.is

pub returns-in-Car : goal.returns-in-Car
returns-in-Car c = c.car_line.ensures c.args.levels.now c.args.capacities.now ∙ step (goal.at.returns-in-Car c).In-Ok C c.in-Car.is

pub returns-in-Strike : goal.returns-in-Strike
returns-in-Strike c = c.strike_line.ensures c.args.levels.now c.args.capacities.now ∙ step (goal.at.returns-in-Strike c).In-Ok K c.in-Strike.is

pub returns-in-End : goal.returns-in-End
returns-in-End c = c.end_line.ensures c.args.levels.now c.args.capacities.now c.args.fields.now ∙ step (goal.at.returns-in-End c).In-Ok E c.in-End.is

-- no letter of an answer is found
pub returns-in_default : goal.returns-in_default
returns-in_default c =
    let a = c.args in
    let d = c.in_default in
    let line = is_line a.s.now a.reader.at (due_of (state_in a.reader a.levels.now a.capacities.now a.fields.now)) c.in-Ok.line (sym (line_read (goal.at.returns-in_default c).In-Ok)) in
    absurd (found (λ m. c.in-Ok.line.letter ≡ m → ⊥) _ c.in-Ok.line.letter _ ((λ _ _. d.not-Table), ((λ _ _. d.not-Row), ((λ _ _. d.not-Car), ((λ _ _. d.not-Strike), ((λ _ _. d.not-End), tt))))) line.found refl)

pub returns-in-Err : goal.returns-in-Err
returns-in-Err c =
    let a = c.args in
    c.refused_here-in-Err.ensures a.levels.now a.capacities.now a.fields.now
    ∙ step_read a.s.now (state_in a.reader a.levels.now a.capacities.now a.fields.now) (Err c.in-Err.refusal)
    (sym c.in-Err.is ∙ read a.s.now a.reader a.levels.now a.capacities.now a.fields.now _ _ c.due_of-due.ensures c.read_line_at.ensures)
