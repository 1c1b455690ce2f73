-- `sheet::read_sheet` meets its contract: the lines from the place reached bring what the whole sheet does.
use Prim.Native.Nat.{◌<◌}
use mathlib.Core.Path.{◌≡◌, refl, ap, sym, ◌∙◌}
use Rattle.std.specs.Prelude.{Option, Result, Err}
use native.Mathlib.Omega.{arith}
use lib.ListN.{length}
use Rattle.grammar.specs.Sheet.{longest, refused_at, State, read_from}
use Rattle.grammar.specs.ByGrammar.{too_long}
use Rattle.grammar.specs.Inner.{SoundState, LinesRead, Onward}
use Rattle.grammar.proofs.Turns.{sheet_long, sheet_short, sound_start, went_on, is_over}
use Rattle.grammar.proofs.Only.{Explained, read_next, read_over, start_read}
use Rattle.base.specs.declared.refusal.Refusal.TheVariants.{LongSheet}
use Rattle.base.specs.Refusal.{refusal_number}
use Rattle.holding.specs.declared.LineRefusal.{LineRefusal}
use Rattle.holding.specs.Layout.{outcome_told}
use Rattle.holding.specs.Inner.{state_in, step_by}
use Rattle.sheet.proofs.Held.{sound_reader, bounded, finish}
use Rattle.sheet.proofs.read_sheet.Goals as goal
use Rattle.sheet.proofs.read_sheet.Goals.{After-take_rows-taken, In_default}

on : (c : After-take_rows-taken) →
    Onward c.args.s.now (state_in c.loop-outcome.reader c.loop-outcome.levels c.loop-outcome.capacities c.loop-outcome.fields) ((state_in c.take_rows-taken.result c.take_rows-taken.new.levels c.take_rows-taken.new.capacities c.loop-outcome.fields))
on c = c.take_rows-taken.ensures c.loop-outcome.fields

-- a sheet that is too long is refused by 2, at line 0
same : (why : LineRefusal) → ◌≡◌ {A = Result Unit LineRefusal} (Err (record { line = 0; refusal = LongSheet })) (Err why) → record { line = 0; refusal = LongSheet } ≡ why
same why e = cc

-- one more line is due
next : (c : In_default) →
    let s = c.args.s.now in
    SoundState (length s) ((state_in c.read_step-step.result.reader c.read_step-step.new.levels c.read_step-step.new.capacities c.read_step-step.new.fields)) × (((state_in c.take_rows-taken.result c.take_rows-taken.new.levels c.take_rows-taken.new.capacities c.loop-outcome.fields)).at < ((state_in c.read_step-step.result.reader c.read_step-step.new.levels c.read_step-step.new.capacities c.read_step-step.new.fields)).at) × (read_from s ((state_in c.read_step-step.result.reader c.read_step-step.new.levels c.read_step-step.new.capacities c.read_step-step.new.fields)) ≡ read_from s ((state_in c.take_rows-taken.result c.take_rows-taken.new.levels c.take_rows-taken.new.capacities c.loop-outcome.fields))) × LinesRead s ((state_in c.read_step-step.result.reader c.read_step-step.new.levels c.read_step-step.new.capacities c.read_step-step.new.fields))
next c =
    let s = c.args.s.now in
    let e = ap (λ (x : Option (Result Unit LineRefusal)). step_by x ((state_in c.read_step-step.result.reader c.read_step-step.new.levels c.read_step-step.new.capacities c.read_step-step.new.fields))) c.in_default.is in
    let p = step_by c.read_step-step.result.end ((state_in c.read_step-step.result.reader c.read_step-step.new.levels c.read_step-step.new.capacities c.read_step-step.new.fields)) in
    let w = went_on s ((state_in c.take_rows-taken.result c.take_rows-taken.new.levels c.take_rows-taken.new.capacities c.loop-outcome.fields)) p c.read_step-step.ensures (c.take_rows-taken.ensures c.loop-outcome.fields).sound ((state_in c.read_step-step.result.reader c.read_step-step.new.levels c.read_step-step.new.capacities c.read_step-step.new.fields)) e in
    (w.0, w.1, w.2, read_next s ((state_in c.take_rows-taken.result c.take_rows-taken.new.levels c.take_rows-taken.new.capacities c.loop-outcome.fields)) p c.read_step-step.ensures (c.take_rows-taken.ensures c.loop-outcome.fields).sound ((c.take_rows-taken.ensures c.loop-outcome.fields).read c.loop-outcome.invariant.3) ((state_in c.read_step-step.result.reader c.read_step-step.new.levels c.read_step-step.new.capacities c.read_step-step.new.fields)) e)

pub returns-then-s-gt-LONGEST_SHEET : goal.returns-then-s-gt-LONGEST_SHEET
returns-then-s-gt-LONGEST_SHEET c =
    let a = c.args in
    let long : longest < length a.s.now = omega (arith, c.if-s-gt-LONGEST_SHEET.true) in
    finish a.s.now (record { outcome = Err (record { line = 0; refusal = LongSheet }); directory = c.started-reader.result.directory; cars = _; struck = _ }) a.levels.now a.capacities.now a.fields.now
    (sheet_long a.s.now long)
    (λ why e.
    too_long (record {
      long = long;
      nought = sym (ap (λ (w : LineRefusal). w.line) (same why e));
      two = sym (ap (λ (w : LineRefusal). refusal_number w.refusal) (same why e));
      no_tables = ap (λ (x : State). x.tables) (c.started-reader.ensures a.levels.now a.capacities.now a.fields.now);
      no_cars_lem = refl;
    }))

pub loop-outcome-init : goal.loop-outcome-init
loop-outcome-init c =
    let a = c.args in
    let e = c.started-reader.ensures a.levels.now a.capacities.now a.fields.now in
    (sound_start (length a.s.now) _ e, omega (arith, c.if-s-gt-LONGEST_SHEET.false), ap (read_from a.s.now) e ∙ sheet_short a.s.now (omega (arith, c.if-s-gt-LONGEST_SHEET.false)), rw e (start_read a.s.now))

pub take_rows-taken-requires : goal.take_rows-taken-requires
take_rows-taken-requires c =
    let s = c.args.s.now in
    let i = c.loop-outcome.invariant in
    (bounded (length s) c.loop-outcome.reader c.loop-outcome.levels c.loop-outcome.capacities c.loop-outcome.fields i.1 i.0, sound_reader (length s) c.loop-outcome.reader c.loop-outcome.levels c.loop-outcome.capacities c.loop-outcome.fields i.0)

pub read_step-step-requires : goal.read_step-step-requires
read_step-step-requires c =
    bounded (length c.args.s.now) c.take_rows-taken.result c.take_rows-taken.new.levels c.take_rows-taken.new.capacities c.loop-outcome.fields c.loop-outcome.invariant.1 (on (goal.at.read_step-step-requires c).After-take_rows-taken).sound

pub loop-outcome-smaller : goal.loop-outcome-smaller
loop-outcome-smaller c =
    let w = next c in
    omega (arith, w.1, w.0.within, (on (goal.at.loop-outcome-smaller c).After-take_rows-taken).further)

pub loop-outcome-preserved : goal.loop-outcome-preserved
loop-outcome-preserved c =
    let w = next c in
    let i = c.loop-outcome.invariant in
    (w.0, i.1, w.2 ∙ (on (goal.at.loop-outcome-preserved c).After-take_rows-taken).same ∙ i.2, w.3)

pub returns-in-Some : goal.returns-in-Some
returns-in-Some c =
    let s = c.args.s.now in
    let h = c.read_step-step.result.reader in
    let o = c.in-Some.outcome in
    let st = (state_in c.read_step-step.result.reader c.read_step-step.new.levels c.read_step-step.new.capacities c.read_step-step.new.fields) in
    let p = step_by c.read_step-step.result.end st in
    let told = outcome_told o st.tables st.history in
    let e = ap (λ (x : Option (Result Unit LineRefusal)). step_by x st) c.in-Some.is in
    finish s (record { outcome = o; directory = h.directory; cars = h.cars; struck = h.struck }) c.read_step-step.new.levels c.read_step-step.new.capacities c.read_step-step.new.fields
    (is_over s ((state_in c.take_rows-taken.result c.take_rows-taken.new.levels c.take_rows-taken.new.capacities c.loop-outcome.fields)) p c.read_step-step.ensures (on (goal.at.returns-in-Some c).After-take_rows-taken).sound st told e ∙ (on (goal.at.returns-in-Some c).After-take_rows-taken).same ∙ c.loop-outcome.invariant.2)
    (λ why z.
    let x = read_over s ((state_in c.take_rows-taken.result c.take_rows-taken.new.levels c.take_rows-taken.new.capacities c.loop-outcome.fields)) p c.read_step-step.ensures (on (goal.at.returns-in-Some c).After-take_rows-taken).sound ((on (goal.at.returns-in-Some c).After-take_rows-taken).read c.loop-outcome.invariant.3) st told e in
    let y : Explained s st.tables st.history (refused_at why.line (refusal_number why.refusal)) = rw z at x in
    y c.loop-outcome.invariant.1)
