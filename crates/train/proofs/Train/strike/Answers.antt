-- `Train::strike` meets its contract: 9 of a train that is not sound, then `strike_on`; with it the book.
use Prim.Native.Nat.{ℕ}
use mathlib.Core.Path.{◌≡◌, ap, sym, ◌∙◌}
use native.Mathlib.Omega.{arith}
use borrow.Author.Rules.{rules}
use Rattle.base.specs.Answer.{Answer, refusal}
use Rattle.consist.specs.Train.{Train, strike_answer, strike_train}
use Rattle.consist.specs.Book as book
use Rattle.consist.specs.Demand3.{Continues}
use Rattle.consist.specs.HandedInExamples.{StrikeOrder}
use Rattle.consist.specs.Inner.{Sixty, SoundTrain}
use Rattle.consist.specs.Lent.{tallied, train_in}
use Rattle.consist.proofs.Book.{continues}
use Rattle.consist.proofs.AgainstExamples.{strike_order}
use Rattle.consist.proofs.Entering.{not_sound}
use Rattle.consist.proofs.Striking.{unsound_strike}
use Rattle.consist.proofs.Rows.{struck_placed, rows_sound, rows_struck}
use Rattle.base.specs.Refusal.{figure_told}
use Rattle.train.specs.Told.{train_told}
use Rattle.train.proofs.Summed.{summed}
use Rattle.train.proofs.Train.strike.Goals as goal
use Rattle.train.proofs.Train.strike.Goals.{Else-is_unsound, After-strike_on-answer, Start}

-- an answer and a train that are the definition's have all that is promised of them
whole : (t : Train) (n : ℕ) (a : Answer) (next : Train) → (a ≡ strike_answer t n) × (next ≡ strike_train t n)
    → (a ≡ strike_answer t n) × (next ≡ strike_train t n) × Continues t (book.strike n) a next × StrikeOrder
whole t n a next (p, q) = (p, q, rw (p, q) (continues t (book.strike n)), strike_order)

sixty : (s : Start) → Sixty (train_told s.args.self)
sixty s = record { numbers = search rules; grades = search rules; grosses = search rules; nets = search rules }

-- past 9 the train is sound
sound : (l : Else-is_unsound) → SoundTrain (train_told l.args.self)
sound l = not_sound (train_told l.args.self) (sym l.is_unsound.ensures ∙ l.if-is_unsound.false)

-- the answer and the rows are those of the train handed in
struck-on : (e : After-strike_on-answer) → SoundTrain (train_told e.args.self) → let r = e.strike_on-answer in
    (figure_told r.result ≡ strike_answer (train_told e.args.self) e.args.number)
    × (train_in r.new.cars ≡ strike_train (train_told e.args.self) e.args.number)
struck-on e k =
    let t = e.args.self in
    let r = e.strike_on-answer.ensures in
    rows_struck t.sums t.cars k e.args.number (r.answered, r.struck)

pub returns-then-is_unsound : goal.returns-then-is_unsound
returns-then-is_unsound c =
    let t = train_told c.args.self in
    whole t c.args.number (refusal 9) t (unsound_strike t c.args.number (sym c.is_unsound.ensures ∙ c.if-is_unsound.true))

pub strike_on-answer-requires : goal.strike_on-answer-requires
strike_on-answer-requires c =
    let t = c.args.self in
    rows_sound t.sums t.cars (sound (goal.at.strike_on-answer-requires c).Else-is_unsound)

pub made_by-self-requires : goal.made_by-self-requires
made_by-self-requires c =
    let at = goal.at.made_by-self-requires c in
    let k = sound at.Else-is_unsound in
    omega (arith, ap (λ (t : Train). t.held) (struck-on at.After-strike_on-answer k).1, (struck_placed (train_told c.args.self) (sixty at.Start) k c.args.number).few)

pub returns : goal.returns
returns c =
    let at = goal.at.returns c in
    let k = struck-on at.After-strike_on-answer (sound at.Else-is_unsound) in
    let cars = c.strike_on-answer.new.cars in
    whole (train_told c.args.self) c.args.number (figure_told c.strike_on-answer.result) (tallied c.made_by-self.result cars) (k.0, summed cars c.made_by-self.ensures ∙ k.1)
