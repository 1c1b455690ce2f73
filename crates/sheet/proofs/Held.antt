-- What the code holds: sound and within its bounds while the reading goes on, and usable once it is over.
use Prim.Native.Nat.{ℕ, ◌+◌, ◌≤◌}
use mathlib.Core.Path.{◌≡◌}
use mathlib.Core.List.{List}
use Rattle.std.specs.Prelude.{Ok, Err}
use native.Mathlib.Omega.{arith}
use lib.ListN.{length}
use Rattle.table.specs.Layout.{tables_of}
use Rattle.grammar.specs.Grammar.{WholeSheet}
use Rattle.grammar.specs.Sheet.{longest, sheet_of}
use Rattle.grammar.specs.Proper.{Proper}
use Rattle.grammar.specs.ByGrammar.{Refusal, ReadByGrammar}
use Rattle.grammar.specs.Inner.{SoundState}
use Rattle.grammar.proofs.Turns.{sheet_proper}
use Rattle.grammar.proofs.ByGrammar.{by_grammar}
use Rattle.base.specs.Refusal.{refusal_number}
use Rattle.holding.specs.declared.LineRefusal.{LineRefusal}
use Rattle.sheet.specs.declared.Contents.{Contents}
use Rattle.holding.specs.declared.reader.Reader.{Reader}
use Rattle.holding.specs.Layout.{history_of}
use Rattle.sheet.specs.Layout.{read_in, Held}
use Rattle.holding.specs.Inner.{state_in, Bounds, SoundReader}
use Rattle.holding.proofs.Room.{few_tables, owing}

-- While the reading goes on.

pub sound_state : (n : ℕ) (h : Reader) (l c f : List ℕ) → SoundReader n h l c → SoundState n (state_in h l c f)
sound_state n h l c f b = record { within = b.within; number = b.number; passed = b.passed; few_cars = b.few_cars; few_strikes = b.few_strikes }

pub sound_reader : (n : ℕ) (h : Reader) (l c f : List ℕ) → SoundState n (state_in h l c f) → SoundReader n h l c
sound_reader n h l c f b = record { within = b.within; number = b.number; passed = b.passed; few_cars = b.few_cars; few_strikes = b.few_strikes }

pub bounded : (n : ℕ) (h : Reader) (l c f : List ℕ) → n ≤ longest → SoundState n (state_in h l c f) → Bounds h
bounded n h l c f m b =
    record {
      place = omega (arith, b.within);
      few_cars = b.few_cars;
      few_strikes = b.few_strikes;
      number = omega (arith, b.number, b.within);
      few = few_tables h.directory l c h.owed b.passed;
      owing = owing h.directory l c h.owed b.passed;
    }

-- Once it is over.

module _ (s : List ℕ) (r : Contents) (l c f : List ℕ) (e : read_in r l c f ≡ sheet_of s) where
  proper : r.outcome ≡ Ok tt → WholeSheet (tables_of r.directory l c) (history_of f (r.cars + r.struck))
  proper w = let p : Proper (length s) (read_in r l c f) = rw e (sheet_proper s) in rw w at p

  -- what `read_sheet` promises
  pub finish : ((why : LineRefusal) → r.outcome ≡ Err why → Refusal s why.line (refusal_number why.refusal) (tables_of r.directory l c) (history_of f (r.cars + r.struck)))
      → (read_in r l c f ≡ sheet_of s) × Proper (length s) (sheet_of s) × Held s r l c f × ReadByGrammar s
  finish before = (
    e,
    sheet_proper s,
    record {
      good = λ w. record { accepted = (proper w).accepted };
      few_cars = λ w. (proper w).few_cars;
      few_strikes = λ w. (proper w).few_strikes;
      each = λ w. (proper w).each;
      before = before;
    },
    by_grammar s,
  )
