-- What merging hands back and writes, by what reading each sheet brought.
use Prim.Native.Nat.{ℕ, ◌+◌, ◌≤◌, ◌<◌}
use mathlib.Core.Path.{◌≡◌, refl, ap, sym, subst, ◌∙◌}
use mathlib.Core.Bool.{Bool, cond}
use mathlib.Core.List.{List}
use lib.ListN.{length}
use borrow.Author.Tests.{lt-ltb}
use Rattle.table.specs.Layout.{tables_of}
use Rattle.std.specs.Prelude.{Result, Ok, Err}
use Rattle.base.specs.Limits.{most_car_lines, most_strikes}
use Rattle.base.specs.Refusal.{refusal_number}
use Rattle.grammar.specs.Sheet.{refused_at, whole, sheet_of}
use Rattle.grammar.proofs.ByGrammar.{by_grammar}
use Rattle.holding.specs.declared.LineRefusal.{LineRefusal}
use Rattle.holding.specs.Layout.{history_of, outcome_told}
use Rattle.holding.proofs.Arrays.{few_lines}
use Rattle.sheet.specs.declared.Contents.{Contents}
use Rattle.sheet.specs.Layout.{read_in}
use Rattle.merge_spec.specs.Reply.{MergeReply}
use Rattle.merge_spec.specs.Merge.{half_of, Merging, refused, merging_of, least_merge_buffer, Done, Merges}
use Rattle.merge.specs.Inner.{merged_sheets, Gives}
use Rattle.merge_laws.proofs.Again.{in_room}
use Rattle.merge_laws.proofs.Laws.{done_of}

-- a sheet that was read
module _ (s : List ℕ) (r : Contents) (l c f : List ℕ) (e : read_in r l c f ≡ sheet_of s) where
  pub refused_read : {why : LineRefusal} → r.outcome ≡ Err why → sheet_of s ≡ refused_at why.line (refusal_number why.refusal)
  refused_read q = sym e ∙ ap (λ (o : Result Unit LineRefusal). outcome_told o (tables_of r.directory l c) (history_of f (r.cars + r.struck))) q

  -- of a whole sheet: what is found in the bytes, and how few lines stand behind its tables
  pub whole_read : {u : Unit {0}} → r.outcome ≡ Ok u → sheet_of s ≡ whole (tables_of r.directory l c) (history_of f (r.cars + r.struck))
  whole_read q = sym e ∙ ap (λ (o : Result Unit LineRefusal). outcome_told o (tables_of r.directory l c) (history_of f (r.cars + r.struck))) q

  pub few_read : {u : Unit {0}} → r.outcome ≡ Ok u → r.cars + r.struck ≤ most_car_lines + most_strikes
  few_read q =
      let good = (by_grammar s).good (tables_of r.directory l c) (history_of f (r.cars + r.struck)) (whole_read q) in
      few_lines f (r.cars + r.struck) good.few_cars good.few_strikes

-- the answers
module _ (s r lent : List ℕ) where
  pub too_short : length lent < least_merge_buffer → {reply : MergeReply} → reply ≡ record { length = 0; number = 1; line = 0 } → Merges s r lent reply lent
  too_short h {reply} e =
      subst (λ (b : Bool). Done (cond b (refused 0 1) (merging_of (half_of (sheet_of s)) (half_of (sheet_of r)))) lent reply lent) (sym (lt-ltb (length lent) least_merge_buffer h)) (e, refl)

  pub answered : least_merge_buffer ≤ length lent → {reply : MergeReply} {out : List ℕ} → Gives (merged_sheets s r) lent reply out → Merges s r lent reply out
  answered h {reply} {out} (e, g) =
      subst (λ (m : Merging). Done m lent reply out) (sym (in_room lent (half_of (sheet_of s)) (half_of (sheet_of r)) h))
      (rw (e, g) (done_of s r lent (sheet_of s) (sheet_of r) refl refl))
