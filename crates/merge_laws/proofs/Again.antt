-- A merged sheet, merged with a sheet of one of its tables and no cars, gives itself.
use Prim.Native.Nat.{ℕ, ◌+◌, ◌≤◌}
use mathlib.Core.Path.{◌≡◌, refl, ap, ap₂, sym, subst, ◌∙◌}
use mathlib.Core.Bool.{Bool, true, false, cond, not, ◌||◌, ◌&&◌, true≢false}
use mathlib.Core.Logic.{inl, inr}
use mathlib.Core.List.{List, [], ◌∷◌, map}
use native.Mathlib.Omega.{arith}
use lib.Dec.{ltb}
use lib.ListN.{length}
use borrow.Author.Tests.{le-ltb}
use Rattle.base.specs.Answer.{Verdict, accepts, first}
use Rattle.base.specs.Buffer.{put}
use Rattle.base.specs.Limits.{most_tables, most_cars}
use Rattle.table.specs.Table.{Table, unknown}
use Rattle.grammar.specs.Grammar.{enters, sheet_text, WholeSheet}
use Rattle.grammar.specs.Sheet.{SheetRead, sheet_of, whole}
use Rattle.grammar.proofs.ByGrammar.{by_grammar}
use Rattle.grammar.proofs.Passed.{few_accepted}
use Rattle.merge_spec.specs.Reply.{MergeReply}
use Rattle.merge_spec.specs.Order.{In, Rising, Joined}
use Rattle.merge_spec.specs.Held.{number_of, kind_of}
use Rattle.merge_spec.specs.Merge.{Half, holds, half_of, table_kind, rows_differ, type_elsewhere, types_together, merge_tests, Merging, refused, merging_by, merging_of, merging_in, least_merge_buffer, OneText, Written, Done, Merges}
use Rattle.merge_spec.specs.Inner.{Distinct, Agree, Holds, joined_tables}
use Rattle.merge_spec.proofs.Order.{in_each, joined_is, joined_one, joined_itself, rising_distinct, distinct_same}
use Rattle.merge_spec.proofs.Tables.{Good, apart, accepted_again, found, is_known}
use Rattle.merge_laws.proofs.Holding.{all_held}
use Rattle.merge_laws.proofs.Counting.{types_counted}
use Rattle.merge_laws.proofs.Swap.{rows_fine, numbers_fine}

-- No car of a sheet lacks a type that a part of its own tables has.
types_here : (ts us : List Table) → ((t : Table) → In t us → In t ts) → (cars : List (List ℕ)) → type_elsewhere ts us cars ≡ false
types_here ts us h [] = refl
types_here ts us h (x ∷ cars) = ap₂ (λ (a b : Bool). a || b) (go (unknown (kind_of x) ts) refl) (types_here ts us h cars)
  where
    known_too : unknown (kind_of x) ts ≡ true → (b : Bool) → unknown (kind_of x) us ≡ b → not (unknown (kind_of x) us) ≡ false
    known_too e true f = rw f
    known_too e false f = let w = found (kind_of x) us f in absurd (true≢false (sym e ∙ is_known (kind_of x) ts w.table (h w.table w.there) w.kind))

    go : (a : Bool) → unknown (kind_of x) ts ≡ a → (unknown (kind_of x) ts && not (unknown (kind_of x) us)) ≡ false
    go true e = rw (e) (known_too e (unknown (kind_of x) us) refl)
    go false e = rw e

-- in a buffer that is long enough the choice is the sheets'
pub in_room : (lent : List ℕ) (a b : Half) → least_merge_buffer ≤ length lent → merging_in (length lent) a b ≡ merging_of a b
in_room lent a b h = ap (λ (c : Bool). cond c (refused 0 1) (merging_of a b)) (le-ltb (length lent) least_merge_buffer h)

module _ (ms : List Table) (es : List (List ℕ)) (h : Holds ms es) (r : Rising table_kind ms) (q : Rising number_of es) (t : Table) (i : In t ms) where
  abbrev one : List Table
  one = t ∷ []

  part : (u : Table) → In u one → In u ms
  part u (inl e) = subst (λ v. In v ms) e i
  part u (inr j) = absurd j

  types : Distinct table_kind ms
  types = rising_distinct table_kind ms r

  agree : Agree table_kind ms one
  agree = record { same = λ x y j k e. distinct_same table_kind ms types x y j (part y k) e }

  tables_again : (l : List Table) → Joined table_kind ms one l → l ≡ ms
  tables_again l j = joined_one table_kind ms one l ms j (joined_itself table_kind ms one r part)

  cars_again : (l : List (List ℕ)) → Joined number_of es [] l → l ≡ es
  cars_again l j = joined_one number_of es [] l es j (joined_itself number_of es [] q (λ z k. absurd k))

  one_accepted : WholeSheet one []
  one_accepted = record {
    some = omega arith;
    four = omega arith;
    accepted = accepted_again [] one (in_each Good ms (apart [] ms h.accepted).good t i, tt) (λ u j k m. absurd m) (tt, tt) (omega arith);
    few_cars = omega arith;
    few_strikes = omega arith;
    each = tt;
  }

  none_applies : first (merge_tests ms es one []) ≡ accepts
  none_applies =
      let few : length ms ≤ most_tables = omega (arith, few_accepted [] ms h.accepted (omega arith)) in
      let count : types_together ms one ≡ length ms = sym (types_counted ms one types (tt, tt) agree) ∙ ap length (tables_again (joined_tables ms one) (joined_is table_kind ms one types (tt, tt) agree)) in
      let four : ltb most_tables (types_together ms one) ≡ false = le-ltb most_tables (types_together ms one) (omega (arith, count)) in
      let sixty : ltb most_cars (length es + 0) ≡ false = le-ltb most_cars (length es + 0) (omega (arith, h.sixty)) in
      let rows : rows_differ ms one ≡ false = rows_fine ms one (tt, tt) agree in
      rw (rows, types_here ms one part es, numbers_fine es [] (λ x y j k. absurd k), four, sixty)

  halves : (lent : List ℕ) → least_merge_buffer ≤ length lent → sheet_of (sheet_text ms (map enters es)) ≡ whole ms (map enters es)
      → merging_in (length lent) (half_of (sheet_of (sheet_text ms (map enters es)))) (half_of (sheet_of (sheet_text one []))) ≡ merging_by accepts ms es one []
  halves lent room read =
      ap₂ (λ (x y : SheetRead). merging_in (length lent) (half_of x) (half_of y)) read ((by_grammar (sheet_text one [])).every one [] one_accepted)
      ∙ ap (λ (cars : List (List ℕ)). merging_in (length lent) (holds ms cars) (holds one [])) (all_held ms es h)
      ∙ in_room lent (holds ms es) (holds one []) room
      ∙ ap (λ (v : Verdict). merging_by v ms es one []) none_applies

  -- the text that any such merge writes is the sheet's own
  own_text : (text : List ℕ) → OneText ms es one [] text → text ≡ sheet_text ms (map enters es)
  own_text text o =
      o.is ∙ ap₂ (λ (l : List Table) (cars : List (List ℕ)). sheet_text l (map enters cars)) (tables_again o.tables o.types_joined) (cars_again o.cars o.cars_joined)

  pub itself_again : (lent : List ℕ) (reply : MergeReply) (left : List ℕ) → least_merge_buffer ≤ length lent → sheet_of (sheet_text ms (map enters es)) ≡ whole ms (map enters es)
      → Merges (sheet_text ms (map enters es)) (sheet_text one []) lent reply left
      → (reply ≡ record { length = length (sheet_text ms (map enters es)); number = 0; line = 0 }) × (left ≡ put lent 0 (sheet_text ms (map enters es)))
  itself_again lent reply left room read m =
      let w : Written ms es one [] lent reply left = subst (λ (x : Merging). Done x lent reply left) (halves lent room read) m in
      let e : w.text ≡ sheet_text ms (map enters es) = own_text w.text w.made in
      (w.handed ∙ ap (λ (x : List ℕ). record { length = length x; number = 0; line = 0 }) e, w.bytes ∙ ap (put lent 0) e)
