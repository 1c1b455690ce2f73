-- What merging wrote, where it was not refused: it is read whole, holds and answers the cars of both sheets, and adds up.
use Prim.Native.Nat.{ℕ, ◌+◌, ◌≤◌}
use mathlib.Core.Path.{◌≡◌, refl, ap, sym, subst, ◌∙◌}
use mathlib.Core.Bool.{Bool, true, false, cond, ◌||◌}
use mathlib.Core.List.{List, [], ◌∷◌, ◌++◌, map}
use native.Mathlib.Omega.{arith}
use lib.Dec.{ltb}
use lib.ListN.{length, take, drop}
use borrow.Author.Tests.{ltb-false}
use Rattle.base.specs.Answer.{refuse_if, Verdict, accepts, refuses, first}
use Rattle.base.specs.Limits.{most_tables, most_cars}
use Rattle.base.specs.Lists.{Each}
use Rattle.base.proofs.Choice.{never}
use Rattle.table.specs.Table.{Table}
use Rattle.grammar.specs.Grammar.{TrainLine, enters, cars_in, strikes_in, CarNumbers, EachLine, sheet_text, WholeSheet}
use Rattle.grammar.specs.Sheet.{SheetRead, refused_at, whole, sheet_of}
use Rattle.grammar.specs.Proper.{Proper}
use Rattle.grammar.proofs.ByGrammar.{by_grammar}
use Rattle.grammar.proofs.Text.{text_within}
use Rattle.grammar.proofs.Turns.{sheet_proper}
use Rattle.grammar.proofs.Passed.{few_accepted}
use Rattle.merge_spec.specs.Reply.{MergeReply}
use Rattle.merge_spec.specs.Held.{cars_held}
use Rattle.merge_spec.specs.Merge.{half_of, rows_differ, type_elsewhere, held_on_both, types_together, merge_tests, refused, merging_by, merging_of, least_merge_buffer, OneText, Written, Done, Merges}
use Rattle.merge_spec.specs.Merged.{MadeOf}
use Rattle.merge_spec.specs.Inner.{Holds}
use Rattle.merge_laws.proofs.Holding.{held_known, all_held}
use Rattle.merge_laws.proofs.Clear.{Clear, clear, joined_known}
use Rattle.merge_laws.proofs.Answers.{answers_joined, sums_joined}
use Rattle.merge_laws.proofs.Again.{itself_again}

-- C lines alone

pub cars_alone : (cars : List (List ℕ)) → cars_in (map enters cars) ≡ length cars
cars_alone [] = refl
cars_alone (x ∷ cars) = omega (arith, cars_alone cars)

no_strikes : (cars : List (List ℕ)) → strikes_in (map enters cars) ≡ 0
no_strikes [] = refl
no_strikes (x ∷ cars) = no_strikes cars

each_enters : (cars : List (List ℕ)) → Each CarNumbers cars → EachLine (map enters cars)
each_enters [] h = tt
each_enters (x ∷ cars) (h, hs) = (h, each_enters cars hs)

-- a sheet that holds all its cars is whole, and as short as merged sheets are
pub whole_sheet : (ms : List Table) (es : List (List ℕ)) → Holds ms es → WholeSheet ms (map enters es)
whole_sheet ms es h = record {
  some = h.some;
  four = omega (arith, few_accepted [] ms h.accepted (omega arith));
  accepted = h.accepted;
  few_cars = omega (arith, cars_alone es, h.sixty);
  few_strikes = omega (arith, no_strikes es);
  each = each_enters es h.each;
}

pub short_sheet : (ms : List Table) (es : List (List ℕ)) → Holds ms es → length (sheet_text ms (map enters es)) ≤ least_merge_buffer
short_sheet ms es h =
    omega (
      arith,
      text_within ms (map enters es) h.accepted (each_enters es h.each),
      few_accepted [] ms h.accepted (omega arith),
      cars_alone es,
      no_strikes es,
      h.sixty,
    )

-- The text of two sheets that are read whole.

module _ (s r : List ℕ) (ts : List Table) (h : List TrainLine) (us : List Table) (k : List TrainLine) (p : sheet_of s ≡ whole ts h) (q : sheet_of r ≡ whole us k) where
  made_of : (text : List ℕ) → Clear ts (cars_held ts h) us (cars_held us k) → OneText ts (cars_held ts h) us (cars_held us k) text → MadeOf s r text
  made_of text c o =
      let v : WholeSheet ts h = (by_grammar s).good ts h p in
      let w : WholeSheet us k = (by_grammar r).good us k q in
      let known : Holds o.tables o.cars =
      joined_known ts (cars_held ts h) us (cars_held us k) (held_known ts h v) (held_known us k w) c o.tables o.cars o.types_joined o.cars_joined in
      let own : List ℕ = sheet_text o.tables (map enters o.cars) in
      let read : sheet_of own ≡ whole o.tables (map enters o.cars) = (by_grammar own).every o.tables (map enters o.cars) (whole_sheet o.tables o.cars known) in
      subst (MadeOf s r) (sym o.is) (record {
        first_tables_lem = ts;
        first_lines = h;
        second_tables_lem = us;
        second_lines = k;
        tables = o.tables;
        cars = o.cars;
        first_read = p;
        second_read = q;
        read = read;
        first_text = (by_grammar s).only ts h p;
        second_text = (by_grammar r).only us k q;
        text_is = refl;
        short = short_sheet o.tables o.cars known;
        types = o.types_joined;
        all_held = all_held o.tables o.cars known;
        answers = answers_joined ts h us k v w c o.tables o.cars o.types_joined o.cars_joined;
        sums = sums_joined ts h us k v w c o.tables o.cars o.types_joined o.cars_joined;
        again = λ t i lent reply left room m.
            itself_again o.tables o.cars known o.types_joined.rising o.cars_joined.rising t i lent reply left room read m;
      })

-- The bytes that were written are the text.

taken_back : (l : List ℕ) (rest : List ℕ) → take (length l) (l ++ rest) ≡ l
taken_back [] rest = refl
taken_back (x ∷ l) rest = ap (λ (k : List ℕ). x ∷ k) (taken_back l rest)

-- A refusal has a number.

pub numbered : {line number : ℕ} (lent : List ℕ) (reply : MergeReply) (left : List ℕ) → 1 ≤ number → Done (refused line number) lent reply left → reply.number ≡ 0 → ⊥
numbered lent reply left h (e, _) z = let f = ap (λ (r : MergeReply). r.number) e in omega arith

pub own_number : (s : List ℕ) {line number : ℕ} → sheet_of s ≡ refused_at line number → 1 ≤ number
own_number s {line} {number} e = let p : Proper (length s) (refused_at line number) = rw e at (sheet_proper s) in omega (arith, p.least)

number_of : {m n : ℕ} → refuses m ≡ refuses n → m ≡ n
number_of e = cc

number_by : (a b c : Bool) {n : ℕ} → first (refuse_if 33 a ∷ refuse_if 34 b ∷ refuse_if 35 c ∷ []) ≡ refuses n → 1 ≤ n
number_by true b c e = omega (arith, number_of e)
number_by false true c e = omega (arith, number_of e)
number_by false false true e = omega (arith, number_of e)
number_by false false false e = never (cc)

merge_number : (ts : List Table) (cs : List (List ℕ)) (us : List Table) (ds : List (List ℕ)) {n : ℕ} → first (merge_tests ts cs us ds) ≡ refuses n → 1 ≤ n
merge_number ts cs us ds e =
    number_by (rows_differ ts us || type_elsewhere ts us cs || type_elsewhere us ts ds) (held_on_both cs ds) (ltb most_tables (types_together ts us) || ltb most_cars (length cs + length ds)) e

-- What was written is made of the two sheets.

module _ (s r : List ℕ) (lent : List ℕ) (reply : MergeReply) (left : List ℕ) (z : reply.number ≡ 0) where
  written_of : (ts : List Table) (h : List TrainLine) (us : List Table) (k : List TrainLine) (p : sheet_of s ≡ whole ts h) (q : sheet_of r ≡ whole us k) → least_merge_buffer ≤ length lent
      → Clear ts (cars_held ts h) us (cars_held us k) → Written ts (cars_held ts h) us (cars_held us k) lent reply left → MadeOf s r (take reply.length left)
  written_of ts h us k p q room c w =
      let m = made_of s r ts h us k p q w.text c w.made in
      subst (MadeOf s r) (sym (ap (λ (a : MergeReply). take a.length left) w.handed ∙ ap (take (length w.text)) w.bytes ∙ taken_back w.text (drop (0 + length w.text) lent))) m

  by_verdict : (ts : List Table) (h : List TrainLine) (us : List Table) (k : List TrainLine) (p : sheet_of s ≡ whole ts h) (q : sheet_of r ≡ whole us k) → least_merge_buffer ≤ length lent
      → (v : Verdict) → first (merge_tests ts (cars_held ts h) us (cars_held us k)) ≡ v
      → Done (merging_by v ts (cars_held ts h) us (cars_held us k)) lent reply left → MadeOf s r (take reply.length left)
  by_verdict ts h us k p q room accepts e w = written_of ts h us k p q room (clear ts (cars_held ts h) us (cars_held us k) e) w
  by_verdict ts h us k p q room (refuses n) e w = absurd (numbered lent reply left (merge_number ts (cars_held ts h) us (cars_held us k) e) w z)

  by_sheets : (x y : SheetRead) → sheet_of s ≡ x → sheet_of r ≡ y → least_merge_buffer ≤ length lent → Done (merging_of (half_of x) (half_of y)) lent reply left → MadeOf s r (take reply.length left)
  by_sheets (refused_at line number) y p q room w = absurd (numbered lent reply left (own_number s p) w z)
  by_sheets (whole ts h) (refused_at line number) p q room w = absurd (numbered lent reply left (own_number r q) w z)
  by_sheets (whole ts h) (whole us k) p q room w = by_verdict ts h us k p q room (first (merge_tests ts (cars_held ts h) us (cars_held us k))) refl w

  pub made : Merges s r lent reply left → MadeOf s r (take reply.length left)
  made m = go (ltb (length lent) least_merge_buffer) refl m
    where
      go : (b : Bool) → ltb (length lent) least_merge_buffer ≡ b → Done (cond b (refused 0 1) (merging_of (half_of (sheet_of s)) (half_of (sheet_of r)))) lent reply left
          → MadeOf s r (take reply.length left)
      go true e w = absurd (numbered lent reply left (omega arith) w z)
      go false e w = by_sheets (sheet_of s) (sheet_of r) refl refl (ltb-false (length lent) least_merge_buffer e) w

-- The length that is handed back is that of no longer sheet than a merged one, refused or not.

module _ (s r : List ℕ) (lent : List ℕ) (reply : MergeReply) (left : List ℕ) where
  none_low : {line number : ℕ} → Done (refused line number) lent reply left → reply.length ≤ least_merge_buffer
  none_low (e, _) = let f = ap (λ (a : MergeReply). a.length) e in omega arith

  verdict_low : (ts : List Table) (h : List TrainLine) (us : List Table) (k : List TrainLine) (p : sheet_of s ≡ whole ts h) (q : sheet_of r ≡ whole us k)
      → (v : Verdict) → first (merge_tests ts (cars_held ts h) us (cars_held us k)) ≡ v → Done (merging_by v ts (cars_held ts h) us (cars_held us k)) lent reply left
      → reply.length ≤ least_merge_buffer
  verdict_low ts h us k p q (refuses n) e w = none_low w
  verdict_low ts h us k p q accepts e w =
      let m = made_of s r ts h us k p q w.text (clear ts (cars_held ts h) us (cars_held us k) e) w.made in
      let f = ap (λ (a : MergeReply). a.length) w.handed in omega (arith, m.short)

  sheets_low : (x y : SheetRead) → sheet_of s ≡ x → sheet_of r ≡ y → Done (merging_of (half_of x) (half_of y)) lent reply left → reply.length ≤ least_merge_buffer
  sheets_low (refused_at line number) y p q w = none_low w
  sheets_low (whole ts h) (refused_at line number) p q w = none_low w
  sheets_low (whole ts h) (whole us k) p q w = verdict_low ts h us k p q (first (merge_tests ts (cars_held ts h) us (cars_held us k))) refl w

  pub low : Merges s r lent reply left → reply.length ≤ least_merge_buffer
  low m = go (ltb (length lent) least_merge_buffer) m
    where
      go : (b : Bool) → Done (cond b (refused 0 1) (merging_of (half_of (sheet_of s)) (half_of (sheet_of r)))) lent reply left → reply.length ≤ least_merge_buffer
      go true w = none_low w
      go false w = sheets_low (sheet_of s) (sheet_of r) refl refl w
