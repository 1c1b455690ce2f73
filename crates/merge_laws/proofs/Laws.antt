-- Laws of merging: one answer only, which sheet comes first, 12; and that the lists which are worked out are what the definition asks for.
use Prim.Native.Nat.{ℕ, ◌+◌}
use mathlib.Core.Path.{◌≡◌, refl, ap, ap₂, sym, subst, ◌∙◌}
use mathlib.Core.Bool.{Bool, true, false, cond, not, ◌||◌, ◌&&◌, true≢false}
use mathlib.Core.List.{List, [], ◌∷◌, ◌++◌, map}
use lib.Dec.{ltb, eqb}
use lib.ListN.{length}
use borrow.Author.Tests.{eq-eqb}
use Rattle.base.specs.Answer.{Test, refuse_if, Verdict, accepts, refuses, first}
use Rattle.base.specs.Buffer.{put}
use Rattle.base.specs.Limits.{most_tables, most_cars}
use Rattle.base.proofs.Choice.{never, both_hold, neither}
use Rattle.table.specs.Table.{Table, unknown}
use Rattle.car.specs.Measured.{measured_tests}
use Rattle.car.specs.Car.{car_tests}
use Rattle.grammar.specs.Grammar.{enters, sheet_text}
use Rattle.grammar.specs.Sheet.{SheetRead, refused_at, whole, sheet_of}
use Rattle.grammar.proofs.ByGrammar.{by_grammar}
use Rattle.merge_spec.specs.Reply.{MergeReply}
use Rattle.merge_spec.specs.Held.{number_of, kind_of, cars_held}
use Rattle.merge_spec.specs.Merge.{half_of, table_kind, rows_differ, type_elsewhere, held_on_both, types_together, merge_tests, Merging, refused, together, merging_by, merging_of, merging_in, least_merge_buffer, OneText, Done, Merges}
use Rattle.merge_spec.specs.Merged.{ByTwelve, MergeLaws}
use Rattle.merge_spec.specs.Inner.{Holds, joined_tables, joined_cars, conflict_tests, size_tests, merged_by, merged_of, reply_to, written_for}
use Rattle.merge_spec.proofs.Order.{joined_one, joined_swap}
use Rattle.merge_laws.proofs.Kept.{cast, held_on_sheet}
use Rattle.merge_laws.proofs.Holding.{held_known}
use Rattle.merge_laws.proofs.Clear.{clear, ordered_tables, ordered_cars, tables-length, cars-length}
use Rattle.merge_laws.proofs.Swap.{tests_swap}
use Rattle.merge_laws.proofs.Made.{numbered, own_number}

-- One text, one answer.

one_text : (ts : List Table) (cs : List (List ℕ)) (us : List Table) (ds : List (List ℕ)) (x y : List ℕ) → OneText ts cs us ds x → OneText ts cs us ds y → x ≡ y
one_text ts cs us ds x y a b =
    a.is
    ∙ ap₂ (λ (l : List Table) (cars : List (List ℕ)). sheet_text l (map enters cars))
    (joined_one table_kind ts us a.tables b.tables a.types_joined b.types_joined)
    (joined_one number_of cs ds a.cars b.cars a.cars_joined b.cars_joined)
    ∙ sym b.is

one_done : (m : Merging) (lent : List ℕ) (a b : MergeReply) (left left' : List ℕ) → Done m lent a left → Done m lent b left' → (a ≡ b) × (left ≡ left')
one_done (refused line number) lent a b left left' (p, q) (p', q') = (p ∙ sym p', q ∙ sym q')
one_done (together ts cs us ds) lent a b left left' v w =
    let e : v.text ≡ w.text = one_text ts cs us ds v.text w.text v.made w.made in (
      v.handed ∙ ap (λ (x : List ℕ). record { length = length x; number = 0; line = 0 }) e ∙ sym w.handed,
      v.bytes ∙ ap (put lent 0) e ∙ sym w.bytes,
    )

-- The other way round.

text_swap : (ts : List Table) (cs : List (List ℕ)) (us : List Table) (ds : List (List ℕ)) (x : List ℕ) → OneText ts cs us ds x → OneText us ds ts cs x
text_swap ts cs us ds x a = record {
  tables = a.tables;
  cars = a.cars;
  types_joined = joined_swap table_kind ts us a.tables a.types_joined;
  cars_joined = joined_swap number_of cs ds a.cars a.cars_joined;
  is = a.is;
}

module _ (lent : List ℕ) (reply : MergeReply) (left : List ℕ) where
  verdict_swap : (ts : List Table) (cs : List (List ℕ)) (us : List Table) (ds : List (List ℕ)) (v : Verdict)
      → Done (merging_by v ts cs us ds) lent reply left → Done (merging_by v us ds ts cs) lent reply left
  verdict_swap ts cs us ds (refuses n) w = w
  verdict_swap ts cs us ds accepts w = record { text = w.text; made = text_swap ts cs us ds w.text w.made; handed = w.handed; bytes = w.bytes }

  module _ (s r : List ℕ) (z : reply.number ≡ 0) where
    sheets_swap : (x y : SheetRead) → sheet_of s ≡ x → sheet_of r ≡ y → Done (merging_of (half_of x) (half_of y)) lent reply left → Done (merging_of (half_of y) (half_of x)) lent reply left
    sheets_swap (refused_at line number) y p q w = absurd (numbered lent reply left (own_number s p) w z)
    sheets_swap (whole ts h) (refused_at line number) p q w = absurd (numbered lent reply left (own_number r q) w z)
    sheets_swap (whole ts h) (whole us k) p q w =
        let same = tests_swap ts (cars_held ts h) us (cars_held us k) (held_known ts h ((by_grammar s).good ts h p)) (held_known us k ((by_grammar r).good us k q)) in
        subst (λ (v : Verdict). Done (merging_by v us (cars_held us k) ts (cars_held ts h)) lent reply left) (sym same)
        (verdict_swap ts (cars_held ts h) us (cars_held us k) (first (merge_tests ts (cars_held ts h) us (cars_held us k))) w)

    swapped : Merges s r lent reply left → Merges r s lent reply left
    swapped m = go (ltb (length lent) least_merge_buffer) m
      where
        go : (b : Bool) → Done (cond b (refused 0 1) (merging_of (half_of (sheet_of s)) (half_of (sheet_of r)))) lent reply left
            → Done (cond b (refused 0 1) (merging_of (half_of (sheet_of r)) (half_of (sheet_of s)))) lent reply left
        go true w = w
        go false w = sheets_swap (sheet_of s) (sheet_of r) refl refl w

-- 12 is the first of a car's own tests, and no other has its number.

abbrev lacks : ℕ → List Test → Bool
lacks n [] = true
lacks n (t ∷ ts) = not (eqb t.number n) && lacks n ts

not_that : (n : ℕ) (ts : List Test) → lacks n ts ≡ true → first ts ≡ refuses n → ⊥
not_that n [] l e = never (cc)
not_that n (t ∷ ts) l e = go (not_that n ts) t.applies (both_hold (not (eqb t.number n)) (lacks n ts) l) e
  where
    go : (lacks n ts ≡ true → first ts ≡ refuses n → ⊥) → (b : Bool) → (not (eqb t.number n) ≡ true) × (lacks n ts ≡ true) → cond b (refuses t.number) (first ts) ≡ refuses n → ⊥
    go later true (p, q) e = let f : t.number ≡ n = cc in true≢false (sym p ∙ ap not (eq-eqb t.number n f))
    go later false (p, q) e = later q e

-- the tests behind the first
abbrev behind : List Test → List Test
behind [] = []
behind (t ∷ ts) = ts

first_of : (n : ℕ) (b : Bool) (ts : List Test) → lacks n ts ≡ true → first (refuse_if n b ∷ ts) ≡ refuses n → b ≡ true
first_of n true ts l e = refl
first_of n false ts l e = absurd (not_that n ts l e)

by_twelve : (ts : List Table) (x : List ℕ) → ByTwelve ts x
unfolding car_tests measured_tests
by_twelve ts x = record { lacking = λ e. rw e; refused = λ e. first_of 12 (unknown (kind_of x) ts) (behind (car_tests ts (cast x))) refl e }

pub merge_laws : (s r : List ℕ) → MergeLaws s r
merge_laws s r = record {
  once = λ lent a b left left' m n. one_done (merging_in (length lent) (half_of (sheet_of s)) (half_of (sheet_of r))) lent a b left left' m n;
  swapped = λ lent reply left z m. swapped lent reply left s r z m;
  first_held = λ ts history e. (held_on_sheet ts ((by_grammar s).good ts history e).accepted history).by_train;
  second_held = λ us history e. (held_on_sheet us ((by_grammar r).good us history e).accepted history).by_train;
  by_twelve = by_twelve;
}

-- The lists that are worked out.

module _ (ts : List Table) (cs : List (List ℕ)) (us : List Table) (ds : List (List ℕ)) (h : Holds ts cs) (g : Holds us ds) where
  abbrev thirty_three : Bool
  thirty_three = rows_differ ts us || type_elsewhere ts us cs || type_elsewhere us ts ds

  by_size : (a b : Bool) (m n m' n' : ℕ) → (a ≡ false → m' ≡ m) → (b ≡ false → n' ≡ n)
      → first (refuse_if 33 a ∷ refuse_if 34 b ∷ refuse_if 35 (ltb most_tables m || ltb most_cars n) ∷ []) ≡ first (refuse_if 33 a ∷ refuse_if 34 b ∷ refuse_if 35 (ltb most_tables m' || ltb most_cars n') ∷ [])
  by_size true b m n m' n' p q = refl
  by_size false true m n m' n' p q = refl
  by_size false false m n m' n' p q = rw (p refl, q refl)

  same_tests : first (merge_tests ts cs us ds) ≡ first (conflict_tests ts cs us ds ++ size_tests (joined_tables ts us) (joined_cars cs ds))
  same_tests =
      by_size thirty_three (held_on_both cs ds) (types_together ts us) (length cs + length ds) (length (joined_tables ts us)) (length (joined_cars cs ds))
      (λ e. tables-length ts cs us ds h g (neither (rows_differ ts us) (type_elsewhere ts us cs) (neither (rows_differ ts us || type_elsewhere ts us cs) (type_elsewhere us ts ds) e).0).0)
      (λ e. cars-length ts cs us ds h g e)

  done_as : (lent : List ℕ) (v : Verdict) → first (merge_tests ts cs us ds) ≡ v
      → Done (merging_by v ts cs us ds) lent (reply_to (merged_by v (joined_tables ts us) (joined_cars cs ds))) (written_for (merged_by v (joined_tables ts us) (joined_cars cs ds)) lent)
  done_as lent (refuses n) e = (refl, refl)
  done_as lent accepts e =
      let c = clear ts cs us ds e in
      record {
        text = sheet_text (joined_tables ts us) (map enters (joined_cars cs ds));
        made = record {
          tables = joined_tables ts us;
          cars = joined_cars cs ds;
          types_joined = ordered_tables ts cs us ds h g c.rows;
          cars_joined = ordered_cars ts cs us ds h g c.numbers;
          is = refl;
        };
        handed = refl;
        bytes = refl;
      }

  pub done_by_lists : (lent : List ℕ)
      → Done (merging_by (first (merge_tests ts cs us ds)) ts cs us ds) lent
      (reply_to (merged_by (first (conflict_tests ts cs us ds ++ size_tests (joined_tables ts us) (joined_cars cs ds))) (joined_tables ts us) (joined_cars cs ds)))
      (written_for (merged_by (first (conflict_tests ts cs us ds ++ size_tests (joined_tables ts us) (joined_cars cs ds))) (joined_tables ts us) (joined_cars cs ds)) lent)
  done_by_lists lent =
      subst (λ (v : Verdict). Done (merging_by (first (merge_tests ts cs us ds)) ts cs us ds) lent (reply_to (merged_by v (joined_tables ts us) (joined_cars cs ds))) (written_for (merged_by v (joined_tables ts us) (joined_cars cs ds)) lent))
      same_tests (done_as lent (first (merge_tests ts cs us ds)) refl)

-- of any two sheets
pub done_of : (s r lent : List ℕ) (x y : SheetRead) → sheet_of s ≡ x → sheet_of r ≡ y
    → Done (merging_of (half_of x) (half_of y)) lent (reply_to (merged_of (half_of x) (half_of y))) (written_for (merged_of (half_of x) (half_of y)) lent)
done_of s r lent (refused_at line number) y p q = (refl, refl)
done_of s r lent (whole ts h) (refused_at line number) p q = (refl, refl)
done_of s r lent (whole ts h) (whole us k) p q =
    done_by_lists ts (cars_held ts h) us (cars_held us k) (held_known ts h ((by_grammar s).good ts h p)) (held_known us k ((by_grammar r).good us k q)) lent
