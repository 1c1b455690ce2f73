-- Two sheets to which none of 33 to 35 applies: their tables and cars together.
use Prim.Native.Nat.{ℕ, ◌+◌, ◌≤◌}
use mathlib.Core.Path.{◌≡◌, refl, ap, sym, ◌∙◌}
use mathlib.Core.Bool.{Bool, true, false, not, ◌||◌, ◌&&◌, true≢false}
use mathlib.Core.Logic.{inl, inr}
use mathlib.Core.List.{List, [], ◌∷◌}
use native.Mathlib.Omega.{arith}
use lib.Dec.{ltb}
use lib.ListN.{length}
use borrow.Author.Tests.{ltb-false}
use Rattle.base.specs.Answer.{accepts, first}
use Rattle.base.specs.Limits.{most_tables, most_cars}
use Rattle.base.specs.Lists.{Each}
use Rattle.base.specs.Numbers.{outside}
use Rattle.base.proofs.Choice.{neither}
use Rattle.table.specs.Table.{Table, unknown, rows_of}
use Rattle.table.proofs.Table.{passing}
use Rattle.car.specs.Measured.{measured_tests, v0, six_figures}
use Rattle.car.specs.Car.{car_tests, own_answer}
use Rattle.grammar.specs.Grammar.{CarNumbers}
use Rattle.merge_spec.specs.Order.{In, Joined}
use Rattle.merge_spec.specs.Held.{number_of, kind_of}
use Rattle.merge_spec.specs.Merge.{table_kind, rows_differ, type_elsewhere, held_on_both, types_together, merge_tests}
use Rattle.merge_spec.specs.Inner.{Distinct, Holds, joined_tables, joined_cars}
use Rattle.merge_spec.proofs.Order.{each_in, in_each, joined_one, rising_distinct}
use Rattle.merge_spec.proofs.Tables.{apart, tables_agree, joined_accepted, as_first, as_second}
use Rattle.merge_spec.proofs.Joining.{none_shared, tables_joined, cars_joined}
use Rattle.merge_laws.proofs.Kept.{cast}
use Rattle.merge_laws.proofs.Counting.{types_counted, cars_counted}

-- A car's own tests and figures look at the tables by its type only.
same_answer : (ms ts : List Table) (x : List ℕ) → unknown (kind_of x) ms ≡ unknown (kind_of x) ts → rows_of (kind_of x) ms ≡ rows_of (kind_of x) ts → own_answer ms (cast x) ≡ own_answer ts (cast x)
unfolding own_answer car_tests measured_tests six_figures v0
same_answer ms ts x p q = rw (p, q)

-- 33 by the cars: where it does not apply, a type that the car's sheet lacks is on neither.
nowhere : (ts us : List Table) (cars : List (List ℕ)) → type_elsewhere ts us cars ≡ false → (x : List ℕ) → In x cars → unknown (kind_of x) ts ≡ true → unknown (kind_of x) us ≡ true
nowhere ts us [] e x i u = absurd i
nowhere ts us (y ∷ cars) e x i u = go (nowhere ts us cars) i (neither (unknown (kind_of y) ts && not (unknown (kind_of y) us)) (type_elsewhere ts us cars) e)
  where
    lacks : (a b : Bool) → (a && not b) ≡ false → a ≡ true → b ≡ true
    lacks true true p q = refl
    lacks true false p q = absurd (true≢false p)
    lacks false b p q = absurd (true≢false (sym q))

    go : (type_elsewhere ts us cars ≡ false → (x : List ℕ) → In x cars → unknown (kind_of x) ts ≡ true → unknown (kind_of x) us ≡ true)
        → In x (y ∷ cars) → ((unknown (kind_of y) ts && not (unknown (kind_of y) us)) ≡ false) × (type_elsewhere ts us cars ≡ false) → unknown (kind_of x) us ≡ true
    go later (inl q) (p, r) =
        ap (λ (z : List ℕ). unknown (kind_of z) us) (sym q) ∙ lacks (unknown (kind_of y) ts) (unknown (kind_of y) us) p (ap (λ (z : List ℕ). unknown (kind_of z) ts) q ∙ u)
    go later (inr j) (p, r) = later r x j u

-- What the tests leave where none applies.

module _ (ts : List Table) (cs : List (List ℕ)) (us : List Table) (ds : List (List ℕ)) where
  pub record Clear : Type 0 where
    pub rows : rows_differ ts us ≡ false
    pub first_types : type_elsewhere ts us cs ≡ false
    pub second_types : type_elsewhere us ts ds ≡ false
    pub numbers : held_on_both cs ds ≡ false
    pub four : types_together ts us ≤ most_tables
    pub sixty : length cs + length ds ≤ most_cars

  pub clear : first (merge_tests ts cs us ds) ≡ accepts → Clear
  clear e =
      let p = passing 33 (rows_differ ts us || type_elsewhere ts us cs || type_elsewhere us ts ds) _ e in
      let q = passing 34 (held_on_both cs ds) _ p.1 in
      let r = passing 35 (ltb most_tables (types_together ts us) || ltb most_cars (length cs + length ds)) _ q.1 in
      let a = neither (rows_differ ts us || type_elsewhere ts us cs) (type_elsewhere us ts ds) p.0 in
      let b = neither (rows_differ ts us) (type_elsewhere ts us cs) a.0 in
      let c = neither (ltb most_tables (types_together ts us)) (ltb most_cars (length cs + length ds)) r.0 in
      record {
        rows = b.0;
        first_types = b.1;
        second_types = a.1;
        numbers = q.0;
        four = ltb-false most_tables (types_together ts us) c.0;
        sixty = ltb-false most_cars (length cs + length ds) c.1;
      }

  module _ (h : Holds ts cs) (g : Holds us ds) where
    pub first_distinct : Distinct table_kind ts
    first_distinct = (apart [] ts h.accepted).distinct

    pub second_distinct : Distinct table_kind us
    second_distinct = (apart [] us g.accepted).distinct

    -- the lists in order, and how long they are
    pub ordered_tables : rows_differ ts us ≡ false → Joined table_kind ts us (joined_tables ts us)
    ordered_tables e = tables_joined ts us first_distinct second_distinct e

    pub ordered_cars : held_on_both cs ds ≡ false → Joined number_of cs ds (joined_cars cs ds)
    ordered_cars e = cars_joined cs ds h.distinct g.distinct e

    pub tables-length : rows_differ ts us ≡ false → length (joined_tables ts us) ≡ types_together ts us
    tables-length e = types_counted ts us first_distinct second_distinct (tables_agree ts us second_distinct e)

    pub cars-length : held_on_both cs ds ≡ false → length (joined_cars cs ds) ≡ length cs + length ds
    cars-length e = cars_counted cs ds h.distinct g.distinct (none_shared cs ds e)

    -- any lists that are so joined
    module _ (c : Clear) (ms : List Table) (es : List (List ℕ)) (j : Joined table_kind ts us ms) (k : Joined number_of cs ds es) where
      some_table : (ts ms : List Table) → 1 ≤ length ts → ((t : Table) → In t ts → In t ms) → 1 ≤ length ms
      some_table [] ms k f = absurd (omega arith)
      some_table (t ∷ ts) [] k f = absurd (f t (inl refl))
      some_table (t ∷ ts) (m ∷ ms) k f = omega arith

      pub are_tables : ms ≡ joined_tables ts us
      are_tables = joined_one table_kind ts us ms (joined_tables ts us) j (ordered_tables c.rows)

      pub are_cars : es ≡ joined_cars cs ds
      are_cars = joined_one number_of cs ds es (joined_cars cs ds) k (ordered_cars c.numbers)

      pub few_tables : length ms ≤ most_tables
      few_tables = omega (arith, ap length are_tables, tables-length c.rows, c.four)

      -- what holds of each car of either holds of each
      of_both : (P : List ℕ → Type 0) → Each P cs → Each P ds → Each P es
      of_both P a b = each_in P es (λ x i. elim (k.only x i) [ inl m ↦ in_each P cs a x m | inr m ↦ in_each P ds b x m ])

      pub joined_known : Holds ms es
      joined_known = record {
        some = some_table ts ms h.some j.first;
        accepted = joined_accepted ts us ms j h.accepted g.accepted few_tables;
        each = of_both CarNumbers h.each g.each;
        numbered = of_both (λ x. outside 1 _ (number_of x) ≡ false) h.numbered g.numbered;
        distinct = rising_distinct number_of es k.rising;
        sixty = omega (arith, ap length are_cars, cars-length c.numbers, c.sixty);
      }

      -- each car is answered as on its own sheet
      pub as_on_first : (x : List ℕ) → In x cs → own_answer ms (cast x) ≡ own_answer ts (cast x)
      as_on_first x i = let a = as_first ts us ms j (kind_of x) (nowhere ts us cs c.first_types x i) in same_answer ms ts x a.unknown_same a.rows_same

      pub as_on_second : (x : List ℕ) → In x ds → own_answer ms (cast x) ≡ own_answer us (cast x)
      as_on_second x i = let a = as_second ts us ms j (kind_of x) (nowhere us ts ds c.second_types x i) in same_answer ms us x a.unknown_same a.rows_same
