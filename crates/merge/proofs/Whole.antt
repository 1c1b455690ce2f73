-- Two sheets that were read: what merging them gives, by what the code finds.
use Prim.Native.Nat.{ℕ, ◌+◌, ◌≤◌}
use mathlib.Core.Path.{◌≡◌, ap, ap₂, sym, subst, ◌∙◌}
use mathlib.Core.Bool.{true, false, ◌||◌}
use mathlib.Core.List.{List, [], ◌∷◌, ◌++◌, map}
use native.Mathlib.Omega.{arith}
use lib.Dec.{ltb}
use lib.ListN.{length, take}
use lib.Seq.{length-take-le}
use borrow.Author.Tests.{le-ltb, ltb-false}
use Rattle.base.specs.Answer.{Verdict, accepts, refuses, first}
use Rattle.base.specs.Limits.{most_cars, most_tables}
use Rattle.base.specs.Lists.{Each}
use Rattle.base.proofs.Answer.{refuses-append, neither_applies}
use Rattle.base.proofs.Choice.{neither}
use Rattle.base.proofs.Lists.{length-map}
use Rattle.table.specs.Table.{Table}
use Rattle.table.specs.Layout.{tables_in}
use Rattle.consist.proofs.Places.{map-map}
use Rattle.reading.specs.declared.letter.Line.{Line}
use Rattle.grammar.specs.Text.{text_of}
use Rattle.grammar.proofs.Text.{text-append}
use Rattle.grammar.specs.Grammar.{enters, as_line, cars_in, c_line, e_line, tables_lines, CarNumbers}
use Rattle.grammar.specs.Sheet.{sheet_of}
use Rattle.holding.specs.Layout.{history_of}
use Rattle.merge_held.specs.declared.Held.{Held}
use Rattle.merge_held.specs.Inner.{cars_at, HeldIn}
use Rattle.merge_order.specs.Inner.{place_of}
use Rattle.merge_spec.specs.Merge.{rows_differ, type_elsewhere, held_on_both, merge_tests, holds, half_of, least_merge_buffer}
use Rattle.merge_spec.specs.Inner.{Holds, joined_tables, joined_cars, kept_from, Merged, refused, sheet, conflict_tests, size_tests, merged_by, merged_of, merged_text}
use Rattle.merge_lines.specs.declared.read.ReadSheet.{ReadSheet}
use Rattle.merge_lines.proofs.Known.{its_parts, its_count}
use Rattle.merge_laws.proofs.Kept.{held_on_sheet}
use Rattle.merge_laws.proofs.Holding.{kept_known}
use Rattle.merge_laws.proofs.Clear.{clear, joined_known, ordered_tables, ordered_cars, tables-length, cars-length}
use Rattle.merge_laws.proofs.Made.{cars_alone, short_sheet}
use Rattle.merge_write.specs.Inner.{Stands, car_by, WithinPlace, tables_text}
use Rattle.merge.specs.Inner.{merged_sheets, HeldAt, text_for, SheetReady}
use Rattle.merge.proofs.Standing.{cars_order, cars_stand, cars_places, tables_order, tables_counted, tables_text_lem, tables_within}
use Rattle.merge.proofs.Fitting.{parts-length}

pub held_at : {s : ReadSheet} {h : Held} → HeldIn s h → HeldAt s h
held_at i = record { few = i.few; numbers = i.numbers; places = i.places }

-- what is to be merged of a sheet that was read: the cars that it holds are those that it keeps line by line
pub half_is : (s : ReadSheet) → half_of (sheet_of s.text.now) ≡ holds (tables_in s.tables) (kept_from [] (history_of s.fields.now s.lines))
half_is s =
    let ts : List Table = tables_in s.tables in
    ap half_of s.read ∙ ap (holds ts) (held_on_sheet ts (its_parts s).accepted (history_of s.fields.now s.lines)).kept

module _ (x y : ReadSheet) where
  abbrev ts : List Table
  ts = tables_in x.tables

  abbrev us : List Table
  us = tables_in y.tables

  abbrev cs : List (List ℕ)
  cs = kept_from [] (history_of x.fields.now x.lines)

  abbrev ds : List (List ℕ)
  ds = kept_from [] (history_of y.fields.now y.lines)

  abbrev pub merged : Merged
  merged = merged_sheets x.text.now y.text.now

  merged_is : merged ≡ merged_of (holds ts cs) (holds us ds)
  merged_is = ap₂ merged_of (half_is x) (half_is y)

  ours : Holds ts cs
  ours = kept_known ts (history_of x.fields.now x.lines) (its_parts x)

  theirs : Holds us ds
  theirs = kept_known us (history_of y.fields.now y.lines) (its_parts y)

  -- the cars that they hold, and what 33 and 34 say of them
  pub record Tested : Type 0 where
    pub a : Held
    pub b : Held
    pub i : HeldIn x a
    pub j : HeldIn y b
    pub verdict : Verdict
    pub told : verdict ≡ first (conflict_tests ts (cars_at x a) us (cars_at y b))

  module _ (tested : Tested) where
    abbrev a : Held
    a = tested.a

    abbrev b : Held
    b = tested.b

    told_held : {v : Verdict} → tested.verdict ≡ v → first (conflict_tests ts cs us ds) ≡ v
    told_held e = sym (tested.told ∙ ap₂ (λ (k l : List (List ℕ)). first (conflict_tests ts k us l)) tested.i.lines tested.j.lines) ∙ e

    -- refused by 33 or 34
    pub clashing : {number : ℕ} → tested.verdict ≡ refuses number → merged ≡ refused 0 number
    clashing e = merged_is ∙ ap (λ (v : Verdict). merged_by v (joined_tables ts us) (joined_cars cs ds))
        (refuses-append (size_tests (joined_tables ts us) (joined_cars cs ds)) (conflict_tests ts cs us ds) (told_held e))

    -- where neither does: tables and cars as entries in order
    pub record Ordered : Type 0 where
      pub none : tested.verdict ≡ accepts
      pub size : length x.tables.types ≡ most_tables
      pub size' : length y.tables.types ≡ most_tables
      pub torder : List ℕ
      pub corder : List ℕ
      pub tables : ℕ
      pub cars : ℕ
      pub tsize : length torder ≡ most_tables + most_tables
      pub csize : length corder ≡ most_cars + most_cars
      pub te : take tables torder ≡ tables_order x y size size'
      pub tf : tables ≤ x.tables.count + y.tables.count
      pub ce : take cars corder ≡ cars_order x y a b tested.i tested.j
      pub cf : cars ≤ a.count + b.count

    module _ (ordered : Ordered) where
      abbrev torder : List ℕ
      torder = ordered.torder

      abbrev corder : List ℕ
      corder = ordered.corder

      abbrev tables : ℕ
      tables = ordered.tables

      abbrev cars : ℕ
      cars = ordered.cars

      no_clash : ((rows_differ ts us || type_elsewhere ts us cs || type_elsewhere us ts ds) ≡ false) × (held_on_both cs ds ≡ false)
      no_clash = neither_applies 33 34 (rows_differ ts us || type_elsewhere ts us cs || type_elsewhere us ts ds) (held_on_both cs ds) (told_held ordered.none)

      abbrev ms : List Table
      ms = joined_tables ts us

      abbrev es : List (List ℕ)
      es = joined_cars cs ds

      cars_are : map (car_by x y) (take cars corder) ≡ es
      cars_are = ap (map (car_by x y)) ordered.ce ∙ cars_stand x y a b tested.i tested.j

      few_tables : tables ≤ length torder
      few_tables = omega (arith, ordered.tf, its_count x, its_count y, ordered.tsize)

      few_cars : cars ≤ length corder
      few_cars = omega (arith, ordered.cf, tested.i.few, tested.j.few, ordered.csize)

      tables_count : tables ≡ length ms
      tables_count = sym (length-take-le tables torder few_tables) ∙ ap length ordered.te ∙ tables_counted x y ordered.size ordered.size'

      taken_count : length (take cars corder) ≡ length es
      taken_count = sym (length-map (car_by x y) (take cars corder)) ∙ ap length cars_are

      cars_count : cars ≡ length es
      cars_count = sym (length-take-le cars corder few_cars) ∙ taken_count

      by_counts : merged ≡ merged_by (first (size_tests ms es)) ms es
      by_counts = merged_is ∙ rw (no_clash.0, no_clash.1)

      -- 35, by the numbers of tables and cars
      pub too_many : (ltb most_tables tables || ltb most_cars cars) ≡ true → merged ≡ refused 0 35
      too_many k = by_counts ∙ rw (← tables_count, ← cars_count, k)

      module _ (k : (ltb most_tables tables || ltb most_cars cars) ≡ false) where
        four : tables ≤ most_tables
        four = ltb-false most_tables tables (neither (ltb most_tables tables) (ltb most_cars cars) k).0

        sixty : cars ≤ most_cars
        sixty = ltb-false most_cars cars (neither (ltb most_tables tables) (ltb most_cars cars) k).1

        pub whole : merged ≡ sheet ms es
        whole = by_counts ∙ rw (← tables_count, ← cars_count, k)

        clash_rows : rows_differ ts us ≡ false
        clash_rows = (neither (rows_differ ts us) (type_elsewhere ts us cs) (neither (rows_differ ts us || type_elsewhere ts us cs) (type_elsewhere us ts ds) no_clash.0).0).0

        accepted : first (merge_tests ts cs us ds) ≡ accepts
        accepted =
            rw (
              no_clash.0,
              no_clash.1,
              sym (tables-length ts cs us ds ours theirs clash_rows),
              sym (cars-length ts cs us ds ours theirs no_clash.1),
              le-ltb most_tables (length ms) (omega (arith, tables_count, four)),
              le-ltb most_cars (length es) (omega (arith, cars_count, sixty)),
            )

        known : Holds ms es
        known =
            joined_known ts cs us ds ours theirs (clear ts cs us ds accepted) ms es (ordered_tables ts cs us ds ours theirs clash_rows) (ordered_cars ts cs us ds ours theirs no_clash.1)

        tables_are : tables_text x y (take tables torder) ≡ text_of (tables_lines ms)
        tables_are = ap (tables_text x y) ordered.te ∙ tables_text_lem x y ordered.size ordered.size'

        pub text_is : text_for x y (take tables torder) (take cars corder) ≡ merged_text ms es
        text_is =
            ap₂ (λ (k : List ℕ) (l : List (List ℕ)). k ++ text_of (map c_line l ++ (e_line (length (take cars corder)) ∷ []))) tables_are cars_are
            ∙ ap₂ (λ (l : List Line) (k : ℕ). text_of (tables_lines ms) ++ text_of (l ++ (e_line k ∷ []))) (sym (map-map as_line enters es)) (taken_count ∙ sym (cars_alone es))
            ∙ sym (text-append (tables_lines ms) (map as_line (map enters es) ++ (e_line (cars_in (map enters es)) ∷ [])))

        pub ready : (room : ℕ) → least_merge_buffer ≤ room → SheetReady x y (take tables torder) (take cars corder) room
        ready room h =
            let all : length (text_for x y (take tables torder) (take cars corder)) ≤ room = omega (arith, ap length text_is, short_sheet ms es known) in
            let parts = parts-length (tables_text x y (take tables torder)) (map c_line (map (car_by x y) (take cars corder))) (length (take cars corder)) in
            record {
              front = record {
                within = subst (Each (λ entry. WithinPlace x y (place_of entry))) (sym ordered.te) (tables_within x y ordered.size ordered.size');
                space = omega (arith, parts, all);
              };
              rear = record {
                places = subst (Each (λ x. Stands (place_of x))) (sym ordered.ce) (cars_places x y a b tested.i tested.j);
                each = subst (Each CarNumbers) (sym cars_are) known.each;
                space = omega (arith, parts, all);
              };
              sixty = omega (arith, taken_count, cars_count, sixty);
              space = all;
            }
