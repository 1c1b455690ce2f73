-- What the entries in their order stand for: the joined cars, and the joined tables, whose bytes are those that are copied.
use Prim.Native.Nat.{ℕ, zero, suc, ◌+◌, ◌-◌, ◌≤◌, ◌<◌}
use mathlib.Core.Path.{◌≡◌, refl, ap, ap₂, sym, subst, ◌∙◌}
use mathlib.Core.Bool.{Bool, cond}
use mathlib.Core.List.{List, [], ◌∷◌, ◌++◌, map}
use native.Mathlib.Omega.{arith}
use lib.Dec.{ltb}
use lib.ListN.{length, get_or, take, drop}
use borrow.Author.Tests.{lt-ltb, le-ltb}
use Rattle.base.specs.Limits.{most_tables}
use Rattle.base.specs.Lists.{Each}
use Rattle.base.proofs.Lists.{length-map}
use Rattle.table.specs.Table.{Table}
use Rattle.table.specs.Layout.{tables_from, tables_in}
use Rattle.merge_held.specs.declared.Held.{Held}
use Rattle.merge_held.specs.Inner.{most_lines, cars_at, HeldIn}
use Rattle.holding.specs.Layout.{history_of}
use Rattle.merge_order.specs.Inner.{half_span, span, key_of, place_of, entry_of, entries_of, car_in}
use Rattle.grammar.specs.Text.{text_of}
use Rattle.grammar.specs.Grammar.{table_lines, tables_lines}
use Rattle.grammar.proofs.Text.{text-append}
use Rattle.merge_spec.specs.Held.{number_of}
use Rattle.merge_spec.specs.Merge.{table_kind}
use Rattle.merge_spec.specs.Inner.{inserted_all, joined, joined_tables, joined_cars, kept_from}
use Rattle.merge_spec.proofs.Order.{SameKey, each_all, map_all}
use Rattle.merge_write.specs.Inner.{Stands, car_by, table_text, Within, text_place, WithinPlace, tables_text}
use Rattle.merge_order.proofs.Rest.{drop_next}
use Rattle.merge_lines.specs.declared.read.ReadSheet.{ReadSheet}
use Rattle.merge_lines.proofs.Known.{its_count}
use Rattle.merge.proofs.Copied.{table, table_copied, table_within}
use Rattle.merge.specs.Inner.{car_entries, table_entries}

-- An entry gives its key and its place back.

entry_key : (k p : ℕ) → p < span → key_of (entry_of k p) ≡ k
entry_key k p h = omega arith

entry_place : (k p : ℕ) → p < span → place_of (entry_of k p) ≡ p
entry_place k p h = omega arith

-- Places below `half` are the first sheet's, those from there on the second's.
module _ (half : ℕ) (few : half ≤ half_span) (n p : ℕ) where
  at_first : p < half → place_of (entry_of n (0 + p)) ≡ p
  at_first h = let q : 0 + p ≡ p = omega arith in ap (λ (x : ℕ). place_of (entry_of n x)) q ∙ entry_place n p (omega arith)

  at_second : p < half_span → place_of (entry_of n (half + p)) ≡ half + p
  at_second h = entry_place n (half + p) (omega arith)

  -- what stands at an entry's place
  module _ {A : Type 0} (ours theirs : ℕ → A) where
    abbrev chosen : ℕ → A
    chosen q = cond (ltb q half) (ours q) (theirs (q - half))

    of_first : p < half → chosen (place_of (entry_of n (0 + p))) ≡ ours p
    of_first h = ap chosen (at_first h) ∙ ap (λ (b : Bool). cond b (ours p) (theirs (p - half))) (lt-ltb p half h)

    of_second : p < half_span → chosen (place_of (entry_of n (half + p))) ≡ theirs p
    of_second h =
        let q : half + p - half ≡ p = omega arith in
        ap chosen (at_second h) ∙ ap (λ (b : Bool). cond b (ours (half + p)) (theirs (half + p - half))) (le-ltb (half + p) half (omega arith)) ∙ ap theirs q

-- Entries of the elements `xs`, each with its element's key, and P holds of each.
module _ {A : Type 0} (key : A → ℕ) (at : ℕ → A) (P : ℕ → Type 0) where
  record Entries (l : List ℕ) (xs : List A) : Type 0 where
    stand : Each (SameKey key_of key at) l
    are : map at l ≡ xs
    each : Each P l

  -- those of two lists, put in order, are entries of the joined list
  in_order : (k l : List ℕ) (xs ys : List A) → Entries k xs → Entries l ys → Entries (inserted_all key_of k (inserted_all key_of l [])) (joined key xs ys)
  unfolding joined
  in_order k l xs ys a b =
      let inner = each_all key_of key at (SameKey key_of key at) l [] b.stand tt in
      record {
        stand = each_all key_of key at (SameKey key_of key at) k (inserted_all key_of l []) a.stand inner;
        are =
            map_all key_of key at k (inserted_all key_of l []) a.stand inner
            ∙ ap₂ (λ (x y : List A). inserted_all key x y) a.are (map_all key_of key at l [] b.stand tt ∙ ap (λ (x : List A). inserted_all key x []) b.are);
        each = each_all key_of key at P k (inserted_all key_of l []) a.each (each_all key_of key at P l [] b.each tt);
      }

-- The cars.

module _ (f g : ReadSheet) where
  abbrev CarEntries : List ℕ → List (List ℕ) → Type 0
  CarEntries = Entries number_of (car_by f g) (λ entry. Stands (place_of entry))

  first_place : (n p : ℕ) → p < most_lines → car_by f g (entry_of n (0 + p)) ≡ car_in f.fields.now p
  first_place n p h = of_first half_span (omega arith) n p (car_in f.fields.now) (car_in g.fields.now) (omega arith)

  second_place : (n p : ℕ) → p < most_lines → car_by f g (entry_of n (half_span + p)) ≡ car_in g.fields.now p
  second_place n p h = of_second half_span (omega arith) n p (car_in f.fields.now) (car_in g.fields.now) (omega arith)

  module _ (offset : ℕ) (few : offset ≤ half_span) (fits : (p : ℕ) → p < most_lines → Stands (offset + p)) (c : ReadSheet) (at : (n p : ℕ) → p < most_lines → car_by f g (entry_of n (offset + p)) ≡ car_in c.fields.now p) where
    entries : (ps : List ℕ) → Each (λ p. p < most_lines) ps → CarEntries (entries_of offset (map number_of (map (car_in c.fields.now) ps)) ps) (map (car_in c.fields.now) ps)
    entries [] h = record { stand = tt; are = refl; each = tt }
    entries (p ∷ ps) (h, hs) =
        let r = entries ps hs in
        let n : ℕ = number_of (car_in c.fields.now p) in
        let e = at n p h in
        record {
          stand = (entry_key n (offset + p) (omega arith) ∙ ap number_of (sym e), r.stand);
          are = ap₂ (λ (x : List ℕ) (y : List (List ℕ)). x ∷ y) e r.are;
          each = (subst Stands (sym (entry_place n (offset + p) (omega arith))) (fits p h), r.each);
        }

    held_entries : (h : Held) → HeldIn c h → CarEntries (car_entries offset h) (kept_from [] (history_of c.fields.now c.lines))
    held_entries h i =
        subst (λ (cars : List (List ℕ)). CarEntries (car_entries offset h) cars) i.lines
        (subst (λ (ks : List ℕ). CarEntries (entries_of offset ks (take h.count h.places)) (cars_at c h)) (sym i.numbers) (entries (take h.count h.places) i.places))

  module _ (a b : Held) (i : HeldIn f a) (j : HeldIn g b) where
    abbrev pub cars_order : List ℕ
    cars_order = inserted_all key_of (car_entries 0 a) (inserted_all key_of (car_entries half_span b) [])

    cars_ordered : CarEntries cars_order (joined_cars (kept_from [] (history_of f.fields.now f.lines)) (kept_from [] (history_of g.fields.now g.lines)))
    cars_ordered =
        in_order number_of (car_by f g) (λ entry. Stands (place_of entry)) (car_entries 0 a) (car_entries half_span b) (kept_from [] (history_of f.fields.now f.lines)) (kept_from [] (history_of g.fields.now g.lines))
        (held_entries 0 (omega arith) (λ p h. omega arith) f first_place a i)
        (held_entries half_span (omega arith) (λ p h. omega arith) g second_place b j)

    pub cars_stand : map (car_by f g) cars_order ≡ joined_cars (kept_from [] (history_of f.fields.now f.lines)) (kept_from [] (history_of g.fields.now g.lines))
    cars_stand = cars_ordered.are

    pub cars_places : Each (λ e. Stands (place_of e)) cars_order
    cars_places = cars_ordered.each

-- The tables.

-- n numbers from k on
abbrev from : ℕ → ℕ → List ℕ
from k zero = []
from k (suc n) = k ∷ from (k + 1) n

four_places : (n : ℕ) → n ≤ most_tables → take n (0 ∷ 1 ∷ 2 ∷ 3 ∷ []) ≡ from 0 n
four_places zero h = refl
four_places (suc zero) h = refl
four_places (suc (suc zero)) h = refl
four_places (suc (suc (suc zero))) h = refl
four_places (suc (suc (suc (suc zero)))) h = refl
four_places (suc (suc (suc (suc (suc n))))) h = absurd (omega arith)

module _ (x y : ReadSheet) (size : length x.tables.types ≡ most_tables) (size' : length y.tables.types ≡ most_tables) where
  -- the table at a place: the first sheet's from 0 on, the second's from 4 on
  abbrev our_table : ℕ → Table
  our_table k = table x k

  abbrev their_table : ℕ → Table
  their_table k = table y k

  abbrev table_place : ℕ → Table
  table_place p = cond (ltb p most_tables) (our_table p) (their_table (p - most_tables))

  abbrev bytes_place : ℕ → List ℕ
  bytes_place p = text_place x y p

  abbrev standing : ℕ → Table
  standing entry = table_place (place_of entry)

  -- its bytes are found
  pub record Copied (entry : ℕ) : Type 0 where
    pub text : bytes_place (place_of entry) ≡ text_of (table_lines (standing entry))
    pub within : WithinPlace x y (place_of entry)

  abbrev TableEntries : List ℕ → List Table → Type 0
  TableEntries = Entries table_kind standing Copied

  -- a table of the first sheet, and one of the second
  module _ (n k : ℕ) (h : k < x.tables.count) where
    low : k < most_tables
    low = omega (arith, its_count x)

    first_table : standing (entry_of n (0 + k)) ≡ our_table k
    first_table = of_first most_tables (omega arith) n k our_table their_table low

    first_copied : Copied (entry_of n (0 + k))
    first_copied = record {
      text =
          of_first most_tables (omega arith) n k (table_text x) (table_text y) low
          ∙ table_copied x k h
          ∙ ap (λ (t : Table). text_of (table_lines t)) (sym first_table);
      within =
          subst (WithinPlace x y) (sym (at_first most_tables (omega arith) n k low))
          (record { place = omega (arith, low); ours = λ _. table_within x k h; theirs = λ q. absurd (omega (arith, low)) });
    }

  module _ (n k : ℕ) (h : k < y.tables.count) where
    near : k < half_span
    near = omega (arith, its_count y)

    back : most_tables + k - most_tables ≡ k
    back = omega arith

    second_table : standing (entry_of n (most_tables + k)) ≡ their_table k
    second_table = of_second most_tables (omega arith) n k our_table their_table near

    second_copied : Copied (entry_of n (most_tables + k))
    second_copied = record {
      text =
          of_second most_tables (omega arith) n k (table_text x) (table_text y) near
          ∙ table_copied y k h
          ∙ ap (λ (t : Table). text_of (table_lines t)) (sym second_table);
      within =
          subst (WithinPlace x y) (sym (at_second most_tables (omega arith) n k near))
          (record { place = omega (arith, its_count y); ours = λ q. absurd (omega arith); theirs = λ _. subst (Within y) (sym back) (table_within y k h) });
    }

  -- the tables of one sheet, from table k on
  module _ (offset : ℕ) (few : offset ≤ most_tables) (s : ReadSheet) (long : length s.tables.types ≡ most_tables)
      (at : (n k : ℕ) → k < s.tables.count → standing (entry_of n (offset + k)) ≡ table s k) (there : (n k : ℕ) → k < s.tables.count → Copied (entry_of n (offset + k))) where
    table_entries_lem : (n k : ℕ) → k + n ≤ s.tables.count → TableEntries (entries_of offset (take n (drop k s.tables.types)) (from k n)) (tables_from s.tables.types s.tables.rows s.tables.levels.now s.tables.capacities.now k n)
    table_entries_lem zero k h = record { stand = tt; are = refl; each = tt }
    table_entries_lem (suc n) k h =
        let most = its_count s in
        let rest = table_entries_lem n (k + 1) (omega arith) in
        let kind : ℕ = get_or s.tables.types k 0 in
        let q = at kind k (omega arith) in
        let row : take (suc n) (drop k s.tables.types) ≡ kind ∷ take n (drop (k + 1) s.tables.types) =
        ap (take (suc n)) (drop_next s.tables.types k (omega (arith, most, long))) in
        subst (λ (ks : List ℕ). TableEntries (entries_of offset ks (from k (suc n))) (tables_from s.tables.types s.tables.rows s.tables.levels.now s.tables.capacities.now k (suc n))) (sym row)
        (record {
          stand = (entry_key kind (offset + k) (omega arith) ∙ ap table_kind (sym q), rest.stand);
          are = ap₂ (λ (t : Table) (z : List Table). t ∷ z) q rest.are;
          each = (there kind k (omega arith), rest.each);
        })

    all_entries : TableEntries (table_entries offset s.tables) (tables_in s.tables)
    all_entries =
        subst (λ (ps : List ℕ). TableEntries (entries_of offset (take s.tables.count s.tables.types) ps) (tables_in s.tables)) (sym (four_places s.tables.count (its_count s))) (table_entries_lem s.tables.count 0 (omega arith))

  abbrev pub tables_order : List ℕ
  tables_order = inserted_all key_of (table_entries 0 x.tables) (inserted_all key_of (table_entries most_tables y.tables) [])

  tables_ordered : TableEntries tables_order (joined_tables (tables_in x.tables) (tables_in y.tables))
  tables_ordered =
      in_order table_kind standing Copied (table_entries 0 x.tables) (table_entries most_tables y.tables) (tables_in x.tables) (tables_in y.tables)
      (all_entries 0 (omega arith) x size first_table first_copied)
      (all_entries most_tables (omega arith) y size' second_table second_copied)

  -- as many as the tables together
  pub tables_counted : length tables_order ≡ length (joined_tables (tables_in x.tables) (tables_in y.tables))
  tables_counted = sym (length-map standing tables_order) ∙ ap length tables_ordered.are

  -- the bytes are their text
  texts_are : (order : List ℕ) → Each Copied order → tables_text x y order ≡ text_of (tables_lines (map standing order))
  unfolding text_of
  texts_are [] h = refl
  texts_are (entry ∷ order) (h, hs) =
      ap₂ (λ (k l : List ℕ). k ++ l) h.text (texts_are order hs) ∙ sym (text-append (table_lines (standing entry)) (tables_lines (map standing order)))

  pub tables_text_lem : tables_text x y tables_order ≡ text_of (tables_lines (joined_tables (tables_in x.tables) (tables_in y.tables)))
  tables_text_lem = texts_are tables_order tables_ordered.each ∙ ap (λ (ts : List Table). text_of (tables_lines ts)) tables_ordered.are

  pub tables_within : Each (λ entry. WithinPlace x y (place_of entry)) tables_order
  tables_within = within_each tables_order tables_ordered.each
    where
      within_each : (order : List ℕ) → Each Copied order → Each (λ entry. WithinPlace x y (place_of entry)) order
      within_each [] h = tt
      within_each (entry ∷ order) (h, hs) = (h.within, within_each order hs)
