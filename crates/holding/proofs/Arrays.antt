-- How tables and the lines behind them stand in the arrays: one more row, one more table, one more line.
use Prim.Native.Nat.{ℕ, zero, suc, ◌+◌, ◌*◌, ◌≤◌, ◌<◌}
use mathlib.Core.Path.{◌≡◌, refl, ap, sym, ◌∙◌}
use mathlib.Core.List.{List, [], ◌∷◌, ◌++◌, append_assoc}
use native.Mathlib.Nat.{add-zero, zero-add}
use native.Mathlib.Numerals.{add-one}
use native.Mathlib.Omega.{arith}
use lib.ListN.{length, get_or, set, take, drop}
use lib.Seq.{drop-cons, get_or-set_same, get_or-set_other, take_at, drop_at, take-add, take-take, take-append-le, length-take-le}
use Rattle.base.specs.Buffer.{put}
use Rattle.base.proofs.Buffer.{length_put}
use Rattle.base.specs.Limits.{most_rows, most_car_lines, most_strikes}
use Rattle.table.specs.Table.{Row, row_of, Table}
use Rattle.table.specs.Layout.{rows_from, table_at, tables_from}
use Rattle.table.proofs.Arrays.{rows_last}
use Rattle.grammar.specs.Grammar.{TrainLine, cars_in, strikes_in, kinds, last_rows}
use Rattle.grammar.specs.Sheet.{due_by, due_of, with_row}
use Rattle.grammar.proofs.Rules.{lines_all, with_row_last, last_rows_last}
use Rattle.holding.specs.declared.reader.Reader.{Reader}
use Rattle.holding.specs.Layout.{line_places, line_in, line_numbers, history_from, history_of}
use Rattle.holding.specs.Inner.{state_in, Stored}

-- Rows.

-- what was stored stands at its place
pub stored_at : (m m' : List ℕ) (i v : ℕ) → m' ≡ set m i v → i < length m → get_or m' i 0 ≡ v
stored_at m m' i v e h = ap (λ (x : List ℕ). get_or x i 0) e ∙ get_or-set_same m i v 0 h

-- the first n numbers of two lists are the same
abbrev pub Same : ℕ → List ℕ → List ℕ → Type 0
Same n l m = (j : ℕ) → j < n → get_or m j 0 ≡ get_or l j 0

module _ (l c l' c' : List ℕ) where
  rows_same : (at n : ℕ) → Same (at + n) l l' → Same (at + n) c c' → rows_from l' c' at n ≡ rows_from l c at n
  rows_same at zero p q = refl
  rows_same at (suc n) p q =
      rw (p at (omega arith), q at (omega arith))
      (ap (λ (x : List Row). row_of (get_or l at 0) (get_or c at 0) ∷ x) (rows_same (at + 1) n (λ j h. p j (omega arith)) (λ j h. q j (omega arith))))

-- Tables.

module _ (types rows l c types' rows' l' c' : List ℕ) where
  tables_same : (lo n : ℕ) → ((j : ℕ) → j < lo + n → table_at types' rows' l' c' j ≡ table_at types rows l c j)
      → tables_from types' rows' l' c' lo n ≡ tables_from types rows l c lo n
  tables_same lo zero h = refl
  tables_same lo (suc n) h =
      ap (λ (t : Table). t ∷ tables_from types' rows' l' c' (lo + 1) n) (h lo (omega arith))
      ∙ ap (λ (ts : List Table). table_at types rows l c lo ∷ ts) (tables_same (lo + 1) n (λ j i. h j (omega arith)))

module _ (types rows l c : List ℕ) where
  pub length_tables : (lo n : ℕ) → length (tables_from types rows l c lo n) ≡ n
  length_tables lo zero = refl
  length_tables lo (suc n) = ap suc (length_tables (lo + 1) n)

  kinds_held : (lo n : ℕ) → lo + n ≤ length types → kinds (tables_from types rows l c lo n) ≡ take n (drop lo types)
  kinds_held lo zero h = refl
  kinds_held lo (suc n) h =
      ap (λ (x : List ℕ). get_or types lo 0 ∷ x) (kinds_held (lo + 1) n (omega arith) ∙ ap (λ (i : ℕ). take n (drop i types)) (add-one lo))
      ∙ ap (λ (x : List ℕ). take (suc n) x) (sym (drop-cons types lo 0 (omega arith)))

  pub kinds_first : (n : ℕ) → n ≤ length types → kinds (tables_from types rows l c 0 n) ≡ take n types
  kinds_first n h = kinds_held 0 n (omega arith)

  tables_snoc : (lo n : ℕ) → tables_from types rows l c lo (suc n) ≡ tables_from types rows l c lo n ++ (table_at types rows l c (lo + n) ∷ [])
  tables_snoc lo zero = rw (add-zero lo)
  tables_snoc lo (suc n) =
      let e : lo + 1 + n ≡ lo + suc n = omega arith in
      ap (λ (x : List Table). table_at types rows l c lo ∷ x)
      (tables_snoc (lo + 1) n ∙ ap (λ (i : ℕ). tables_from types rows l c (lo + 1) n ++ (table_at types rows l c i ∷ [])) e)

  tables_last : (k : ℕ) → tables_from types rows l c 0 (suc k) ≡ tables_from types rows l c 0 k ++ (table_at types rows l c k ∷ [])
  tables_last k = tables_snoc 0 k ∙ ap (λ (i : ℕ). tables_from types rows l c 0 k ++ (table_at types rows l c i ∷ [])) (zero-add k)

  -- the rows of the last table
  pub rows_held : (k n : ℕ) → n ≡ suc k → last_rows (tables_from types rows l c 0 n) ≡ rows_from l c (most_rows * k) (get_or rows k 0)
  rows_held k n e =
      ap (λ (i : ℕ). last_rows (tables_from types rows l c 0 i)) e
      ∙ ap last_rows (tables_last k)
      ∙ last_rows_last (tables_from types rows l c 0 k) (table_at types rows l c k)

-- one more table, of which no row was read
pub table_more : (types rows l c : List ℕ) (k kind : ℕ) → k < length types → k < length rows
    → tables_from (set types k kind) (set rows k 0) l c 0 (k + 1) ≡ tables_from types rows l c 0 k ++ (record { kind = kind; rows = [] } ∷ [])
table_more types rows l c k kind ht hr =
    ap (tables_from (set types k kind) (set rows k 0) l c 0) (add-one k)
    ∙ tables_last (set types k kind) (set rows k 0) l c k
    ∙ ap (λ (x : List Table). x ++ (table_at (set types k kind) (set rows k 0) l c k ∷ [])) (tables_same types rows l c (set types k kind) (set rows k 0) l c 0 k others)
    ∙ rw (get_or-set_same types k kind 0 ht, get_or-set_same rows k 0 0 hr)
  where
    others : (j : ℕ) → j < 0 + k → table_at (set types k kind) (set rows k 0) l c j ≡ table_at types rows l c j
    others j h = rw (get_or-set_other types k j kind 0 (λ e. omega arith), get_or-set_other rows k j 0 0 (λ e. omega arith))

-- one more row in the last table, stored behind those that it has
module _ (types rows l c l' c' : List ℕ) (n k i a b : ℕ) (count : n ≡ suc k) (here : get_or rows k 0 ≡ i) (room : k < length rows)
    (each : (j : ℕ) → j < k → get_or rows j 0 ≤ most_rows) (stored : Stored l c l' c' (most_rows * k + i) a b) where
  levels_same : Same (most_rows * k + i) l l'
  levels_same j h = ap (λ (x : List ℕ). get_or x j 0) stored.first ∙ get_or-set_other l (most_rows * k + i) j a 0 (λ e. omega arith)

  capacities_same : Same (most_rows * k + i) c c'
  capacities_same j h = ap (λ (x : List ℕ). get_or x j 0) stored.second ∙ get_or-set_other c (most_rows * k + i) j b 0 (λ e. omega arith)

  others : (j : ℕ) → j < 0 + k → table_at types (set rows k (i + 1)) l' c' j ≡ table_at types rows l c j
  others j h =
      let m = each j (omega arith) in
      rw (get_or-set_other rows k j (i + 1) 0 (λ e. omega arith))
      (ap (λ (x : List Row). record { kind = get_or types j 0; rows = x })
      (rows_same l c l' c' (most_rows * j) (get_or rows j 0) (λ u v. levels_same u (omega arith)) (λ u v. capacities_same u (omega arith))))

  last : table_at types (set rows k (i + 1)) l' c' k ≡ record { kind = get_or types k 0; rows = rows_from l c (most_rows * k) (get_or rows k 0) ++ (row_of a b ∷ []) }
  last =
      ap (λ (x : List Row). record { kind = get_or types k 0; rows = x })
      (ap (rows_from l' c' (most_rows * k)) (get_or-set_same rows k (i + 1) 0 room ∙ add-one i)
      ∙ rows_last l' c' (most_rows * k) i
      ∙ ap (λ (x : List Row). x ++ (row_of (get_or l' (most_rows * k + i) 0) (get_or c' (most_rows * k + i) 0) ∷ [])) (rows_same l c l' c' (most_rows * k) i levels_same capacities_same)
      ∙ ap (λ (x : ℕ). rows_from l c (most_rows * k) i ++ (row_of x (get_or c' (most_rows * k + i) 0) ∷ [])) (stored_at l l' (most_rows * k + i) a stored.first stored.in_levels)
      ∙ ap (λ (x : ℕ). rows_from l c (most_rows * k) i ++ (row_of a x ∷ [])) (stored_at c c' (most_rows * k + i) b stored.second stored.in_capacities)
      ∙ ap (λ (x : ℕ). rows_from l c (most_rows * k) x ++ (row_of a b ∷ [])) (sym here))

  pub row_more : tables_from types (set rows k (i + 1)) l' c' 0 n ≡ with_row (tables_from types rows l c 0 n) (row_of a b)
  row_more =
      ap (tables_from types (set rows k (i + 1)) l' c' 0) count
      ∙ tables_last types (set rows k (i + 1)) l' c' k
      ∙ ap (λ (x : List Table). x ++ (table_at types (set rows k (i + 1)) l' c' k ∷ [])) (tables_same types rows l c types (set rows k (i + 1)) l' c' 0 k others)
      ∙ ap (λ (t : Table). tables_from types rows l c 0 k ++ (t ∷ [])) last
      ∙ sym (ap (λ (x : ℕ). with_row (tables_from types rows l c 0 x) (row_of a b)) count
      ∙ ap (λ (x : List Table). with_row x (row_of a b)) (tables_last types rows l c k)
      ∙ with_row_last (tables_from types rows l c 0 k) (table_at types rows l c k) (row_of a b))

-- Lines behind the tables.

pub length_history : (f : List ℕ) (i n : ℕ) → length (history_from f i n) ≡ n
length_history f i zero = refl
length_history f i (suc n) = ap suc (length_history f (i + 1) n)

-- where neither C nor K lines are too many, there are not more than 180
pub few_lines : (f : List ℕ) (n : ℕ) → cars_in (history_of f n) ≤ most_car_lines → strikes_in (history_of f n) ≤ most_strikes → n ≤ most_car_lines + most_strikes
few_lines f n h k = omega (arith, lines_all (history_of f n), length_history f 0 n)

-- the letters due, by the numbers that the code holds
pub due_held : (h : Reader) (l c f : List ℕ) → due_by h.owed h.directory.count (h.cars + h.struck) ≡ due_of (state_in h l c f)
due_held h l c f =
    sym (ap (λ (n : ℕ). due_by h.owed n (h.cars + h.struck)) (length_tables h.directory.types h.directory.rows l c 0 h.directory.count))

history_same : (f f' : List ℕ) (i n : ℕ) → ((j : ℕ) → j < i + n → line_numbers f' j ≡ line_numbers f j) → history_from f' i n ≡ history_from f i n
history_same f f' i zero h = refl
history_same f f' i (suc n) h =
    ap (λ (x : List ℕ). line_in x ∷ history_from f' (i + 1) n) (h i (omega arith))
    ∙ ap (λ (x : List TrainLine). line_in (line_numbers f i) ∷ x) (history_same f f' (i + 1) n (λ j u. h j (omega arith)))

history_snoc : (f : List ℕ) (i n : ℕ) → history_from f i (suc n) ≡ history_from f i n ++ (line_in (line_numbers f (i + n)) ∷ [])
history_snoc f i zero = rw (add-zero i)
history_snoc f i (suc n) =
    let e : i + 1 + n ≡ i + suc n = omega arith in
    ap (λ (x : List TrainLine). line_in (line_numbers f i) ∷ x)
    (history_snoc f (i + 1) n ∙ ap (λ (j : ℕ). history_from f (i + 1) n ++ (line_in (line_numbers f j) ∷ [])) e)

-- a part of two lists that are the same so far
part_same : (l l' : List ℕ) (a m : ℕ) → a ≤ length l → a ≤ length l' → take (a + m) l' ≡ take (a + m) l → take m (drop a l') ≡ take m (drop a l)
part_same l l' a m h h' e =
    sym (drop_at (take a l') (take m (drop a l')) a (length-take-le a l' h'))
    ∙ ap (drop a) (sym (take-add a m l') ∙ e ∙ take-add a m l)
    ∙ drop_at (take a l) (take m (drop a l)) a (length-take-le a l h)

-- one more line, stored behind those that there are
module _ (f ns : List ℕ) (n : ℕ) (whole : length ns ≡ line_places) (room : line_places * n + line_places ≤ length f) where
  earlier : (j : ℕ) → j < 0 + n → line_numbers (put f (line_places * n) ns) j ≡ line_numbers f j
  earlier j h =
      let len : length (take (line_places * n) f) ≡ line_places * n = length-take-le (line_places * n) f (omega arith) in
      part_same f (put f (line_places * n) ns) (line_places * j) line_places (omega arith) (omega (arith, length_put f (line_places * n) ns (omega arith)))
      (ap (λ (x : List ℕ). take (line_places * j + line_places) x) (append_assoc (take (line_places * n) f) ns (drop (line_places * n + length ns) f))
      ∙ take-append-le (line_places * j + line_places) (take (line_places * n) f) (ns ++ drop (line_places * n + length ns) f) (omega arith)
      ∙ take-take (line_places * j + line_places) (line_places * n) f (omega arith))

  this : line_numbers (put f (line_places * n) ns) n ≡ ns
  this =
      ap (λ (x : List ℕ). take line_places (drop (line_places * n) x)) (append_assoc (take (line_places * n) f) ns (drop (line_places * n + length ns) f))
      ∙ ap (λ (x : List ℕ). take line_places x) (drop_at (take (line_places * n) f) (ns ++ drop (line_places * n + length ns) f) (line_places * n) (length-take-le (line_places * n) f (omega arith)))
      ∙ take_at ns (drop (line_places * n + length ns) f) line_places whole

  pub line_more : history_from (put f (line_places * n) ns) 0 (n + 1) ≡ history_from f 0 n ++ (line_in ns ∷ [])
  line_more =
      ap (history_from (put f (line_places * n) ns) 0) (add-one n)
      ∙ history_snoc (put f (line_places * n) ns) 0 n
      ∙ ap (λ (x : List TrainLine). x ++ (line_in (line_numbers (put f (line_places * n) ns) (0 + n)) ∷ [])) (history_same f (put f (line_places * n) ns) 0 n earlier)
      ∙ ap (λ (i : ℕ). history_from f 0 n ++ (line_in (line_numbers (put f (line_places * n) ns) i) ∷ [])) (zero-add n)
      ∙ ap (λ (x : List ℕ). history_from f 0 n ++ (line_in x ∷ [])) this
