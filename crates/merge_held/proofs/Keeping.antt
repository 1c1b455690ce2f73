-- The turns of `held_cars`: the cars kept so far, behind which the lines still to come keep those that all lines keep.
use Prim.Native.Nat.{ℕ, zero, suc, ◌+◌, ◌-◌, ◌*◌, ◌≤◌, ◌<◌}
use mathlib.Core.Path.{◌≡◌, refl, ap, ap₂, sym, ◌∙◌}
use mathlib.Core.Bool.{Bool, true, false, cond, ◌||◌}
use mathlib.Core.List.{List, [], ◌∷◌, ◌++◌, map}
use native.Mathlib.Omega.{arith}
use lib.Dec.{leb}
use lib.ListN.{length, take, drop, get_or}
use lib.Seq.{get_or-take, get_or-drop}
use borrow.Author.Tests.{eq-eqb, ne_eqb}
use Rattle.base.specs.Limits.{largest, most_cars}
use Rattle.base.specs.Lists.{Each}
use Rattle.base.specs.Numbers.{outside, member}
use Rattle.base.proofs.Choice.{neither}
use Rattle.base.proofs.Lists.{each_append, map-append}
use Rattle.consist.specs.Train.{twice, position, remove_at}
use Rattle.consist.proofs.Places.{twice_snoc, twice_removed, removed_map, none_out, one_out}
use Rattle.grammar.specs.Grammar.{TrainLine, enters, strikes}
use Rattle.holding.specs.Layout.{line_places, car_mark, line_in, line_numbers, history_from, history_of}
use Rattle.merge_spec.specs.Held.{number_of}
use Rattle.merge_spec.specs.Inner.{cars_without, kept_behind, kept_from}
use Rattle.merge_order.specs.Inner.{car_in}
use Rattle.merge_held.specs.Inner.{most_lines, Rows, one_more, one_less}

-- number j of line i
module _ (fields : List ℕ) (i : ℕ) where
  in_line : (j : ℕ) → j < line_places → get_or (line_numbers fields i) j 0 ≡ get_or fields (line_places * i + j) 0
  in_line j h = get_or-take line_places (drop (line_places * i) fields) j 0 h ∙ get_or-drop (line_places * i) fields j 0

  the_mark : get_or (line_numbers fields i) 0 0 ≡ get_or fields (line_places * i) 0
  the_mark = let e : line_places * i + 0 ≡ line_places * i = omega arith in in_line 0 (omega arith) ∙ ap (λ (n : ℕ). get_or fields n 0) e

  the_number : get_or fields (line_places * i + 1) 0 ≡ number_of (car_in fields i)
  the_number = sym (get_or-drop 1 (line_numbers fields i) 0 0 ∙ in_line 1 (omega arith))

  -- the line by its mark
  entering : get_or fields (line_places * i) 0 ≡ car_mark → line_in (line_numbers fields i) ≡ enters (car_in fields i)
  entering e =
      ap (λ (b : Bool). cond b (enters (car_in fields i)) (strikes (get_or (line_numbers fields i) 1 0))) (eq-eqb (get_or (line_numbers fields i) 0 0) car_mark (the_mark ∙ e))

  striking : (get_or fields (line_places * i) 0 ≡ car_mark → ⊥) → line_in (line_numbers fields i) ≡ strikes (get_or fields (line_places * i + 1) 0)
  striking n =
      ap (λ (b : Bool). cond b (enters (car_in fields i)) (strikes (get_or (line_numbers fields i) 1 0))) (ne_eqb (get_or (line_numbers fields i) 0 0) car_mark (λ e. n (sym the_mark ∙ e)))
      ∙ ap strikes (in_line 1 (omega arith))

module _ (fields : List ℕ) (n : ℕ) where
  -- the cars at places
  abbrev cars_on : List ℕ → List (List ℕ)
  cars_on places = map (car_in fields) places

  -- what stands in the arrays: numbers ns and places ps
  pub record Row (ns ps : List ℕ) : Type 0 where
    pub row : ns ≡ map number_of (cars_on ps)
    pub once : twice ns ≡ false
    pub below : Each (λ p. p < most_lines) ps

  pub record Keeping (numbers places : List ℕ) (count i : ℕ) : Type 0 where
    pub within : i ≤ n
    pub rows : Rows numbers places count
    pub held : Row (take count numbers) (take count places)
    pub done : kept_from (cars_on (take count places)) (history_from fields i (n - i)) ≡ kept_from [] (history_of fields n)

  pub keeping_none : (numbers places : List ℕ) → length numbers ≡ most_cars → length places ≡ most_cars → Keeping numbers places 0 0
  keeping_none numbers places h k =
      let e : n - 0 ≡ n = omega arith in
      record {
        within = omega arith;
        rows = record { few = omega arith; first = h; second = k };
        held = record { row = refl; once = refl; below = tt };
        done = ap (λ (m : ℕ). kept_from [] (history_from fields 0 m)) e;
      }

  -- One line.

  module _ (i : ℕ) (low : i < n) (most : n ≤ most_lines) (ns ps : List ℕ) (r : Row ns ps) where
    lines : history_from fields i (n - i) ≡ line_in (line_numbers fields i) ∷ history_from fields (i + 1) (n - (i + 1))
    lines = let e : n - i ≡ suc (n - (i + 1)) = omega arith in ap (history_from fields i) e

    -- what is kept behind it goes on with the lines behind it
    on : {kept : List (List ℕ)} (line : TrainLine) → line_in (line_numbers fields i) ≡ line → kept ≡ kept_behind (cars_on ps) line
        → kept_from (cars_on ps) (history_from fields i (n - i)) ≡ kept_from [] (history_of fields n) → kept_from kept (history_from fields (i + 1) (n - (i + 1))) ≡ kept_from [] (history_of fields n)
    on line e k done =
        ap (λ (l : List (List ℕ)). kept_from l (history_from fields (i + 1) (n - (i + 1)))) (k ∙ ap (kept_behind (cars_on ps)) (sym e))
        ∙ sym (ap (kept_from (cars_on ps)) lines)
        ∙ done

    -- a C line
    abbrev away : ℕ → Bool
    away number = leb most_cars (length ns) || outside 1 largest number || member number ns

    more_kept : (number : ℕ) → number ≡ number_of (car_in fields i) → cars_on (one_more ns number ps i) ≡ kept_behind (cars_on ps) (enters (car_in fields i))
    more_kept number e =
        by (away number)
        ∙ ap (λ (b : Bool). cond b (cars_on ps) (cars_on ps ++ (car_in fields i ∷ [])))
        (ap₂ (λ (m : ℕ) (l : List ℕ). leb most_cars (length l) || outside 1 largest m || member m l) e r.row)
      where
        by : (b : Bool) → cars_on (cond b ps (ps ++ (i ∷ []))) ≡ cond b (cars_on ps) (cars_on ps ++ (car_in fields i ∷ []))
        by true = refl
        by false = map-append (car_in fields) ps (i ∷ [])

    more_row : (number : ℕ) → number ≡ number_of (car_in fields i) → Row (one_more ns number ns number) (one_more ns number ps i)
    more_row number e = by (away number) refl
      where
        by : (b : Bool) → away number ≡ b → Row (cond b ns (ns ++ (number ∷ []))) (cond b ps (ps ++ (i ∷ [])))
        by true q = r
        by false q = record {
          row =
              ap₂ (λ (l : List ℕ) (m : ℕ). l ++ (m ∷ [])) r.row e
              ∙ sym (map-append number_of (cars_on ps) (car_in fields i ∷ []))
              ∙ ap (map number_of) (sym (map-append (car_in fields) ps (i ∷ [])));
          once = twice_snoc ns number ∙ ap₂ (λ (x y : Bool). x || y) r.once (neither (leb most_cars (length ns) || outside 1 largest number) (member number ns) q).1;
          below = each_append (λ p. p < most_lines) ps (i ∷ []) r.below (omega arith, tt);
        }

    -- a K line
    less_kept : (number : ℕ) → cars_on (one_less ns number ps) ≡ kept_behind (cars_on ps) (strikes number)
    less_kept number = by (member number ns) refl
      where
        there : {b : Bool} → member number ns ≡ b → member number (map number_of (cars_on ps)) ≡ b
        there q = ap (member number) (sym r.row) ∙ q

        by : (b : Bool) → member number ns ≡ b → cars_on (cond b (remove_at (position number ns) ps) ps) ≡ cars_without number (cars_on ps)
        by true q =
            removed_map (car_in fields) (position number ns) ps
            ∙ ap (λ (l : List ℕ). remove_at (position number l) (cars_on ps)) r.row
            ∙ one_out number_of number (cars_on ps) (there q) (ap twice (sym r.row) ∙ r.once)
        by false q = sym (none_out number_of number (cars_on ps) (there q))

    less_row : (number : ℕ) → Row (one_less ns number ns) (one_less ns number ps)
    less_row number = by (member number ns)
      where
        removed_below : (k : ℕ) (l : List ℕ) → Each (λ p. p < most_lines) l → Each (λ p. p < most_lines) (remove_at k l)
        removed_below k [] h = tt
        removed_below zero (x ∷ l) (h, hs) = hs
        removed_below (suc k) (x ∷ l) (h, hs) = (h, removed_below k l hs)

        by : (b : Bool) → Row (cond b (remove_at (position number ns) ns) ns) (cond b (remove_at (position number ns) ps) ps)
        by false = r
        by true = record {
          row =
              ap (remove_at (position number ns)) r.row
              ∙ sym (removed_map number_of (position number ns) (cars_on ps))
              ∙ ap (map number_of) (sym (removed_map (car_in fields) (position number ns) ps));
          once = twice_removed (position number ns) ns r.once;
          below = removed_below (position number ns) ps r.below;
        }

  -- One turn.

  module _ (most : n ≤ most_lines) (numbers places : List ℕ) (count i : ℕ) (k : Keeping numbers places count i) (low : i < n) where
    module _ {numbers' places' : List ℕ} {count' : ℕ} (rows' : Rows numbers' places' count') where
      pub keeping_car : get_or fields (line_places * i) 0 ≡ car_mark
          → take count' numbers' ≡ one_more (take count numbers) (get_or fields (line_places * i + 1) 0) (take count numbers) (get_or fields (line_places * i + 1) 0)
          → take count' places' ≡ one_more (take count numbers) (get_or fields (line_places * i + 1) 0) (take count places) i → Keeping numbers' places' count' (i + 1)
      keeping_car mark p q =
          let e = the_number fields i in
          record {
            within = omega arith;
            rows = rows';
            held = rw (p, q) (more_row i low most (take count numbers) (take count places) k.held _ e);
            done = on i low most (take count numbers) (take count places) k.held (enters (car_in fields i)) (entering fields i mark)
                (ap cars_on q ∙ more_kept i low most (take count numbers) (take count places) k.held _ e) k.done;
          }

      pub keeping_strike : (get_or fields (line_places * i) 0 ≡ car_mark → ⊥)
          → take count' numbers' ≡ one_less (take count numbers) (get_or fields (line_places * i + 1) 0) (take count numbers)
          → take count' places' ≡ one_less (take count numbers) (get_or fields (line_places * i + 1) 0) (take count places) → Keeping numbers' places' count' (i + 1)
      keeping_strike mark p q =
          record {
            within = omega arith;
            rows = rows';
            held = rw (p, q) (less_row i low most (take count numbers) (take count places) k.held _);
            done = on i low most (take count numbers) (take count places) k.held (strikes (get_or fields (line_places * i + 1) 0)) (striking fields i mark)
                (ap cars_on q ∙ less_kept i low most (take count numbers) (take count places) k.held _) k.done;
          }

  -- no line is left
  pub keeping_all : (numbers places : List ℕ) (count i : ℕ) → Keeping numbers places count i → n ≤ i → cars_on (take count places) ≡ kept_from [] (history_of fields n)
  keeping_all numbers places count i k h =
      let e : n - i ≡ 0 = omega arith in ap (λ (m : ℕ). kept_from (cars_on (take count places)) (history_from fields i m)) (sym e) ∙ k.done
