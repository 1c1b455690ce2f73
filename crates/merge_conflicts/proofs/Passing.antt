-- The types of the cars held, one by one.
use Prim.Native.Nat.{ℕ, ◌+◌, ◌*◌, ◌<◌}
use mathlib.Core.Path.{◌≡◌, refl, ap, ap₂, sym, subst, ◌∙◌}
use mathlib.Core.Bool.{Bool, true, false, not, ◌&&◌, ◌||◌}
use mathlib.Core.List.{List, ◌∷◌, map}
use native.Mathlib.Omega.{arith}
use lib.ListN.{get_or, drop, length}
use lib.Seq.{get_or-take, get_or-drop}
use Rattle.base.specs.Limits.{most_car_lines, most_strikes}
use Rattle.base.specs.Lists.{Each}
use Rattle.holding.specs.Layout.{line_places, line_numbers}
use Rattle.table.specs.Table.{unknown}
use Rattle.table.specs.declared.Tables.{Tables}
use Rattle.table.specs.Layout.{tables_in}
use Rattle.table.specs.Inner.{GoodTables}
use Rattle.table.proofs.Arrays.{types_known}
use Rattle.merge_spec.specs.Held.{kind_of}
use Rattle.merge_spec.specs.Merge.{type_elsewhere}
use Rattle.merge_order.specs.Inner.{car_in}
use Rattle.merge_order.proofs.Rest.{drop_next}
use Rattle.merge_conflicts.specs.Inner.{only_there}

not_twice : (b : Bool) → not (not b) ≡ b
not_twice true = refl
not_twice false = refl

-- a type that one sheet's tables lack and the other's have
elsewhere_is : (t u : Tables) → GoodTables t → GoodTables u → (kind : ℕ)
    → only_there t u kind ≡ (unknown kind (tables_in t) && not (unknown kind (tables_in u)))
elsewhere_is t u g h kind =
    ap₂ (λ (x y : Bool). not x && y) (types_known g kind) (types_known h kind)
    ∙ ap (λ (x : Bool). x && not (unknown kind (tables_in u))) (not_twice (unknown kind (tables_in t)))

module _ (t u : Tables) (fields : List ℕ) where
  -- what the cars at some places tell
  abbrev told : List ℕ → Bool
  told places = type_elsewhere (tables_in t) (tables_in u) (map (car_in fields) places)

  -- the third number of the line at a place
  pub its_kind : (p : ℕ) → get_or fields (line_places * p + 2) 0 ≡ kind_of (car_in fields p)
  its_kind p =
      sym (get_or-drop 1 (line_numbers fields p) 1 0
      ∙ get_or-take line_places (drop (line_places * p) fields) 2 0 (omega arith)
      ∙ get_or-drop (line_places * p) fields 2 0)

  -- the cars from place i on tell of all
  pub record Passing (places : List ℕ) (i : ℕ) : Type 0 where
    pub below : Each (λ p. p < most_car_lines + most_strikes) (drop i places)
    pub same : GoodTables t → GoodTables u → told places ≡ told (drop i places)

  module _ (places : List ℕ) (i : ℕ) (h : i < length places) (p : Passing places i) where
    abbrev place : ℕ
    place = get_or places i 0

    next : drop i places ≡ place ∷ drop (i + 1) places
    next = drop_next places i h

    below_next : Each (λ p. p < most_car_lines + most_strikes) (place ∷ drop (i + 1) places)
    below_next = subst (Each (λ p. p < most_car_lines + most_strikes)) next p.below

    pub place_low : place < most_car_lines + most_strikes
    place_low = below_next.0

    -- by whether the car's type is only there
    same_by : GoodTables t → GoodTables u → (b : Bool) → b ≡ only_there t u (get_or fields (line_places * place + 2) 0)
        → told places ≡ (b || told (drop (i + 1) places))
    same_by g k b q =
        p.same g k
        ∙ ap told next
        ∙ ap (λ (x : Bool). x || told (drop (i + 1) places)) (sym (q ∙ ap (only_there t u) (its_kind place) ∙ elsewhere_is t u g k (kind_of (car_in fields place))))

    pub passing_hit : true ≡ only_there t u (get_or fields (line_places * place + 2) 0) → GoodTables t → GoodTables u → true ≡ told places
    passing_hit q g k = sym (same_by g k true q)

    pub passing_miss : false ≡ only_there t u (get_or fields (line_places * place + 2) 0) → Passing places (i + 1)
    passing_miss q = record { below = below_next.1; same = λ g k. same_by g k false q }
