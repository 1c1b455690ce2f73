-- To every report there is a nearest field, and one only.
use Prim.Native.Nat.{ℕ, zero, suc, ◌+◌, ◌≤◌, ◌<◌}
use mathlib.Core.Path.{◌≡◌, sym, subst}
use mathlib.Core.Logic.{⊎_elim}
use native.Mathlib.Nat.{le_antisymm}
use native.Mathlib.Omega.{arith}
use Rattle.base.proofs.Choice.{below}
use Rattle.heating.specs.Limits.{lowest_density}
use Rattle.laboratory.specs.declared.Report.{Report}
use Rattle.laboratory.specs.Nearest.{distance, Nearest}

pub nearest_only : {p : Report} {r s : ℕ} → Nearest p r → Nearest p s → r ≡ s
nearest_only {p} {r} {s} a b =
    let e : distance p r ≡ distance p s = le_antisymm (a.none_nearer s b.field) (b.none_nearer r a.field) in
    le_antisymm (a.smallest s b.field (sym e)) (b.smallest r a.field e)

-- There is one: of the first n + 1 fields, then of all 901.

record SomeOf (p : Report) (n : ℕ) : Type 0 where
  field : ℕ
  light : lowest_density ≤ field
  dense : field ≤ lowest_density + n
  none_nearer : (s : ℕ) → lowest_density ≤ s → s ≤ lowest_density + n → distance p field ≤ distance p s
  smallest : (s : ℕ) → lowest_density ≤ s → s ≤ lowest_density + n → distance p s ≡ distance p field → field ≤ s

-- what holds of the field t and of all below it
up_to : (P : ℕ → Type 0) (t : ℕ) → P t → ((s : ℕ) → lowest_density ≤ s → s < t → P s) → (s : ℕ) → lowest_density ≤ s → s ≤ t → P s
up_to P t h f s low high = ⊎_elim (λ (q : s < t). f s low q) (λ (q : t ≤ s). subst P (le_antisymm q high) h) (below s t)

-- the field t after them is the nearest where it is nearer than theirs; else theirs is
module _ (p : Report) (n : ℕ) (o : SomeOf p n) where
  abbrev t : ℕ
  t = lowest_density + suc n

  later : distance p t < distance p o.field → SomeOf p (suc n)
  later h = record {
    field = t;
    light = omega arith;
    dense = omega arith;
    none_nearer = up_to (λ s. distance p t ≤ distance p s) t (omega arith) (λ s low q. omega (arith, h, o.none_nearer s low (omega arith)));
    smallest = up_to (λ s. distance p s ≡ distance p t → t ≤ s) t (λ _. omega arith) (λ s low q e. absurd (omega (arith, h, e, o.none_nearer s low (omega arith))));
  }

  earlier : distance p o.field ≤ distance p t → SomeOf p (suc n)
  earlier h = record {
    field = o.field;
    light = o.light;
    dense = omega (arith, o.dense);
    none_nearer = up_to (λ s. distance p o.field ≤ distance p s) t h (λ s low q. o.none_nearer s low (omega arith));
    smallest = up_to (λ s. distance p s ≡ distance p o.field → o.field ≤ s) t (λ _. omega (arith, o.dense)) (λ s low q. o.smallest s low (omega arith));
  }

some_of : (p : Report) (n : ℕ) → SomeOf p n
some_of p zero = record {
  field = lowest_density;
  light = omega arith;
  dense = omega arith;
  none_nearer = up_to (λ s. distance p lowest_density ≤ distance p s) lowest_density (omega arith) (λ s low q. absurd (omega arith));
  smallest = λ s low _ _. low;
}
some_of p (suc n) = let o = some_of p n in ⊎_elim (later p n o) (earlier p n o) (below (distance p (lowest_density + suc n)) (distance p o.field))

pub record Some (p : Report) : Type 0 where
  pub field : ℕ
  pub nearest : Nearest p field

pub nearest_exists : (p : Report) → Some p
nearest_exists p =
    let o = some_of p 900 in
    record {
      field = o.field;
      nearest = record {
        field = record { light = o.light; dense = o.dense };
        none_nearer = λ s f. o.none_nearer s f.light f.dense;
        smallest = λ s f. o.smallest s f.light f.dense;
      };
    }
