-- The turns of `write_tables`: the bytes of a table for each entry.
use Prim.Native.Nat.{ℕ, ◌+◌, ◌≤◌, ◌<◌}
use mathlib.Core.Path.{◌≡◌, ap, subst}
use mathlib.Core.List.{List, [], ◌∷◌, ◌++◌}
use lib.ListN.{length, get_or, drop, drop_of_length-le}
use Rattle.base.specs.Buffer.{put}
use Rattle.base.specs.Lists.{Each}
use Rattle.printing.proofs.Laid.{BytesLaid, none_laid, some_room, some_laid, bytes_all}
use Rattle.merge_order.specs.Inner.{place_of}
use Rattle.merge_order.proofs.Rest.{drop_next}
use Rattle.merge_lines.specs.declared.read.ReadSheet.{ReadSheet}
use Rattle.merge_write.specs.Inner.{text_place, WithinPlace, tables_text, TablesReady}

module _ (first second : ReadSheet) (order : List ℕ) where
  abbrev At : ℕ → Type 0
  At entry = WithinPlace first second (place_of entry)

  -- the bytes from entry i on
  abbrev left : ℕ → List ℕ
  left i = tables_text first second (drop i order)

  pub record TablesLaid (lent : List ℕ) (from : ℕ) (out : List ℕ) (place i : ℕ) : Type 0 where
    pub laid : BytesLaid lent from (left 0) out place (left i)
    pub within : Each At (drop i order)
    pub space : from + length (left 0) ≤ length lent

  pub tables_none : (lent : List ℕ) (at : ℕ) → TablesReady first second order at (length lent) → TablesLaid lent at lent at 0
  tables_none lent at r = record { laid = none_laid lent at (left 0); within = r.within; space = r.space }

  module _ (lent : List ℕ) (from : ℕ) (out : List ℕ) (place i : ℕ) (m : TablesLaid lent from out place i) (h : i < length order) where
    abbrev entry : ℕ
    entry = get_or order i 0

    abbrev table : List ℕ
    table = text_place first second (place_of entry)

    next : drop i order ≡ entry ∷ drop (i + 1) order
    next = drop_next order i h

    laid_next : BytesLaid lent from (left 0) out place (table ++ left (i + 1))
    laid_next = subst (λ (l : List ℕ). BytesLaid lent from (left 0) out place (tables_text first second l)) next m.laid

    within_next : Each At (entry ∷ drop (i + 1) order)
    within_next = subst (Each At) next m.within

    pub table_ready : At entry × (place + length table ≤ length out)
    table_ready = (within_next.0, some_room lent from (left 0) m.space out place table (left (i + 1)) laid_next)

    pub table_laid : (out' : List ℕ) (place' : ℕ) → out' ≡ put out place table → place' ≡ place + length table → length out' ≡ length out
        → TablesLaid lent from out' place' (i + 1)
    table_laid out' place' eo ep en = record {
      laid = some_laid lent from (left 0) m.space out place table (left (i + 1)) laid_next out' place' eo ep en;
      within = within_next.1;
      space = m.space;
    }

  pub tables_done : (lent : List ℕ) (from : ℕ) (out : List ℕ) (place i : ℕ) → TablesLaid lent from out place i → length order ≤ i
      → (place ≡ from + length (tables_text first second order)) × (out ≡ put lent from (tables_text first second order))
  tables_done lent from out place i m h =
      let none : left i ≡ [] = ap (tables_text first second) (drop_of_length-le order h) in
      bytes_all (subst (λ (l : List ℕ). BytesLaid lent from (left 0) out place l) none m.laid)
