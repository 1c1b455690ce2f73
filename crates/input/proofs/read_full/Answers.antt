-- `input::read_full` meets its contract: what a read gives stands behind what was there.
use Rattle.std.proofs.Common.{◌≡◌, ℕ, ◌+◌, ◌-◌, ◌≤◌, List, ◌++◌, rules, length, take, sym, ap, ◌∙◌, subst, le_refl, drop, drop_at, length-take-le}
use Rattle.std.proofs.lemmas.Slice.{take-put_mid_below}
use Rattle.std.specs.Io.KnownBytes.{Consumes}
use Rattle.std.proofs.KnownBytes.{Consumes-trans}
use borrow.Rule.Slice.PartMut.{put_mid, post_of}
use lib.Seq.{take-add, take-append-le}
use Rattle.input.proofs.read_full.Goals as goal

-- the bytes up to the n-th that was put at `at`
take-put_mid : (at k n : ℕ) (xs ys : List ℕ) → at ≤ length xs → n ≤ length ys → take (at + n) (put_mid at k xs ys) ≡ take at xs ++ take n ys
take-put_mid at k n xs ys within fits =
    let all = put_mid at k xs ys in
    let after = post_of at k xs in
    take-add at n all
    ∙ ap (λ l. l ++ take n (drop at all)) (take-put_mid_below _ _ _ _ _ (le_refl _) within)
    ∙ ap (λ l. take at xs ++ take n l) (drop_at (take at xs) (ys ++ after) at (length-take-le at xs within))
    ∙ ap (λ l. take at xs ++ l) (take-append-le n ys after fits)

pub loop-preserved : goal.loop-preserved
loop-preserved g c =
    let n = c.loop.n in
    let room = length c.loop.room - n in
    record {
      within = search rules;
      bytes =
          subst (Consumes _ _) (sym (take-put_mid n room c.in-Ok.more c.loop.room c.read.new.buf c.loop.invariant.within c.in-Ok.ensures.bound.0))
          (Consumes-trans _ _ _ _ _ c.loop.invariant.bytes c.in-Ok.ensures.bytes.0);
    }
