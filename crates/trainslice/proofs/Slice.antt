-- A train in its slice: written run by run, and read again.
use Prim.Native.Nat.{ℕ, suc, ◌+◌, ◌*◌, ◌≤◌, ◌<◌, ◌/◌, ◌%◌}
use mathlib.Core.Path.{◌≡◌, refl, sym, ap, ap₂, ◌∙◌}
use mathlib.Core.Bool.{Bool, true, false, cond}
use mathlib.Core.List.{List, [], ◌∷◌, ◌++◌, append-nil, append_assoc}
use native.Mathlib.Nat.{zero-add, mod-add-div, mod-eq_of_lt, div-eq_of_lt, add-mul-mod_self_left, add-mul-div_left}
use native.Mathlib.Numerals.{add-one}
use native.Mathlib.Omega.{arith}
use lib.ListN.{length, get_or, set, take, drop, length-append, length-drop, take-append-drop}
use lib.Seq.{drop-cons, drop-drop, drop_at, take_at, take-suc, take_all, length-take-le}
use Rattle.base.specs.Limits.{most_cars, grade_count}
use Rattle.base.specs.Buffer.{put}
use Rattle.base.proofs.Buffer.{put_put, set_put, length_put}
use Rattle.summing.specs.declared.Totals.{Totals}
use Rattle.summing.specs.declared.Sums.{Sums}
use Rattle.summing.specs.Sums.{totals_from, no_totals}
use Rattle.consist.specs.Train.{Train}
use Rattle.consist.specs.Inner.{Sixty}
use Rattle.trainslice.specs.Layout.{half, joined, totals_places, totals_at, totals_numbers, sums_places, train_places, row_at, train_of, grades_numbers, sums_numbers, train_numbers, TrainHanded}
use Rattle.marshalling.proofs.Handed.{kept}
use Rattle.marshalling.proofs.Copying.{put_whole}

-- The totals of the grades, one after another.

grades_more : (ts : List Totals) (i : ℕ) → i < length ts → grades_numbers (take (i + 1) ts) ≡ grades_numbers (take i ts) ++ totals_numbers (get_or ts i no_totals)
grades_more ts i h = ap (λ (n : ℕ). grades_numbers (take n ts)) (add-one i) ∙ ap grades_numbers (take-suc ts i no_totals h) ∙ snoc (take i ts) (get_or ts i no_totals)
  where
    snoc : (l : List Totals) (t : Totals) → grades_numbers (l ++ (t ∷ [])) ≡ grades_numbers l ++ totals_numbers t
    snoc [] t = append-nil (totals_numbers t)
    snoc (x ∷ l) t = ap (λ (r : List ℕ). totals_numbers x ++ r) (snoc l t) ∙ sym (append_assoc (totals_numbers x) (grades_numbers l) (totals_numbers t))

pub grades_long : (ts : List Totals) → length (grades_numbers ts) ≡ totals_places * length ts
grades_long [] = omega arith
grades_long (t ∷ ts) = omega (arith, length-append (totals_numbers t) (grades_numbers ts), grades_long ts)

-- the loop over the grades: those before i are written from the place 5 on
module _ (lent : List ℕ) (room : sums_places ≤ length lent) (ts : List Totals) (four : length ts ≡ grade_count) where
  pub grade_written : (i : ℕ) (to : List ℕ) → i < grade_count → to ≡ put lent totals_places (grades_numbers (take i ts))
      → put to (totals_places + i * totals_places) (totals_numbers (get_or ts i no_totals)) ≡ put lent totals_places (grades_numbers (take (i + 1) ts))
  grade_written i to h e =
      let x : List ℕ = grades_numbers (take i ts) in
      let y : List ℕ = totals_numbers (get_or ts i no_totals) in
      let n : length x ≡ totals_places * i = grades_long (take i ts) ∙ ap (λ (k : ℕ). totals_places * k) (length-take-le i ts (omega arith)) in
      let at : totals_places + i * totals_places ≡ totals_places + length x = omega arith in
      ap₂ (λ (l : List ℕ) (k : ℕ). put l k y) e at ∙ put_put lent totals_places x y (omega arith) ∙ ap (put lent totals_places) (sym (grades_more ts i (omega arith)))

  pub grades_written : (i : ℕ) → grade_count ≤ i → put lent totals_places (grades_numbers (take i ts)) ≡ put lent totals_places (grades_numbers ts)
  grades_written i h = ap (λ (l : List Totals). put lent totals_places (grades_numbers l)) (take_all i ts (omega arith))

pub sums_written : (s : Sums) (lent : List ℕ) → sums_places ≤ length lent → length s.grades ≡ grade_count
    → put (put lent 0 (totals_numbers s.all)) totals_places (grades_numbers s.grades) ≡ put lent 0 (sums_numbers s)
sums_written s lent h n = put_put lent 0 (totals_numbers s.all) (grades_numbers s.grades) (omega (arith, grades_long s.grades))

pub sums_long : (s : Sums) → length s.grades ≡ grade_count → length (sums_numbers s) ≡ sums_places
sums_long s n = omega (arith, length-append (totals_numbers s.all) (grades_numbers s.grades), grades_long s.grades)

-- behind them how many cars are held, and the four rows

-- a run behind another
behind : (lent y ns : List ℕ) (at : ℕ) → 0 + length y ≡ at → at + length ns ≤ length lent → put (put lent 0 y) at ns ≡ put lent 0 (y ++ ns)
behind lent y ns at m h = ap (λ (i : ℕ). put (put lent 0 y) i ns) (sym m) ∙ put_put lent 0 y ns (omega arith)

pub train_written : (t : Train) (lent : List ℕ) → length lent ≡ train_places → Sixty t → length t.sums.grades ≡ grade_count
    → put (put (put (put (set (put lent 0 (sums_numbers t.sums)) sums_places t.held) 26 t.numbers) 86 t.grades) 146 t.grosses) 206 t.nets ≡ train_numbers t
train_written t lent e s g =
    let x : List ℕ = sums_numbers t.sums in
    let k : 0 + length x ≡ sums_places = omega (arith, sums_long t.sums g) in
    let y : List ℕ = x ++ (t.held ∷ []) in
    let ny : 0 + length y ≡ 26 = omega (arith, length-append x (t.held ∷ [])) in
    let y1 : List ℕ = y ++ t.numbers in
    let n1 : 0 + length y1 ≡ 86 = omega (arith, length-append y t.numbers, s.numbers) in
    let y2 : List ℕ = y1 ++ t.grades in
    let n2 : 0 + length y2 ≡ 146 = omega (arith, length-append y1 t.grades, s.grades) in
    let y3 : List ℕ = y2 ++ t.grosses in
    let n3 : 0 + length y3 ≡ 206 = omega (arith, length-append y2 t.grosses, s.grosses) in
    ap (λ (l : List ℕ). put (put (put (put l 26 t.numbers) 86 t.grades) 146 t.grosses) 206 t.nets)
    (set_put (put lent 0 x) sums_places t.held (omega (arith, length_put lent 0 x (omega arith)))
    ∙ ap (λ (i : ℕ). put (put lent 0 x) i (t.held ∷ [])) (sym k)
    ∙ put_put lent 0 x (t.held ∷ []) (omega arith))
    ∙ ap (λ (l : List ℕ). put (put (put l 86 t.grades) 146 t.grosses) 206 t.nets) (behind lent y t.numbers 26 ny (omega (arith, s.numbers)))
    ∙ ap (λ (l : List ℕ). put (put l 146 t.grosses) 206 t.nets) (behind lent y1 t.grades 86 n1 (omega (arith, s.grades)))
    ∙ ap (λ (l : List ℕ). put l 206 t.nets) (behind lent y2 t.grosses 146 n2 (omega (arith, s.grosses)))
    ∙ behind lent y3 t.nets 206 n3 (omega (arith, s.nets))
    ∙ put_whole lent (y3 ++ t.nets) (omega (arith, length-append y3 t.nets, s.nets))
    ∙ append_assoc y2 t.grosses t.nets
    ∙ append_assoc y1 t.grades (t.grosses ++ t.nets)
    ∙ append_assoc y t.numbers (t.grades ++ (t.grosses ++ t.nets))
    ∙ append_assoc x (t.held ∷ []) (t.numbers ++ (t.grades ++ (t.grosses ++ t.nets)))

-- Reading.

abbrev train_from : Totals → List Totals → ℕ → List ℕ → List ℕ → List ℕ → List ℕ → Train
train_from all of-grades held numbers grades grosses nets =
    record { sums = record { all = all; grades = of-grades }; held = held; numbers = numbers; grades = grades; grosses = grosses; nets = nets }

pub totals_read : (l : List ℕ) (at : ℕ) {g n : ℕ} → g ≡ joined (get_or l (at + 1) 0) (get_or l (at + 2) 0) → n ≡ joined (get_or l (at + 3) 0) (get_or l (at + 4) 0)
    → totals_from (get_or l at 0) g n ≡ totals_at l at
totals_read l at g n = cc

pub train_read : (l : List ℕ) {all a b c d : Totals} {numbers grades grosses nets : List ℕ}
    → a ≡ totals_at l 5 → b ≡ totals_at l 10 → c ≡ totals_at l 15 → d ≡ totals_at l 20 → all ≡ totals_at l 0
    → numbers ≡ row_at l 26 → grades ≡ row_at l 86 → grosses ≡ row_at l 146 → nets ≡ row_at l 206
    → train_from all (a ∷ b ∷ c ∷ d ∷ []) (get_or l sums_places 0) numbers grades grosses nets ≡ train_of l
train_read l a b c d all numbers grades grosses nets = cc

-- what was written is read again

-- four rows of sixty, one behind another
module _ (a b c d : List ℕ) (na : length a ≡ most_cars) (nb : length b ≡ most_cars) (nc : length c ≡ most_cars) (nd : length d ≡ most_cars) where
  abbrev rows : List ℕ
  rows = a ++ (b ++ (c ++ d))

  past_one : drop 60 rows ≡ b ++ (c ++ d)
  past_one = drop_at a (b ++ (c ++ d)) 60 na

  past_two_lem : drop 120 rows ≡ c ++ d
  past_two_lem = sym (drop-drop 60 60 rows) ∙ ap (drop 60) past_one ∙ drop_at b (c ++ d) 60 nb

  past_three : drop 180 rows ≡ d
  past_three = sym (drop-drop 60 120 rows) ∙ ap (drop 60) past_two_lem ∙ drop_at c d 60 nc

  row_one : take 60 rows ≡ a
  row_one = take_at a (b ++ (c ++ d)) 60 na

  row_two : take 60 (drop 60 rows) ≡ b
  row_two = ap (take 60) past_one ∙ take_at b (c ++ d) 60 nb

  row_three : take 60 (drop 120 rows) ≡ c
  row_three = ap (take 60) past_two_lem ∙ take_at c d 60 nc

  row_four : take 60 (drop 180 rows) ≡ d
  row_four = ap (take 60) past_three ∙ take_all 60 d (omega arith)

rows_same : (all : Totals) (of-grades : List Totals) (held : ℕ) {n n' g g' x x' y y' : List ℕ} → n ≡ n' → g ≡ g' → x ≡ x' → y ≡ y'
    → train_from all of-grades held n g x y ≡ train_from all of-grades held n' g' x' y'
rows_same all of-grades held n g x y = cc

abbrev with_totals : Train → List Totals → Train
with_totals t l = train_from t.sums.all l t.held t.numbers t.grades t.grosses t.nets

abbrev rows_of : Train → List ℕ
rows_of t = t.numbers ++ (t.grades ++ (t.grosses ++ t.nets))

pub train_again : (t : Train) → length t.sums.grades ≡ grade_count → Sixty t → train_of (train_numbers t) ≡ t
train_again t e s = by_grades t.sums.grades e
  where
    by_grades : (l : List Totals) → length l ≡ grade_count → train_of (train_numbers (with_totals t l)) ≡ with_totals t l
    by_grades [] e = absurd (omega arith)
    by_grades (a ∷ []) e = absurd (omega arith)
    by_grades (a ∷ b ∷ []) e = absurd (omega arith)
    by_grades (a ∷ b ∷ c ∷ []) e = absurd (omega arith)
    by_grades (a ∷ b ∷ c ∷ d ∷ []) e =
        let all = t.sums.all in
        let sums : train_of (train_numbers (with_totals t (a ∷ b ∷ c ∷ d ∷ []))) ≡ train_from all (a ∷ b ∷ c ∷ d ∷ []) t.held (take 60 (rows_of t)) (take 60 (drop 60 (rows_of t))) (take 60 (drop 120 (rows_of t))) (take 60 (drop 180 (rows_of t))) =
        rw
        (mod-add-div all.gross half, mod-add-div all.net half, mod-add-div a.gross half, mod-add-div a.net half, mod-add-div b.gross half, mod-add-div b.net half, mod-add-div c.gross half, mod-add-div c.net half, mod-add-div d.gross half, mod-add-div d.net half) in
        sums
        ∙ rows_same all (a ∷ b ∷ c ∷ d ∷ []) t.held
        (row_one t.numbers t.grades t.grosses t.nets s.numbers s.grades s.grosses s.nets)
        (row_two t.numbers t.grades t.grosses t.nets s.numbers s.grades s.grosses s.nets)
        (row_three t.numbers t.grades t.grosses t.nets s.numbers s.grades s.grosses s.nets)
        (row_four t.numbers t.grades t.grosses t.nets s.numbers s.grades s.grosses s.nets)
    by_grades (a ∷ b ∷ c ∷ d ∷ x ∷ l) e = absurd (omega arith)

low_half : (low high : ℕ) → low < half → joined low high % half ≡ low
low_half low high h = add-mul-mod_self_left low half high ∙ mod-eq_of_lt h

high_half : (low high : ℕ) → low < half → joined low high / half ≡ high
high_half low high h = add-mul-div_left low high (omega arith) ∙ ap (λ (n : ℕ). n + high) (div-eq_of_lt h) ∙ zero-add high

-- a number in front of those that follow it, and totals
next : (l : List ℕ) (i j : ℕ) {rest : List ℕ} → j ≡ suc i → i < length l → rest ≡ drop j l → get_or l i 0 ∷ rest ≡ drop i l
next l i j p h e = ap (λ (r : List ℕ). get_or l i 0 ∷ r) (e ∙ ap (λ (k : ℕ). drop k l) p) ∙ sym (drop-cons l i 0 h)

totals_next : (l : List ℕ) (i j : ℕ) {rest : List ℕ} → ((k : ℕ) → get_or l k 0 < half) → j ≡ i + 5 → j ≤ length l → rest ≡ drop j l → totals_numbers (totals_at l i) ++ rest ≡ drop i l
totals_next l i j low p h e =
    rw
    (low_half (get_or l (i + 1) 0) (get_or l (i + 2) 0) (low (i + 1)), high_half (get_or l (i + 1) 0) (get_or l (i + 2) 0) (low (i + 1)), low_half (get_or l (i + 3) 0) (get_or l (i + 4) 0) (low (i + 3)), high_half (get_or l (i + 3) 0) (get_or l (i + 4) 0) (low (i + 3)))
    (next l i (i + 1) (omega arith) (omega arith)
    (next l (i + 1) (i + 2) (omega arith) (omega arith)
    (next l (i + 2) (i + 3) (omega arith) (omega arith)
    (next l (i + 3) (i + 4) (omega arith) (omega arith)
    (next l (i + 4) j (omega arith) (omega arith) e)))))

-- a row in front of what follows it
row_next : (l : List ℕ) (i j : ℕ) {rest : List ℕ} → j ≡ i + 60 → rest ≡ drop j l → row_at l i ++ rest ≡ drop i l
row_next l i j p e = ap (λ (r : List ℕ). row_at l i ++ r) (e ∙ ap (λ (k : ℕ). drop k l) p ∙ sym (drop-drop 60 i l)) ∙ take-append-drop 60 (drop i l)

-- the numbers of a train that lies in a slice are the slice's
train_same : (l : List ℕ) → length l ≡ train_places → ((k : ℕ) → get_or l k 0 < half) → train_numbers (train_of l) ≡ l
train_same l n low =
    totals_next l 0 5 low refl (omega arith)
    (totals_next l 5 10 low refl (omega arith)
    (totals_next l 10 15 low refl (omega arith)
    (totals_next l 15 20 low refl (omega arith)
    (totals_next l 20 25 low refl (omega arith)
    (next l 25 26 refl (omega arith)
    (row_next l 26 86 refl (row_next l 86 146 refl (row_next l 146 206 refl (take_all 60 (drop 206 l) (omega (arith, length-drop 206 l)))))))))))

pub train_handed : {right : Bool} {t : Train} {lent left : List ℕ} → length lent ≡ train_places → ((k : ℕ) → get_or lent k 0 < half)
    → right ≡ true → left ≡ train_numbers t → train_of left ≡ t → TrainHanded right t lent left
train_handed {right} {t} {lent} {left} n low e w again = record {
  numbers = w ∙ ap (λ (b : Bool). cond b (train_numbers t) lent) (sym e);
  again = λ _. again;
  unchanged = λ s. w ∙ ap train_numbers s ∙ train_same lent n low;
}

-- a train that is the one that was lent, and is not written
pub train_left : {right : Bool} {t : Train} {lent : List ℕ} → length lent ≡ train_places → ((k : ℕ) → get_or lent k 0 < half)
    → right ≡ true → train_of lent ≡ t → TrainHanded right t lent lent
train_left {lent} n low e is = train_handed n low e (sym (train_same lent n low) ∙ ap train_numbers is) is

pub train_kept : {right : Bool} {t : Train} {lent : List ℕ} → right ≡ false → TrainHanded right t lent lent
train_kept {right} {t} {lent} e = record { numbers = kept _ _ e; again = λ r. cc; unchanged = λ s. refl }
