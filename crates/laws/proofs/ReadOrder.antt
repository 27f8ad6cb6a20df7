-- An order's pairs are read back as its rows.
-- Assumes nothing.
use Prim.Native.Nat.{ℕ, zero, suc, ◌+◌, ◌*◌, ◌/◌, ◌%◌, ◌^◌, ◌≤◌, ◌<◌}
use native.Mathlib.Nat.{add-zero, zero-add, add-suc, suc-add, suc-mul, zero-mul, mul-le-mul_right, mod-one, mod-lt, mod-eq_of_lt, one-mul}
use native.Mathlib.Numerals.{one-add, add-one}
use native.Mathlib.Omega.{arith}
use mathlib.Core.Path.{◌≡◌, refl, sym, ap, ◌∙◌, subst}
use mathlib.Core.Bool.{Bool, true, false, cond}
use mathlib.Core.List.{List, [], ◌∷◌, ◌++◌, append_assoc}
use lib.Bits.{bit_or, or_shifted_r}
use lib.ListN.{length, get_or, set, length-append, replicate}
use lib.Seq.{set-append_seam, get_or-append_seam}
use lib.Pow.{mod-pow-add, pow_pos}
use borrow.Author.Tests.{le-leb, eqb-true, eqb-false}
use Rattle.finite.specs.Lists.{each, All}
use Rattle.number.specs.Number.{groups}
use Rattle.number.specs.Reader.{give, ◌>>=◌, turns}
use Rattle.bits.specs.Bit.{bit}
use Rattle.codec.proofs.ReadsAs.{ReadsAs, reads_give, reads_bind, reads_last, reads_unless, reads_up_to, reads_below}
use Rattle.codec.proofs.Exact.{folded}
use Rattle.model.specs.Record.{Pair, Rows, pair, rank, rising_pair, with_pair, next_pair, no_pairs, order}
use Rattle.model.specs.Written.{pair_bytes, row_pairs, rows_pairs, order_bytes}

abbrev pub Rising : (k least : ℕ) → List Pair → Type 0
Rising k least [] = Unit {0}
Rising k least (p ∷ ps) = (p.a < k) × (p.b < k) × (least ≤ rank k p) × Rising k (rank k p + 1) ps

pub reads_pairs : (k : ℕ) (o : Rows) (ps : List Pair) → Rising k o.least ps → k ≤ 128 ^ groups → ReadsAs (turns (length ps) (next_pair k) o) (each pair_bytes ps) (folded (with_pair k) o ps)
unfolding turns each next_pair rising_pair
reads_pairs k o [] h f = reads_give o
reads_pairs k o (p ∷ ps) h f =
    let this : ReadsAs (pair k) (pair_bytes p) p = unfold pair pair_bytes in reads_bind _ (reads_below k p.a h.0 f) (reads_last _ (reads_below k p.b h.1 f)) in
    reads_bind _ (reads_last _ (reads_unless 4 _ this (le-leb o.least (rank k p) h.2))) (reads_pairs k (with_pair k o p) ps h.3 f)

weaken : (k least less : ℕ) (ps : List Pair) → less ≤ least → Rising k least ps → Rising k less ps
weaken k least less [] h r = tt
weaken k least less (p ∷ ps) h r = (r.0, r.1, omega (arith, r.2), r.3)

rising_row : (k a row b i least : ℕ) (rest : List Pair) → a < k → b + i ≤ k → least ≤ a * k + b → Rising k (a * k + k) rest → Rising k least (row_pairs a row b i ++ rest)
unfolding row_pairs
rising_row k a row b zero least rest ha hb hl r = weaken k (a * k + k) least rest (omega arith) r
rising_row k a row b (suc i) least rest ha hb hl r = go (bit row b) (λ l h. rising_row k a row (suc b) i l rest ha (omega arith) h r)
  where
    go : (x : Bool) → ((l : ℕ) → l ≤ a * k + suc b → Rising k l (row_pairs a row (suc b) i ++ rest))
        → Rising k least (cond x (record { a = a; b = b } ∷ row_pairs a row (suc b) i) (row_pairs a row (suc b) i) ++ rest)
    go true f = (ha, omega arith, hl, f (a * k + b + 1) (omega arith))
    go false f = f least (omega arith)

pub rising_rows : (k a : ℕ) (rows : List ℕ) → length rows + a ≤ k → Rising k (a * k) (rows_pairs k a rows)
unfolding rows_pairs
rising_rows k a [] h = tt
rising_rows k a (row ∷ rows) h =
    rising_row k a row 0 k (a * k) (rows_pairs k (suc a) rows) (omega arith) (omega arith) (omega arith)
    (subst (λ (x : ℕ). Rising k x (rows_pairs k (suc a) rows)) (suc-mul a k) (rising_rows k (suc a) rows (omega arith)))

pub few-pairs : (k least : ℕ) (ps : List Pair) → least ≤ k * k → Rising k least ps → length ps + least ≤ k * k
few-pairs k least [] h r = omega arith
few-pairs k least (p ∷ ps) h r =
    let top : suc p.a * k ≤ k * k = mul-le-mul_right k r.0 in
    let top' : p.a * k + k ≤ k * k = rw suc-mul at top in
    let rest : length ps + (rank k p + 1) ≤ k * k = few-pairs k (rank k p + 1) ps (omega (arith, r.1)) r.3 in
    omega (arith, r.2)

-- the rows alone
abbrev pub put_rows : List ℕ → List Pair → List ℕ
put_rows rows [] = rows
put_rows rows (p ∷ ps) = put_rows (set rows p.a (bit_or (get_or rows p.a 0) (2 ^ p.b))) ps

pub folded_rows : (k : ℕ) (o : Rows) (ps : List Pair) → (folded (with_pair k) o ps).rows ≡ put_rows o.rows ps
folded_rows k o [] = refl
folded_rows k o (p ∷ ps) = folded_rows k (with_pair k o p) ps

put-append : (rows : List ℕ) (ps qs : List Pair) → put_rows rows (ps ++ qs) ≡ put_rows (put_rows rows ps) qs
put-append rows [] qs = refl
put-append rows (p ∷ ps) qs = put-append (set rows p.a (bit_or (get_or rows p.a 0) (2 ^ p.b))) ps qs

step : (row b : ℕ) → row % 2 ^ suc b ≡ (row / 2 ^ b % 2) * 2 ^ b + row % 2 ^ b
step row b = subst (λ (j : ℕ). row % 2 ^ j ≡ (row / 2 ^ b % 2) * 2 ^ b + row % 2 ^ b) (one-add b) (mod-pow-add row 1 b)

one-more-bit : (row b : ℕ) → row / 2 ^ b % 2 ≡ 1 → bit_or (row % 2 ^ b) (2 ^ b) ≡ row % 2 ^ suc b
one-more-bit row b one =
    ap (bit_or (row % 2 ^ b)) (sym (one-mul (2 ^ b))) ∙ or_shifted_r 1 b (row % 2 ^ b) (mod-lt row (pow_pos b)) ∙ sym (step row b ∙ rw one)

put_row : (front tl : List ℕ) (row b i : ℕ) → put_rows (front ++ (row % 2 ^ b ∷ tl)) (row_pairs (length front) row b i) ≡ front ++ (row % 2 ^ (b + i) ∷ tl)
unfolding row_pairs bit
put_row front tl row b zero = simp add-zero
put_row front tl row b (suc i) = go (bit row b) refl (put_row front tl row (suc b) i)
  where
    go : (x : Bool) → bit row b ≡ x → put_rows (front ++ (row % 2 ^ suc b ∷ tl)) (row_pairs (length front) row (suc b) i) ≡ front ++ (row % 2 ^ (suc b + i) ∷ tl)
        → put_rows (front ++ (row % 2 ^ b ∷ tl)) (cond x (record { a = length front; b = b } ∷ row_pairs (length front) row (suc b) i) (row_pairs (length front) row (suc b) i)) ≡ front ++ (row % 2 ^ (b + suc i) ∷ tl)
    go true e ih =
        let l : List ℕ = front ++ (row % 2 ^ b ∷ tl) in
        let stored : set l (length front) (bit_or (get_or l (length front) 0) (2 ^ b)) ≡ front ++ (row % 2 ^ suc b ∷ tl) =
        rw (get_or-append_seam front (row % 2 ^ b) tl 0, set-append_seam front (row % 2 ^ b) tl _, one-more-bit row b (eqb-true _ 1 e)) in
        ap (λ (l : List ℕ). put_rows l (row_pairs (length front) row (suc b) i)) stored ∙ ih ∙ simp (add-suc, suc-add)
    go false e ih =
        let none : row / 2 ^ b % 2 ≡ 0 = omega (arith, eqb-false (row / 2 ^ b % 2) 1 e) in
        let whole : row % 2 ^ b ≡ row % 2 ^ suc b = sym (step row b ∙ simp (none, zero-mul, zero-add)) in
        rw whole (ih ∙ simp (add-suc, suc-add))

put-rows : (k : ℕ) (front rows : List ℕ) → All (λ r. r < 2 ^ k) rows → put_rows (front ++ replicate (length rows) 0) (rows_pairs k (length front) rows) ≡ front ++ rows
unfolding rows_pairs
put-rows k front [] h = refl
put-rows k front (row ∷ rows) h =
    let whole : row % 2 ^ k ≡ row = mod-eq_of_lt h.0 in
    let this : put_rows (front ++ (0 ∷ replicate (length rows) 0)) (row_pairs (length front) row 0 k) ≡ front ++ (row ∷ replicate (length rows) 0) =
    simp (zero-add, whole) at (rw (mod-one row) at (put_row front (replicate (length rows) 0) row 0 k)) in
    let rest = put-rows k (front ++ (row ∷ [])) rows h.1 in
    put-append (front ++ (0 ∷ replicate (length rows) 0)) (row_pairs (length front) row 0 k) (rows_pairs k (suc (length front)) rows)
    ∙ ap (λ (l : List ℕ). put_rows l (rows_pairs k (suc (length front)) rows)) this
    ∙ simp (append_assoc, length-append, add-one) at rest

pub reads_order : (k : ℕ) (rows : List ℕ) → length rows ≡ k → All (λ r. r < 2 ^ k) rows → k * k < 128 ^ groups → k ≤ 128 ^ groups → ReadsAs (order k) (order_bytes k rows) rows
unfolding order order_bytes
reads_order k rows e h f f' =
    let ps : List Pair = rows_pairs k 0 rows in
    let up : Rising k 0 ps = rw zero-mul at (rising_rows k 0 rows (omega arith)) in
    let few : length ps ≤ k * k = omega (arith, few-pairs k 0 ps (omega arith) up) in
    let all : (folded (with_pair k) (no_pairs k) ps).rows ≡ rows = folded_rows k (no_pairs k) ps ∙ rw e at (put-rows k [] rows h) in
    reads_bind _ (reads_up_to (k * k) (length ps) few f)
    (subst (λ (x : List ℕ). ReadsAs (turns (length ps) (next_pair k) (no_pairs k) >>= λ o. give o.rows) (each pair_bytes ps) x) all (reads_last (λ o. o.rows) (reads_pairs k (no_pairs k) ps up f')))
