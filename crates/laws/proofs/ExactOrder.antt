-- An order's pairs are those of the rows that they were put into.
-- Assumes nothing.
use Prim.Native.Nat.{ℕ, zero, suc, ◌+◌, ◌-◌, ◌*◌, ◌^◌, ◌≤◌, ◌<◌}
use native.Mathlib.Nat.{add-zero, zero-add, add-suc, suc-add, suc-mul, zero-mul, mul-le-mul_right, div-eq_of_lt, not-suc-le-zero, le_of_suc-le-suc, two-pow-succ}
use native.Mathlib.Numerals.{add-one}
use native.Mathlib.Omega.{arith}
use native.Mathlib.Decide.{dec_lt}
use mathlib.Core.Path.{◌≡◌, refl, sym, ap, ◌∙◌, subst}
use mathlib.Core.Bool.{Bool, true, false, cond}
use mathlib.Core.List.{List, [], ◌∷◌, ◌++◌, append_assoc, append-nil}
use lib.Dec.{eqb, leb, lit≤}
use lib.Bits.{bit_or, or_lt}
use lib.ListN.{length, get_or, set, replicate, length-set, length-replicate}
use lib.Pow.{pow_pos, pow_mono, pow-lt}
use borrow.Author.Tests.{leb-true, ne_eqb, eq-eqb}
use Rattle.finite.specs.Lists.{each, All}
use Rattle.finite.proofs.Tests.{or_r, or_false}
use Rattle.bits.specs.Bit.{bit}
use Rattle.bits.proofs.Bits.{bit_with}
use Rattle.number.specs.Number.{encode}
use Rattle.number.specs.Reader.{turns, give, ◌>>=◌}
use Rattle.codec.proofs.Exact.{Exact, As, exact_give, exact_then, exact_bind, exact_last, exact_unless, exact_up_to, exact_below, Along, Turned, exact_turns}
use Rattle.model.specs.Record.{Pair, pair, rank, rising_pair, Rows, no_pairs, with_pair, next_pair, order}
use Rattle.model.specs.Written.{pair_bytes, row_pairs, rows_pairs, order_bytes}
use Rattle.model.specs.Fits.{RowsFit}
use Rattle.laws.proofs.ReadOrder.{Rising, put_rows, folded_rows}
use Rattle.laws.proofs.Exact.{Refused, told}

-- ---- a row with one pair more

-- the row with the bit b set
abbrev with : ℕ → ℕ → ℕ
with r b = bit_or r (2 ^ b)

with_small : (r b : ℕ) → r < 2 ^ b → with r b < 2 ^ suc b
with_small r b h = or_lt (suc b) r (2 ^ b) (omega (arith, two-pow-succ b)) (pow-lt (omega arith))

-- no bit of r stands at c or above
none_above : (a r c i : ℕ) → r < 2 ^ c → row_pairs a r c i ≡ []
unfolding row_pairs bit
none_above a r c zero h = refl
none_above a r c (suc i) h =
    let power : 2 ^ suc c ≡ 2 ^ c + 2 ^ c = two-pow-succ c in
    rw (div-eq_of_lt h) (none_above a r (suc c) i (omega arith))

-- a bit below b stays
bit_other : (r b c : ℕ) → c < b → bit (with r b) c ≡ bit r c
bit_other r b c h = bit_with r b c ∙ rw (ne_eqb c b (λ e. omega arith)) (or_false (bit r c))

bit_here : (r b : ℕ) → bit (with r b) b ≡ true
bit_here r b = bit_with r b b ∙ or_r (bit r b) (eqb b b) (eq-eqb b b refl)

top_row : (a r b i : ℕ) → r < 2 ^ b → row_pairs a (with r b) b (suc i) ≡ record { a = a; b = b } ∷ []
unfolding row_pairs
top_row a r b i h =
    rw (bit_here r b) (ap (λ (l : List Pair). record { a = a; b = b } ∷ l) (none_above a (with r b) (suc b) i (with_small r b h)))

-- the row with the bit b above all others has one pair more, at the end
row_more : (a r b c i : ℕ) → r < 2 ^ b → c ≤ b → b < c + i → row_pairs a (with r b) c i ≡ row_pairs a r c i ++ (record { a = a; b = b } ∷ [])
unfolding row_pairs
row_more a r b c zero h l m = absurd (omega arith)
row_more a r b c (suc i) h l m = go (dec_lt c b) (row_more a r b (suc c) i h)
  where
    go : Dec (c < b) → (suc c ≤ b → b < suc c + i → row_pairs a (with r b) (suc c) i ≡ row_pairs a r (suc c) i ++ (record { a = a; b = b } ∷ []))
        → row_pairs a (with r b) c (suc i) ≡ row_pairs a r c (suc i) ++ (record { a = a; b = b } ∷ [])
    go (yes x) ih = rw (bit_other r b c x) (this (bit r c))
      where
        this : (y : Bool) → cond y (record { a = a; b = c } ∷ row_pairs a (with r b) (suc c) i) (row_pairs a (with r b) (suc c) i)
            ≡ cond y (record { a = a; b = c } ∷ row_pairs a r (suc c) i) (row_pairs a r (suc c) i) ++ (record { a = a; b = b } ∷ [])
        this true = ap (λ (l : List Pair). record { a = a; b = c } ∷ l) (ih (omega arith) (omega arith))
        this false = ih (omega arith) (omega arith)
    go (no x) ih =
        let e : b ≡ c = omega arith in
        subst (λ (c : ℕ). row_pairs a (with r b) c (suc i) ≡ row_pairs a r c (suc i) ++ (record { a = a; b = b } ∷ [])) e
        (top_row a r b i h ∙ ap (λ (l : List Pair). l ++ (record { a = a; b = b } ∷ [])) (sym (none_above a r b (suc i) h)))

-- ---- rows with no pair from a, b on

abbrev Low : (k : ℕ) → List ℕ → (a b : ℕ) → Type 0
Low k [] a b = Unit {0}
Low k (r ∷ rows) zero b = (r < 2 ^ b) × All (λ x. x ≡ 0) rows
Low k (r ∷ rows) (suc a) b = (r < 2 ^ k) × Low k rows a b

low_zeros : (k a b : ℕ) (rows : List ℕ) → All (λ x. x ≡ 0) rows → Low k rows a b
low_zeros k a b [] h = tt
low_zeros k zero b (r ∷ rows) h = (omega (arith, h.0, pow_pos b), h.1)
low_zeros k (suc a) b (r ∷ rows) h = (omega (arith, h.0, pow_pos k), low_zeros k a b rows h.1)

zeros : (j : ℕ) → All (λ (x : ℕ). x ≡ 0) (replicate j 0)
zeros zero = tt
zeros (suc j) = (refl, zeros j)

-- and so none from further on
low_later : (k a b b' j : ℕ) (rows : List ℕ) → b ≤ k → Low k rows a b → Low k rows (suc (a + j)) b'
low_later k a b b' j [] hb h = tt
low_later k zero b b' j (r ∷ rows) hb h = (omega (arith, h.0, pow_mono hb), low_zeros k (0 + j) b' rows h.1)
low_later k (suc a) b b' j (r ∷ rows) hb h = rw (suc-add a j) (h.0, low_later k a b b' j rows hb h.1)

low_here : (k a b b' : ℕ) (rows : List ℕ) → b ≤ b' → Low k rows a b → Low k rows a b'
low_here k a b b' [] hb h = tt
low_here k zero b b' (r ∷ rows) hb h = (omega (arith, h.0, pow_mono hb), h.1)
low_here k (suc a) b b' (r ∷ rows) hb h = (h.0, low_here k a b b' rows hb h.1)

low_from : (k a b a' b' : ℕ) (rows : List ℕ) → b ≤ k → b' < k → a * k + b ≤ a' * k + b' → Low k rows a b → Low k rows a' b'
low_from k a b a' b' rows hb hb' l h = go (dec_lt a a') (dec_lt a' a)
  where
    go : Dec (a < a') → Dec (a' < a) → Low k rows a' b'
    go (yes x) y =
        let later : suc (a + (a' - suc a)) ≡ a' = omega arith in
        subst (λ (z : ℕ). Low k rows z b') later (low_later k a b b' (a' - suc a) rows hb h)
    go (no x) (yes y) =
        let over : suc a' * k ≤ a * k = mul-le-mul_right k y in
        absurd (omega (arith, suc-mul a' k))
    go (no x) (no y) =
        let same : a ≡ a' = omega arith in
        let rank : a * k + b ≤ a * k + b' = rw (← same) at l in
        subst (λ (z : ℕ). Low k rows z b') same (low_here k a b b' rows (omega arith) h)

low_set : (k a b : ℕ) (rows : List ℕ) → Low k rows a b → Low k (set rows a (with (get_or rows a 0) b)) a (suc b)
low_set k a b [] h = tt
low_set k zero b (r ∷ rows) h = (with_small r b h.0, h.1)
low_set k (suc a) b (r ∷ rows) h = (h.0, low_set k a b rows h.1)

low_rows : (k a b : ℕ) (rows : List ℕ) → b ≤ k → Low k rows a b → All (λ r. r < 2 ^ k) rows
low_rows k a b [] hb h = tt
low_rows k zero b (r ∷ rows) hb h = (omega (arith, h.0, pow_mono hb), all-zeros rows h.1)
  where
    all-zeros : (rows : List ℕ) → All (λ x. x ≡ 0) rows → All (λ r. r < 2 ^ k) rows
    all-zeros [] h = tt
    all-zeros (r ∷ rows) h = (omega (arith, h.0, pow_pos k), all-zeros rows h.1)
low_rows k (suc a) b (r ∷ rows) hb h = (h.0, low_rows k a b rows hb h.1)

no-pairs : (k a : ℕ) (rows : List ℕ) → All (λ x. x ≡ 0) rows → rows_pairs k a rows ≡ []
unfolding rows_pairs
no-pairs k a [] h = refl
no-pairs k a (r ∷ rows) h = rw (none_above a r 0 k (omega (arith, h.0)), no-pairs k (suc a) rows h.1)

-- a pair that is put above all others comes last
rows_more : (k from a b : ℕ) (rows : List ℕ) → Low k rows a b → a < length rows → b < k
    → rows_pairs k from (set rows a (with (get_or rows a 0) b)) ≡ rows_pairs k from rows ++ (record { a = from + a; b = b } ∷ [])
unfolding rows_pairs
rows_more k from a b [] h l m = absurd (not-suc-le-zero l)
rows_more k from zero b (r ∷ rows) h l m =
    simp (no-pairs k (suc from) rows h.1, append-nil, add-zero) (row_more from r b 0 k h.0 (omega arith) (omega arith))
rows_more k from (suc a) b (r ∷ rows) h l m =
    ap (λ (l : List Pair). row_pairs from r 0 k ++ l) (rows_more k (suc from) a b rows h.1 (le_of_suc-le-suc l) m) ∙ simp (append_assoc, add-suc, suc-add)

-- the rows that rising pairs make hold them all, in order
record Back (k : ℕ) (rows : List ℕ) (ps : List Pair) : Type 0 where
  back : rows_pairs k 0 (put_rows rows ps) ≡ rows_pairs k 0 rows ++ ps
  size : length (put_rows rows ps) ≡ k
  small : All (λ r. r < 2 ^ k) (put_rows rows ps)

put_back : (k a b : ℕ) (rows : List ℕ) (ps : List Pair) → b ≤ k → length rows ≡ k → Low k rows a b → Rising k (a * k + b) ps → Back k rows ps
put_back k a b rows [] hb e h r = record { back = sym (append-nil _); size = e; small = low_rows k a b rows hb h }
put_back k a b rows (p ∷ ps) hb e h r =
    let rows' : List ℕ = set rows p.a (with (get_or rows p.a 0) p.b) in
    let low : Low k rows p.a p.b = low_from k a b p.a p.b rows hb r.1 r.2 h in
    let rising : Rising k (p.a * k + suc p.b) ps = rw add-suc (rw add-one at r.3) in
    let ih : Back k rows' ps = put_back k p.a (suc p.b) rows' ps r.1 (length-set rows p.a _ ∙ e) (low_set k p.a p.b rows low) rising in
    let one : rows_pairs k 0 rows' ≡ rows_pairs k 0 rows ++ (p ∷ []) = rw zero-add at (rows_more k 0 p.a p.b rows low (omega (arith, r.0)) r.1) in
    record { back = ih.back ∙ rw (one, append_assoc); size = ih.size; small = ih.small }

-- ---- the readers

pub exact_pair : (k : ℕ) → 0 < k → Exact Refused (pair k) (As pair_bytes (λ p. (p.a < k) × (p.b < k)))
unfolding pair pair_bytes
exact_pair k l = exact_bind (exact_below told k l) (λ a h. exact_last _ _ (exact_below told k l) (λ b h'. record { same = refl; fits = (h, h') }))

-- a pair that may come next
abbrev Next : (k : ℕ) → Rows → Pair → Type 0
Next k o p = ((p.a < k) × (p.b < k)) × (leb o.least (rank k p) ≡ true)

exact_pairs : (k : ℕ) → 0 < k → (i : ℕ) (o : Rows) → Exact Refused (turns i (next_pair k) o) (Turned (with_pair k) pair_bytes (Next k) i o)
unfolding next_pair rising_pair
exact_pairs k l i o =
    exact_turns (λ o. rising_pair k o.least) (with_pair k) pair_bytes (Next k) (λ o. exact_unless told 4 _ (lit≤ tt) (lit≤ tt) (exact_pair k l)) i o

along_rising : (k : ℕ) (o : Rows) (ps : List Pair) → Along (with_pair k) (Next k) o ps → Rising k o.least ps
along_rising k o [] h = tt
along_rising k o (p ∷ ps) h = (h.0.0.0, h.0.0.1, leb-true o.least (rank k p) h.0.1, along_rising k (with_pair k o p) ps h.1)

order_made : (k i : ℕ) (o : Rows) (bs : List ℕ) → Turned (with_pair k) pair_bytes (Next k) i (no_pairs k) o bs
    → As (order_bytes k) (RowsFit k) o.rows (encode i ++ bs)
unfolding order_bytes
order_made k i o bs T =
    let rising : Rising k (0 * k + 0) T.xs = rw (zero-mul, add-zero) (along_rising k (no_pairs k) T.xs T.fits) in
    let made : o.rows ≡ put_rows (replicate k 0) T.xs = ap (λ (o : Rows). o.rows) T.made ∙ folded_rows k (no_pairs k) T.xs in
    let B : Back k (replicate k 0) T.xs = put_back k 0 0 (replicate k 0) T.xs (omega arith) (length-replicate k 0) (low_zeros k 0 0 (replicate k 0) (zeros k)) rising in
    let back : rows_pairs k 0 o.rows ≡ T.xs = ap (rows_pairs k 0) made ∙ B.back ∙ rw (no-pairs k 0 (replicate k 0) (zeros k)) in
    record { same = rw (back, T.count, T.bytes); fits = rw made (B.size, B.small) }

-- without events there are no pairs
exact_turned : (k i : ℕ) → i ≤ k * k → Exact Refused (turns i (next_pair k) (no_pairs k)) (Turned (with_pair k) pair_bytes (Next k) i (no_pairs k))
exact_turned zero zero l = unfold turns each in exact_give _ (no_pairs 0) (record { xs = []; count = refl; made = refl; fits = tt; bytes = refl })
exact_turned zero (suc i) l = absurd (omega arith)
exact_turned (suc k) i l = exact_pairs (suc k) (omega arith) i (no_pairs (suc k))

pub exact_order : (k : ℕ) → Exact Refused (order k) (As (order_bytes k) (RowsFit k))
unfolding order
exact_order k =
    exact_bind (exact_up_to told (k * k)) (λ i h. behind i (exact_turned k i h))
  where
    behind : (i : ℕ) → Exact Refused (turns i (next_pair k) (no_pairs k)) (Turned (with_pair k) pair_bytes (Next k) i (no_pairs k))
        → Exact Refused (turns i (next_pair k) (no_pairs k) >>= λ o. give o.rows) (λ rows bs. As (order_bytes k) (RowsFit k) rows (encode i ++ bs))
    behind i p = exact_then p (λ o bs T. exact_give _ o.rows (rw (append-nil bs) (order_made k i o bs T)))
