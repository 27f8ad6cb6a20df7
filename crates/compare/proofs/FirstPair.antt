-- Of two orders with as many pairs, the one that has the first pair that the other lacks is the lesser.
-- Assumes nothing.
use Prim.Native.Nat.{ℕ, zero, suc, ◌+◌, ◌-◌, ◌≤◌, ◌<◌}
use native.Mathlib.Nat.{zero-add, add-zero, suc-add}
use native.Mathlib.Omega.{arith}
use mathlib.Core.Path.{◌≡◌, refl, sym, ap, ap₂, ◌∙◌}
use mathlib.Core.Bool.{Bool, true, false, cond}
use mathlib.Core.Logic.{◌⊎◌, inl, inr}
use mathlib.Core.List.{List, [], ◌∷◌, ◌++◌, append_assoc}
use lib.ListN.{length, length-append}
use Rattle.finite.specs.Lists.{table, each, All}
use Rattle.finite.proofs.Lists.{table_same, each_append}
use Rattle.finite.proofs.All.{all_append}
use Rattle.number.proofs.Encoding.{encode_low}
use Rattle.bits.specs.Bit.{bit}
use Rattle.model.specs.Record.{Pair}
use Rattle.model.specs.Written.{pair_bytes, row_pairs, rows_pairs}
use Rattle.compare.specs.Alone.{FirstIn}
use Rattle.compare.proofs.Decisions.{Lesser, lesser-first, lesser-behind}
use Rattle.compare.proofs.Agree.{Agree}

abbrev pair : ℕ → ℕ → Pair
pair a b = record { a = a; b = b }

-- ---- pairs in front

row_split : (a row b i j : ℕ) → row_pairs a row b (i + j) ≡ row_pairs a row b i ++ row_pairs a row (b + i) j
unfolding row_pairs
row_split a row b zero j = rw (zero-add j, add-zero b)
row_split a row b (suc i) j =
    let e : b + suc i ≡ suc b + i = omega arith in
    rw (suc-add i j, e) (by (bit row b) _ _ _ (row_split a row (suc b) i j))
  where
    by : (t : Bool) (x y z : List Pair) → x ≡ y ++ z → cond t (pair a b ∷ x) x ≡ cond t (pair a b ∷ y) y ++ z
    by true x y z h = ap (λ (l : List Pair). pair a b ∷ l) h
    by false x y z h = h

row_same : (a s t b i : ℕ) → ((e : ℕ) → e < b + i → bit s e ≡ bit t e) → row_pairs a s b i ≡ row_pairs a t b i
unfolding row_pairs
row_same a s t b zero h = refl
row_same a s t b (suc i) h = rw (h b (omega arith), row_same a s t (suc b) i (λ e l. h e (omega arith)))

rows_split : (k x i j : ℕ) (f : ℕ → ℕ) → rows_pairs k x (table x (i + j) f) ≡ rows_pairs k x (table x i f) ++ rows_pairs k (x + i) (table (x + i) j f)
unfolding rows_pairs table
rows_split k x zero j f = rw (zero-add j, add-zero x)
rows_split k x (suc i) j f =
    let e : x + suc i ≡ suc x + i = omega arith in
    rw (suc-add i j, e, rows_split k (suc x) i j f) (sym (append_assoc (row_pairs x (f x) 0 k) _ _))

row_at : (a row b n : ℕ) → b < n → row_pairs a row 0 n ≡ row_pairs a row 0 b ++ cond (bit row b) (pair a b ∷ row_pairs a row (suc b) (n - suc b)) (row_pairs a row (suc b) (n - suc b))
unfolding row_pairs
row_at a row b n l =
    let e : n ≡ b + suc (n - suc b) = omega arith in
    ap (row_pairs a row 0) e ∙ row_split a row 0 b (suc (n - suc b)) ∙ rw (zero-add b)

rows_at : (k a n : ℕ) (f : ℕ → ℕ) → a < n
    → rows_pairs k 0 (table 0 n f) ≡ rows_pairs k 0 (table 0 a f) ++ (row_pairs a (f a) 0 k ++ rows_pairs k (suc a) (table (suc a) (n - suc a) f))
unfolding rows_pairs table
rows_at k a n f l =
    let e : n ≡ a + suc (n - suc a) = omega arith in
    ap (λ (m : ℕ). rows_pairs k 0 (table 0 m f)) e ∙ rows_split k 0 a (suc (n - suc a)) f ∙ rw (zero-add a)

-- ---- what holds of each pair

module _ (P : Pair → Type 0) where
  all_row : (a row b i : ℕ) → ((e : ℕ) → b ≤ e → e < b + i → P (pair a e)) → All P (row_pairs a row b i)
  unfolding row_pairs
  all_row a row b zero h = tt
  all_row a row b (suc i) h = by (bit row b) (all_row a row (suc b) i (λ e l m. h e (omega arith) (omega arith)))
    where
      by : (t : Bool) → All P (row_pairs a row (suc b) i) → All P (cond t (pair a b ∷ row_pairs a row (suc b) i) (row_pairs a row (suc b) i))
      by true r = (h b (omega arith) (omega arith), r)
      by false r = r

  all-rows : (k a i : ℕ) (f : ℕ → ℕ) → ((x e : ℕ) → a ≤ x → x < a + i → e < k → P (pair x e)) → All P (rows_pairs k a (table a i f))
  unfolding rows_pairs table
  all-rows k a zero f h = tt
  all-rows k a (suc i) f h =
      all_append P (row_pairs a (f a) 0 k) _ (all_row a (f a) 0 k (λ e l m. h a e (omega arith) (omega arith) (omega arith)))
      (all-rows k (suc a) i f (λ x e l m n. h x e (omega arith) (omega arith) n))

-- ---- a pair and one above it

record Above (p q : Pair) : Type 0 where
  small : q.a < 128
  small' : q.b < 128
  above : (p.a < q.a) ⊎ ((p.a ≡ q.a) × (p.b < q.b))

bytes_of : (p : Pair) (R : List Pair) → p.a < 128 → p.b < 128 → each pair_bytes (p ∷ R) ≡ p.a ∷ (p.b ∷ each pair_bytes R)
unfolding each pair_bytes
bytes_of p R l m = rw (encode_low p.a l, encode_low p.b m)

module _ (p : Pair) (R : List Pair) (l : p.a < 128) (m : p.b < 128) where
  above_lesser : (q : Pair) (S : List Pair) → Above p q → Lesser (each pair_bytes (p ∷ R)) (each pair_bytes (q ∷ S))
  above_lesser q S A = rw (bytes_of p R l m, bytes_of q S A.small A.small') (by A.above)
    where
      by : (p.a < q.a) ⊎ ((p.a ≡ q.a) × (p.b < q.b)) → Lesser (p.a ∷ (p.b ∷ each pair_bytes R)) (q.a ∷ (q.b ∷ each pair_bytes S))
      by (inl h) = lesser-first p.a q.a _ _ h
      by (inr h) = rw h.0 (lesser-behind (q.a ∷ []) (lesser-first p.b q.b _ _ h.1))

  -- in front of it stand the same pairs, and there are as many
  as_many : (c S : List Pair) → length (c ++ (p ∷ R)) ≡ length (c ++ S) → All (Above p) S → Lesser (each pair_bytes (c ++ (p ∷ R))) (each pair_bytes (c ++ S))
  as_many c [] e A = absurd (omega (arith, length-append c (p ∷ R), length-append c []))
  as_many c (q ∷ S) e A = rw (each_append _ c (p ∷ R), each_append _ c (q ∷ S)) (lesser-behind (each pair_bytes c) (above_lesser q S A.0))

-- ---- the pairs of an order

abbrev all_pairs : (k : ℕ) → (ℕ → ℕ) → List Pair
all_pairs k f = rows_pairs k 0 (table 0 k f)

-- those before the pair a, b, and those from there on
module _ (k a b : ℕ) (l : a < k) (m : b < k) (f : ℕ → ℕ) where
  abbrev front : List Pair
  front = rows_pairs k 0 (table 0 a f) ++ row_pairs a (f a) 0 b

  abbrev later : List Pair
  later = row_pairs a (f a) (suc b) (k - suc b) ++ rows_pairs k (suc a) (table (suc a) (k - suc a) f)

  parts : all_pairs k f ≡ front ++ cond (bit (f a) b) (pair a b ∷ later) later
  parts = rows_at k a k f l ∙ rw (row_at a (f a) b k m) (by (bit (f a) b) (rows_pairs k 0 (table 0 a f)) (row_pairs a (f a) 0 b) _ _)
    where
      by : (t : Bool) (w x y z : List Pair) → w ++ ((x ++ cond t (pair a b ∷ y) y) ++ z) ≡ (w ++ x) ++ cond t (pair a b ∷ (y ++ z)) (y ++ z)
      by true w x y z = simp append_assoc
      by false w x y z = simp append_assoc

  later_above : k ≤ 128 → All (Above (pair a b)) later
  later_above h =
      all_append _ (row_pairs a (f a) (suc b) (k - suc b)) _
      (all_row _ a (f a) (suc b) (k - suc b) (λ e n o. record { small = omega arith; small' = omega arith; above = inr (refl, n) }))
      (all-rows _ k (suc a) (k - suc a) f (λ x e n o i. record { small = omega arith; small' = omega arith; above = inl n }))

module _ (k a : ℕ) (f g : ℕ → ℕ) (few : k ≤ 128) (l : a < k) (long : length (all_pairs k f) ≡ length (all_pairs k g)) where
  pub first-lesser : Agree f g k a → FirstIn k (f a) (g a) → Lesser (each pair_bytes (all_pairs k f)) (each pair_bytes (all_pairs k g))
  first-lesser A F =
      let b : ℕ = F.event in
      let c : List Pair = front k a b l F.below g in
      let R : List Pair = later k a b l F.below f in
      let S : List Pair = later k a b l F.below g in
      let e : front k a b l F.below f ≡ c =
      ap₂ (λ (x y : List Pair). x ++ y) (ap (rows_pairs k 0) (table_same 0 a f g (λ y n o. A.same y (omega arith)))) (row_same a (f a) (g a) 0 b (λ e n. F.same e (omega arith))) in
      let p : all_pairs k f ≡ c ++ (pair a b ∷ R) = parts k a b l F.below f ∙ rw (F.has, e) in
      let q : all_pairs k g ≡ c ++ S = parts k a b l F.below g ∙ rw F.lacks in
      rw (p, q) (as_many (pair a b) R (omega arith) (omega (arith, F.below)) c S (rw (p, q) at long) (later_above k a b l F.below g few))
