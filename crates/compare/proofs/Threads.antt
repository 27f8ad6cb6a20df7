-- Two threads' orders compared: by their counts of pairs and, where these are equal, by the first row in which they differ.
-- Assumes nothing.
use Prim.Native.Nat.{ℕ, ◌+◌, ◌*◌, ◌%◌, ◌^◌, ◌≤◌, ◌<◌}
use native.Mathlib.Nat.{mod-lt}
use native.Mathlib.Omega.{arith}
use mathlib.Core.Path.{◌≡◌, sym, ap, ◌∙◌}
use mathlib.Core.List.{List}
use lib.ListN.{length, get_or}
use lib.Pow.{pow_pos}
use Rattle.std.proofs.Common.{Ordering, Equal}
use Rattle.finite.specs.Lists.{each}
use Rattle.finite.proofs.Lists.{table_same}
use Rattle.number.specs.Number.{encode}
use Rattle.bits.proofs.Bits.{bit_ext}
use Rattle.model.specs.Limits.{most_events}
use Rattle.model.specs.Written.{pair_bytes, rows_pairs, order_bytes}
use Rattle.writer.specs.Stages.{pairs}
use Rattle.writer.proofs.Parts.{order-long}
use Rattle.relabel.specs.Orders.{order}
use Rattle.compare.specs.Decided.{Decided}
use Rattle.compare.specs.Alone.{Alone}
use Rattle.compare.proofs.Decisions.{decided_by, decided_equal, decided_behind, decided_before}
use Rattle.compare.proofs.Groups.{encode_same}
use Rattle.compare.proofs.Agree.{Agree, next, agree_back, agree_all}
use Rattle.compare.proofs.FirstPair.{first-lesser}

-- event a's row in p's order
abbrev pub row_of : List ℕ → (k p a : ℕ) → ℕ
row_of rows k p a = get_or rows (p * most_events + a) 0 % 2 ^ k

-- the bytes of p's pairs
abbrev bytes_of : List ℕ → (k p : ℕ) → List ℕ
bytes_of rows k p = each pair_bytes (rows_pairs k 0 (order k rows p))

module _ (rows : List ℕ) (k p q : ℕ) where
  module _ (a : ℕ) (A : Agree (row_of rows k p) (row_of rows k q) k a) where
    pub all-rows-equal : k ≤ a → Decided (bytes_of rows k p) (bytes_of rows k q) Equal
    all-rows-equal l = decided_equal (ap (λ o. each pair_bytes (rows_pairs k 0 o)) (table_same 0 k _ _ (λ y n o. agree_all A l y (omega arith))))

    module _ (l : a < k) (s t : ℕ) (es : s ≡ row_of rows k p a) (et : t ≡ row_of rows k q a) where
      pub row_equal : s ≡ t → Agree (row_of rows k p) (row_of rows k q) k (a + 1)
      row_equal e = next A l (sym es ∙ e ∙ et)

      pub row_differs : (s ≡ t → ⊥) → (r : Ordering) → Alone k s t r → k ≤ most_events → pairs rows p k ≡ pairs rows q k → Decided (bytes_of rows k p) (bytes_of rows k q) r
      row_differs d r o few e =
          let long : length (rows_pairs k 0 (order k rows p)) ≡ length (rows_pairs k 0 (order k rows q)) = order-long rows k p ∙ e ∙ sym (order-long rows k q) in
          let o' : Alone k (row_of rows k p a) (row_of rows k q a) r = rw (es, et) at o in
          decided_by r
          (λ z. absurd (d (es ∙ bit_ext k _ _ (mod-lt _ (pow_pos k)) (mod-lt _ (pow_pos k)) (o'.none z) ∙ sym et)))
          (λ z. first-lesser k a _ _ (omega arith) l long A (o'.first z))
          (λ z. first-lesser k a _ _ (omega arith) l (sym long) (agree_back A) (o'.second z))

  module _ (n m : ℕ) (en : n ≡ pairs rows p k) (em : m ≡ pairs rows q k) (r : Ordering) where
    pub counts-equal : n ≡ m → Decided (bytes_of rows k p) (bytes_of rows k q) r → Decided (order_bytes k (order k rows p)) (order_bytes k (order k rows q)) r
    unfolding order_bytes
    counts-equal e d = rw (order-long rows k p, order-long rows k q, ← en, ← em, e) (decided_behind (encode m) r d)

    pub counts_differ : (n ≡ m → ⊥) → n ≤ most_events * most_events → m ≤ most_events * most_events → Decided (encode n) (encode m) r
        → Decided (order_bytes k (order k rows p)) (order_bytes k (order k rows q)) r
    unfolding order_bytes
    counts_differ e h l d =
        rw (order-long rows k p, order-long rows k q, ← en, ← em)
        (decided_before (bytes_of rows k p) (bytes_of rows k q) r (λ z. e (encode_same n m (omega arith) (omega arith) (d.equal z))) d)
