-- One turn of moving the write orders, and of moving the threads' orders.
-- Assumes nothing.
use Prim.Native.Nat.{ℕ, ◌+◌, ◌-◌, ◌*◌, ◌%◌, ◌^◌, ◌≤◌, ◌<◌}
use native.Mathlib.Omega.{arith}
use mathlib.Core.Path.{◌≡◌, refl, sym, ap, ◌∙◌}
use mathlib.Core.List.{List, ◌++◌, append_assoc}
use lib.ListN.{length, get_or, take, drop, length-take, length-drop, take-append-drop}
use lib.Seq.{drop-append-le}
use Rattle.relabel.proofs.Fill.{part-table}
use borrow.Rule.Slice.PartMut.{put_mid}
use Rattle.finite.specs.Tests.{count}
use Rattle.finite.specs.Lists.{table}
use Rattle.finite.proofs.Lists.{table-length}
use Rattle.permutation.specs.Permutation.{image, inverse}
use Rattle.model.specs.Limits.{most_threads, most_addresses, most_events}
use Rattle.relabel.specs.Orders.{order}
use Rattle.case.specs.Stores.{store_at, writes_at}
use Rattle.case.proofs.WriteOrders.{few-stores}
use Rattle.relabel.proofs.Steps.{pulled_from}
use Rattle.relabel.proofs.Rows.{Tabling, table-next}

-- j numbers stored from a place on are w with what lies behind them
put-grown : (start j w : ℕ) (out row : List ℕ) → j ≤ w → start + w ≤ length out
    → put_mid start (start + j - start) out row ≡ put_mid start w out (row ++ drop j (take w (drop start out)))
put-grown start j w out row l h =
    let z : start + j - start ≡ j = omega arith in
    let long : j ≤ length (take w (drop start out)) = simp (length-take, length-drop) (omega arith) in
    let back : drop j (drop start out) ≡ drop j (take w (drop start out)) ++ drop w (drop start out) =
    ap (drop j) (sym (take-append-drop w (drop start out))) ∙ drop-append-le j (take w (drop start out)) (drop w (drop start out)) long in
    rw z
    (ap (λ (v : List ℕ). take start out ++ (row ++ v)) back
    ∙ ap (λ (v : List ℕ). take start out ++ v) (sym (append_assoc row (drop j (take w (drop start out))) (drop w (drop start out)))))

module _ (r m k : ℕ) (kinds xs writes : List ℕ) where
  pub write-small : k ≤ most_events → (y : ℕ) → length (writes_at kinds xs writes k (image (inverse r) y)) ≤ most_events
  unfolding writes_at
  write-small h y = rw table-length (few-stores k _ _ h refl)

  pub write-next : (back x y j w : ℕ) (out last : List ℕ) → Tabling (λ y. writes_at kinds xs writes k (image (inverse r) y)) m most_addresses out y
      → y < m → w ≡ most_events → x ≡ image back y → back ≡ inverse r → j ≡ count k (store_at kinds xs x)
      → last ≡ table 0 j (λ i. get_or writes (x * most_events + i) 0) ++ drop j (take w (drop (y * most_events) out))
      → Tabling (λ y. writes_at kinds xs writes k (image (inverse r) y)) m most_addresses (put_mid (y * most_events) w out last) (y + 1)
  unfolding writes_at
  write-next back x y j w out last t l ew ex eb ej h =
      table-next _ m most_addresses out y t w l ew last (table 0 j (λ i. get_or writes (x * most_events + i) 0)) j
      (ap (λ (n : ℕ). table 0 n (λ i. get_or writes (x * most_events + i) 0)) ej
      ∙ ap (writes_at kinds xs writes k) (pulled_from r back x y ex eb))
      (table-length 0 j _) h

  -- j entries of the write order of x, copied to the front of their part
  pub write-part : (back x y j : ℕ) (out row : List ℕ) → Tabling (λ y. writes_at kinds xs writes k (image (inverse r) y)) m most_addresses out y
      → y < m → k ≤ most_events → x ≡ image back y → back ≡ inverse r → j ≡ count k (store_at kinds xs x)
      → x * most_events + j ≤ length writes → row ≡ take (x * most_events + j - x * most_events) (drop (x * most_events) writes)
      → Tabling (λ y. writes_at kinds xs writes k (image (inverse r) y)) m most_addresses (put_mid (y * most_events) (y * most_events + j - y * most_events) out row) (y + 1)
  write-part back x y j out row t l few ex eb ej inside e =
      let z : x * most_events + j - x * most_events ≡ j = omega arith in
      rw (put-grown (y * most_events) j most_events out row (few-stores k _ _ few ej) (omega (arith, t.room, t.long)))
      (write-next back x y j most_events out (row ++ drop j (take most_events (drop (y * most_events) out))) t l refl ex eb ej
      (ap (λ (v : List ℕ). v ++ drop j (take most_events (drop (y * most_events) out)))
      (e ∙ ap (λ (n : ℕ). take n (drop (x * most_events) writes)) z ∙ part-table writes (x * most_events) j inside)))

module _ (q n k : ℕ) (rows : List ℕ) where
  pub order_small : k ≤ most_events → (p : ℕ) → length (order k rows (image (inverse q) p)) ≤ most_events
  order_small h p = rw table-length h

  pub order-next : (back x p w : ℕ) (out last : List ℕ) → Tabling (λ p. order k rows (image (inverse q) p)) n most_threads out p
      → p < n → w ≡ most_events → x ≡ image back p → back ≡ inverse q
      → last ≡ table 0 k (λ a. get_or rows (x * most_events + a) 0 % 2 ^ k) ++ drop k (take w (drop (p * most_events) out))
      → Tabling (λ p. order k rows (image (inverse q) p)) n most_threads (put_mid (p * most_events) w out last) (p + 1)
  order-next back x p w out last t l ew ex eb h =
      table-next _ n most_threads out p t w l ew last (order k rows x) k (ap (order k rows) (pulled_from q back x p ex eb)) (table-length 0 k _) h
