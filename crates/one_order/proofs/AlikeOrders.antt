-- Where all threads have one order: rule 11 of the first decides, and rules 17 and 18 follow from it.
-- Assumes nothing.
use Prim.Native.Nat.{ℕ, ◌+◌, ◌≤◌, ◌<◌}
use native.Mathlib.Nat.{le_antisymm}
use native.Mathlib.Omega.{arith}
use mathlib.Core.Path.{◌≡◌, refl, sym, ap, ap₂, ◌∙◌}
use mathlib.Core.Bool.{Bool, true, not, ◌&&◌}
use mathlib.Core.List.{List}
use lib.Bits.{bit_or, bit_xor, and_le_l, and_le_r, or_add_and, xor_add_and, or_zero_l, xor_self}
use lib.Dec.{eqb}
use borrow.Author.Tests.{eqb-true, eq-eqb}
use Rattle.finite.specs.Tests.{all, ◌⇒◌}
use Rattle.finite.proofs.Tests.{iff, and_i, and_l, and_r, imp_e, imp_i, all_none, all-next, all_get, all_make, all_same}
use Rattle.bits.specs.Bit.{bit}
use Rattle.rows.specs.Sets.{row_in, order_in}
use Rattle.rows.specs.May.{may11, may17, may18}
use Rattle.orders.specs.Parts.{closed}
use Rattle.one_order.specs.Alike.{as_first, alike_in}

-- ---- the loop over a thread's rows: what was found is nothing where the first i are the first thread's
pub differ_none : (found x y : ℕ) → eqb (bit_or found (bit_xor x y)) 0 ≡ (eqb found 0 && eqb x y)
differ_none found x y =
    iff
    (λ h.
    let z : bit_or found (bit_xor x y) ≡ 0 = eqb-true (bit_or found (bit_xor x y)) 0 h in
    let or = or_add_and found (bit_xor x y) in
    let few = and_le_r found (bit_xor x y) in
    let none : found ≡ 0 = omega (arith, z, or, few) in
    let same : bit_xor x y ≡ 0 = omega (arith, z, or, and_le_l found (bit_xor x y)) in
    and_i (eqb found 0) (eqb x y) (eq-eqb found 0 none)
    (eq-eqb x y (omega (arith, same, xor_add_and x y, and_le_l x y, and_le_r x y))))
    (λ h.
    let none : found ≡ 0 = eqb-true found 0 (and_l (eqb found 0) (eqb x y) h) in
    let same : x ≡ y = eqb-true x y (and_r (eqb found 0) (eqb x y) h) in
    eq-eqb (bit_or found (bit_xor x y)) 0 (ap₂ (λ (f z : ℕ). bit_or f (bit_xor z y)) none same ∙ or_zero_l (bit_xor y y) ∙ xor_self y))

pub record Compared (k : ℕ) (rows : List ℕ) (p i found : ℕ) : Type 0 where
  pub within : i ≤ k
  pub none : eqb found 0 ≡ as_first i rows p

pub compare_none : (k : ℕ) (rows : List ℕ) (p : ℕ) → Compared k rows p 0 0
compare_none k rows p = record { within = omega arith; none = eq-eqb 0 0 refl ∙ sym (all_none (λ a. eqb (row_in rows p a) (row_in rows 0 a))) }

pub compare_next : {k : ℕ} {rows : List ℕ} {p i found : ℕ} → Compared k rows p i found → i < k → {x y next : ℕ} → x ≡ row_in rows p i → y ≡ row_in rows 0 i
    → eqb next 0 ≡ (eqb found 0 && eqb x y) → Compared k rows p (i + 1) next
compare_next {rows = rows} {p} {i} h l ex ey e = record {
  within = omega arith;
  none = e ∙ ap₂ ◌&&◌ h.none (ap₂ eqb ex ey) ∙ sym (all-next i (λ a. eqb (row_in rows p a) (row_in rows 0 a)));
}

pub compare_all : {k : ℕ} {rows : List ℕ} {p i found : ℕ} → Compared k rows p i found → k ≤ i → eqb found 0 ≡ as_first k rows p
compare_all {rows = rows} {p} h g = h.none ∙ ap (λ (m : ℕ). as_first m rows p) (le_antisymm h.within g)

-- ---- the first thread's rows are its own
pub first_alike : (k : ℕ) (rows : List ℕ) → as_first k rows 0 ≡ true
first_alike k rows = all_make k (λ a. eqb (row_in rows 0 a) (row_in rows 0 a)) (λ a l. eq-eqb (row_in rows 0 a) (row_in rows 0 a) refl)

-- ---- all threads have the first one's order
module _ (n k : ℕ) (rows : List ℕ) (alike : alike_in n k rows ≡ true) where
  one-order : (p a d : ℕ) → p < n → a < k → order_in rows p a d ≡ order_in rows 0 a d
  one-order p a d lp la =
      ap (λ (x : ℕ). bit x d)
      (eqb-true (row_in rows p a) (row_in rows 0 a) (all_get k (λ a. eqb (row_in rows p a) (row_in rows 0 a)) (all_get n (as_first k rows) alike p lp) a la))

  one-closed : (p a : ℕ) → p < n → a < k → closed k (order_in rows p) (order_in rows p) a ≡ closed k (order_in rows 0) (order_in rows 0) a
  one-closed p a lp la =
      ap₂ (λ x y. not x && y) (one-order p a a lp la)
      (all_same k _ _ (λ b lb.
      ap₂ (λ x y. x ⇒ y) (one-order p a b lp la)
      (all_same k _ _ (λ d ld. ap₂ (λ x y. x ⇒ y) (one-order p b d lp lb) (one-order p a d lp la)))))

  -- rule 11 of the first thread's order is rule 11
  pub alike_11 : 1 ≤ n → may11 1 k (order_in rows) (order_in rows) ≡ may11 n k (order_in rows) (order_in rows)
  unfolding may11
  alike_11 l =
      let whole : ℕ → Bool = λ p. all k (closed k (order_in rows p) (order_in rows p)) in
      let same : (p : ℕ) → p < n → whole p ≡ whole 0 = λ p lp. all_same k _ _ (λ a la. one-closed p a lp la) in
      iff
      (λ h. all_make n whole (λ p lp. same p lp ∙ all_get 1 whole h 0 (omega arith)))
      (λ h. all_make 1 whole (λ p lp. all_get n whole h p (omega arith)))

  -- what follows in one thread's order follows in each
  in_each : (p q a d : ℕ) → p < n → q < n → a < k → order_in rows p a d ≡ true → order_in rows q a d ≡ true
  in_each p q a d lp lq la h = one-order q a d lq la ∙ sym (one-order p a d lp la) ∙ h

transitive : (n k : ℕ) (rows : List ℕ) → may11 n k (order_in rows) (order_in rows) ≡ true
    → (p a b d : ℕ) → p < n → a < k → b < k → d < k → order_in rows p a b ≡ true → order_in rows p b d ≡ true → order_in rows p a d ≡ true
unfolding may11
transitive n k rows rule11 p a b d lp la lb ld ab bd =
    let before = order_in rows p in
    let row = all_get k (closed k before before) (all_get n (λ p. all k (closed k (order_in rows p) (order_in rows p))) rule11 p lp) a la in
    imp_e (before b d) (before a d)
    (all_get k (λ d. before b d ⇒ before a d)
    (imp_e (before a b) (all k (λ d. before b d ⇒ before a d))
    (all_get k (λ b. before a b ⇒ all k (λ d. before b d ⇒ before a d)) (and_r (not (before a a)) _ row) b lb) ab) d ld) bd

-- rule 17: e, the barrier f and g follow each other in p's order, so g follows e there and in each
pub alike_17 : (n k : ℕ) (rows : List ℕ) (of : ℕ → ℕ → Bool) (barrier : ℕ → Bool) (applicable : ℕ → ℕ → ℕ → Bool)
    → alike_in n k rows ≡ true → may11 n k (order_in rows) (order_in rows) ≡ true → may17 n k of barrier applicable (order_in rows) (order_in rows) ≡ true
unfolding may17
alike_17 n k rows of barrier applicable alike rule11 =
    all_make n _ (λ p lp. all_make k _ (λ f lf. imp_i (barrier f && of p f) _ (λ _.
    all_make k _ (λ e le. imp_i (order_in rows p e f) _ (λ ef.
    all_make k _ (λ g lg. imp_i (of p g && order_in rows p f g && applicable f e g) _ (λ h.
    let fg = and_r (of p g) (order_in rows p f g) (and_l (of p g && order_in rows p f g) (applicable f e g) h) in
    all_make n _ (λ q lq. in_each n k rows alike p q e g lp lq le (transitive n k rows rule11 p e f g lp le lf lg ef fg)))))))))

-- rule 18: so do e, the barrier f, the store s, the load l that must read from it and g
pub alike_18 : (n k : ℕ) (rows : List ℕ) (of : ℕ → ℕ → Bool) (barrier : ℕ → Bool) (applicable : ℕ → ℕ → ℕ → Bool)
    (is_store : ℕ → Bool) (read : ℕ → ℕ → Bool) (thread : ℕ → ℕ)
    → alike_in n k rows ≡ true → may11 n k (order_in rows) (order_in rows) ≡ true → ((l : ℕ) → l < k → thread l < n)
    → ((l s : ℕ) → l < k → s < k → read l s ≡ true → order_in rows (thread l) s l ≡ true)
    → may18 n k of barrier applicable is_store read thread (order_in rows) (order_in rows) ≡ true
unfolding may18
alike_18 n k rows of barrier applicable is_store read thread alike rule11 inside reads =
    all_make n _ (λ p lp. all_make k _ (λ f lf. imp_i (barrier f && of p f) _ (λ _.
    all_make k _ (λ s ls. imp_i (is_store s && of p s && order_in rows p f s) _ (λ hs.
    all_make k _ (λ l ll. imp_i (read l s) _ (λ sl.
    all_make k _ (λ g lg. imp_i (order_in rows (thread l) l g) _ (λ t.
    all_make k _ (λ e le. imp_i (order_in rows p e f && applicable f e g) _ (λ he.
    let lt = inside l ll in
    let fs = and_r (is_store s && of p s) (order_in rows p f s) hs in
    let es = transitive n k rows rule11 p e f s lp le lf ls (and_l (order_in rows p e f) (applicable f e g) he) fs in
    let el = transitive n k rows rule11 (thread l) e s l lt le ls ll (in_each n k rows alike p (thread l) e s lp lt le es) (reads l s ll ls sl) in
    all_make n _ (λ q lq. in_each n k rows alike (thread l) q e g lt lq le (transitive n k rows rule11 (thread l) e l g lt le ll lg el t)))))))))))))
