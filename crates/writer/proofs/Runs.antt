-- Laws of `run` and `sum`, and the bytes of some stages.
-- Assumes nothing.
use Prim.Native.Nat.{ℕ, zero, suc, ◌+◌, ◌-◌, ◌*◌, ◌^◌, ◌≤◌, ◌<◌}
use native.Mathlib.Nat.{add-mul, one-mul, le_trans, lt_of_le_of_lt, le_antisymm, mul-le-mul_right, mul-le-mul_left}
use native.Mathlib.Omega.{arith}
use native.Mathlib.Numerals.{add-one}
use mathlib.Core.Path.{◌≡◌, refl, sym, ap, ap₂, ◌∙◌}
use mathlib.Core.Bool.{Bool, true, false, cond}
use mathlib.Core.List.{List, [], ◌∷◌, ◌++◌, append-nil, append_assoc}
use lib.ListN.{length, take, drop, get_or, length-take, length-drop}
use lib.Seq.{length-take-le, get_or-take, get_or-drop}
use Rattle.std.proofs.lemmas.List.{take_more}
use mir.Syntax.{w64}
use mir.Val.{Fits}
use Rattle.number.specs.Number.{encode}
use Rattle.model.specs.Case.{bare}
use Rattle.model.specs.Written.{event_bytes, dependency_bytes}
use Rattle.case.specs.Held.{event_of, link}
use Rattle.case.proofs.Events.{event_by}
use Rattle.case.specs.Stores.{store_at}
use Rattle.finite.specs.Tests.{count}
use Rattle.writer.specs.Stages.{run, sum, entry_at, writes_of, row_at, pairs, order_at, byte_at, name_bytes}

-- ---- runs
pub run_more : (h : ℕ → List ℕ) (i : ℕ) → run h (i + 1) ≡ run h i ++ h i
unfolding run
run_more h i = rw (add-one i)

-- ---- sums
pub sum_more : (f : ℕ → ℕ) (i : ℕ) → sum f (i + 1) ≡ sum f i + f i
unfolding sum
sum_more f i = rw (add-one i)

pub record Summed (f : ℕ → ℕ) (n total i : ℕ) : Type 0 where
  pub within : i ≤ n
  pub total_is : total ≡ sum f i
  pub few : total ≤ i * n

module _ (f : ℕ → ℕ) (n : ℕ) where
  pub none_summed : Summed f n 0 0
  unfolding sum
  none_summed = record { within = omega arith; total_is = refl; few = omega arith }

  module _ (total i : ℕ) (s : Summed f n total i) where
    pub one_summed : i < n → (x : ℕ) → x ≡ f i → f i ≤ n → Summed f n (total + x) (i + 1)
    one_summed l x e b = record {
      within = omega arith;
      total_is = ap₂ (λ (a b : ℕ). a + b) s.total_is e ∙ sym (sum_more f i);
      few = let z : (i + 1) * n ≡ i * n + n = add-mul i 1 n ∙ ap (λ (x : ℕ). i * n + x) (one-mul n) in omega (arith, s.few);
    }

    pub all_summed : (room : ℕ) → n ≤ room → n ≤ i → (total ≡ sum f n) × (total ≤ room * room)
    all_summed room r l = (
      s.total_is ∙ ap (sum f) (le_antisymm s.within l),
      le_trans s.few (le_trans (mul-le-mul_right n (le_trans s.within r)) (mul-le-mul_left room r)),
    )

module _ (f : ℕ → ℕ) (n total i : ℕ) (s : Summed f n total i) (l : i < n) (x : ℕ) (e : x ≡ f i) (b : f i ≤ n) where
  pub sum_fits : (room : ℕ) → n ≤ room → room * room < 2 ^ 64 → Fits w64 (total + x)
  sum_fits room r g =
      record { fits = lt_of_le_of_lt (le_trans (one_summed f n total i s l x e b).few (le_trans (mul-le-mul_right n (le_trans (omega arith) r)) (mul-le-mul_left room r))) g }

-- ---- the first n numbers of a list, and n from a place on, by index
module _ (xs : List ℕ) (n i : ℕ) where
  pub front_within : n ≤ length xs → i < length (take n xs) → i < n
  front_within h l = rw (length-take-le n xs h) at l

  pub front_past : n ≤ length xs → length (take n xs) ≤ i → n ≤ i
  front_past h l = rw (length-take-le n xs h) at l

  pub front_read : i < n → get_or xs i 0 ≡ get_or (take n xs) i 0
  front_read l = sym (get_or-take n xs i 0 l)

module _ (xs : List ℕ) (from n i : ℕ) where
  as-many : from + n - from ≡ n
  as-many = omega arith

  left-over : from + n ≤ length xs → n ≤ length (drop from xs)
  left-over h = simp length-drop (omega arith)

  pub part_within : from + n ≤ length xs → i < length (take (from + n - from) (drop from xs)) → i < n
  part_within h l = front_within (drop from xs) n i (left-over h) (rw as-many at l)

  pub part_past : from + n ≤ length xs → length (take (from + n - from) (drop from xs)) ≤ i → n ≤ i
  part_past h l = front_past (drop from xs) n i (left-over h) (rw as-many at l)

  pub part_read : i < n → get_or xs (from + i) 0 ≡ get_or (take (from + n - from) (drop from xs)) i 0
  part_read l = rw as-many (sym (get_or-drop from xs i 0) ∙ front_read (drop from xs) n i l)

-- ---- the bytes of an event, whose kind, thread and address are written as wk, wt and wa
module _ {k t wk wt : ℕ} (a v : ℕ) (ek : wk ≡ k) (et : wt ≡ t) where
  pub event_front : event_bytes (event_of k t a v) ≡ (encode wk ++ encode wt) ++ cond (bare k) [] (encode a ++ encode v)
  unfolding event_bytes
  event_front =
      rw (ek, et)
      (event_by (λ e. event_bytes e ≡ (encode k ++ encode t) ++ cond (bare k) [] (encode a ++ encode v)) k t a v
      (λ h. rw h (sym (append_assoc (encode k) (encode t) []))) (λ h. rw h (sym (append_assoc (encode k) (encode t) (encode a ++ encode v)))))

  pub event_bare : bare k ≡ true → event_bytes (event_of k t a v) ≡ encode wk ++ encode wt
  event_bare y = event_front ∙ rw y (append-nil (encode wk ++ encode wt))

  pub event_full : (wa : ℕ) → wa ≡ a → bare k ≡ false → event_bytes (event_of k t a v) ≡ (encode wk ++ encode wt) ++ (encode wa ++ encode v)
  event_full wa ea y = event_front ∙ rw (ea, y)

-- ---- the bytes of a dependency, whose class and events are written as wx, wa and wb
pub link_bytes : {x a b wx wa wb : ℕ} → wx ≡ x → wa ≡ a → wb ≡ b → dependency_bytes (link x a b) ≡ encode wx ++ (encode wa ++ encode wb)
unfolding dependency_bytes
link_bytes ex ea eb = rw (ex, ea, eb)

-- ---- the bytes of a write order, of n entries
pub stores-run : (kinds addresses writes : List ℕ) (k x n : ℕ) → n ≡ count k (store_at kinds addresses x)
    → writes_of kinds addresses writes k x ≡ run (entry_at writes x) n
unfolding writes_of
stores-run kinds addresses writes k x n e = rw e

-- ---- the bytes of an order of n pairs
pub order_parts : (rows : List ℕ) (k p n : ℕ) → n ≡ pairs rows p k → order_at rows k p ≡ encode n ++ run (row_at rows p k) k
unfolding order_at
order_parts rows k p n e = rw e

-- ---- the bytes of a name
run_bytes : (name : List ℕ) (i : ℕ) → i ≤ length name → run (byte_at name) i ≡ take i name
unfolding run byte_at
run_bytes name zero l = refl
run_bytes name (suc i) l =
    ap (λ (x : List ℕ). x ++ (get_or name i 0 ∷ [])) (run_bytes name i (omega arith)) ∙ sym (take_more name i 0 l) ∙ ap (λ (n : ℕ). take n name) (add-one i)

pub name_parts : (name : List ℕ) (i : ℕ) → i ≤ length name → name_bytes name i ≡ encode i ++ take i name
unfolding name_bytes
name_parts name i l = ap (λ (w : List ℕ). encode i ++ w) (run_bytes name i l)

pub take_few : (name : List ℕ) (i n : ℕ) → i ≤ n → length (take i name) ≤ n
take_few name i n l = simp length-take (omega arith)

-- ---- bytes w that stand only where t is true
module _ {t : Bool} (w : List ℕ) where
  pub stands : t ≡ true → cond t w [] ≡ w
  stands y = rw y

  pub lacks : t ≡ false → cond t w [] ≡ []
  lacks y = rw y
