-- The sets that the functions of one row or one write give.
-- Assumes nothing.
use Prim.Native.Nat.{ℕ, ◌^◌, ◌≤◌}
use mathlib.Core.Path.{◌≡◌, refl, ap, ◌∙◌}
use mathlib.Core.Bool.{Bool, ◌&&◌, ◌||◌}
use mathlib.Core.List.{List}
use lib.Dec.{eqb, ltb}
use lib.Bits.{bit_or}
use lib.ListN.{get_or}
use Rattle.finite.proofs.Tests.{and_comm, or_comm, eqb_sym, some_same}
use Rattle.bits.specs.Bit.{bit}
use Rattle.rows.specs.Sets.{Set}
use Rattle.rows.proofs.Loops.{United, united}
use Rattle.rows.proofs.SetLaws.{set_same, some_only, so_set, set_with, as_set, either}
use Rattle.storage.specs.Held.{edge_in}

-- write w, where the test t passes
pub one_where : (t : Bool) (w : ℕ) {x r : ℕ} → Set x (λ e. eqb e w) → Set r (λ e. t && bit x e) → Set r (λ e. eqb e w && t)
one_where t w one s = set_same (so_set {t = t} s refl one) (λ e. and_comm t (eqb e w))

-- of k writes those that pass p, united one by one
pub ones : {k i acc : ℕ} (p : ℕ → Bool) → United k (λ w e. eqb e w && p w) i acc → k ≤ i → Set acc (λ w. ltb w k && p w)
ones {k} p h g =
    set_same (united h g)
    (λ e. some_same k (λ w. eqb e w && p w) (λ w. p w && eqb e w) (λ w l. and_comm (eqb e w) (p w)) ∙ some_only k p e)

-- write i and a set
pub more : (i x : ℕ) {y : ℕ} → y ≡ bit_or x (2 ^ i) → Set y (λ e. eqb e i || bit x e)
more i x h = set_same (set_with i h (as_set refl)) (λ e. or_comm (bit x e) (eqb e i))

-- write w and those before it, where w is in the set p
pub up_to_where : (p w : ℕ) (before : List ℕ) {t : Bool} {x r : ℕ} → t ≡ bit p w → x ≡ bit_or (get_or before w 0) (2 ^ w) → Set r (λ e. t && bit x e)
    → Set r (λ v. bit p w && (eqb v w || edge_in before v w))
unfolding edge_in
up_to_where p w before h e s = so_set s h (more w (get_or before w 0) e)

-- a row, and the set x where the test u passes
pub row_where : (row x : ℕ) (u : Bool) {t : Bool} {r : ℕ} → t ≡ u → Set r (λ e. t && bit x e) → Set (bit_or row r) (λ e. bit row e || (bit x e && u))
row_where row x u h s =
    set_same (either (as_set {x = row} refl) (so_set s h (as_set refl))) (λ e. ap (λ z. bit row e || z) (and_comm u (bit x e)))

-- b's row, and the set added where b is y or behind it
pub committed_where : (row added b y : ℕ) {up : ℕ} {t : Bool} {r : ℕ} → up ≡ bit_or row (2 ^ b) → t ≡ bit up y → Set r (λ e. t && bit added e)
    → Set (bit_or row r) (λ a. bit row a || (bit added a && (eqb b y || bit row y)))
committed_where row added b y h e s =
    row_where row added (eqb b y || bit row y) (e ∙ (more b row h).has y ∙ ap (λ z. z || bit row y) (eqb_sym y b)) s
