-- Coherence with a write that is accepted: the row of the writes before it, and that nothing else changes.
-- Assumes nothing.
use Prim.Native.Nat.{ℕ, ◌≤◌, ◌<◌}
use native.Mathlib.Omega.{arith}
use native.Mathlib.Decide.{dec_lt}
use mathlib.Core.Path.{◌≡◌, refl, sym, ap, ap₂, ◌∙◌}
use mathlib.Core.Bool.{Bool, false, ◌&&◌, ◌||◌}
use lib.Dec.{eqb, ltb}
use lib.Bits.{bit_and}
use lib.ListN.{get_or}
use borrow.Author.Tests.{eq-eqb, ne_eqb, lt-ltb, le-ltb}
use Rattle.finite.specs.Tests.{some}
use Rattle.finite.proofs.Tests.{is_false, and-false, or_false, some-none, some_same}
use Rattle.bits.specs.Bit.{bit}
use Rattle.bits.proofs.Bits.{bit-and}
use Rattle.storage_model.specs.Relation.{related}
use Rattle.storage_model.specs.Subsystem.{State, write, arrived, address, coherent, writes_seen, followed}
use Rattle.storage_model.specs.Sound.{Sound}
use Rattle.storage_laws.proofs.Coherence.{followed_at}
use Rattle.rows.specs.Sets.{Set}
use Rattle.storage.specs.Held.{state_of, edge_in, Good}
use Rattle.storage.specs.declared.Storage.{Storage as Held}
use Rattle.storage.proofs.Means.{writes-of, address-of, coherent_of}
use Rattle.transitions.specs.Steps.{Here, NewRow}
use Rattle.transitions.proofs.Conditions.{here_write}

-- ---- a write by thread t to address a

-- write y is to the address and has been propagated to the thread
abbrev there : State → (t a y : ℕ) → Bool
there s t a y = arrived s (write y) t && eqb (address s y) a

-- write v is up to such a write y
abbrev up_to : State → (t a v y : ℕ) → Bool
up_to s t a v y = there s t a y && (eqb v y || coherent s v y)

module _ (s : State) (S : Sound s) (t a : ℕ) where
  -- a write that was not seen is before none
  unseen : (v y : ℕ) → writes_seen s ≤ v → coherent s v y ≡ false
  unseen v y l = is_false (λ h. let m = (S.ordered.seen v y h).0 in omega (arith, m))

  up_to_none : (v : ℕ) → writes_seen s ≤ v → some (writes_seen s) (up_to s t a v) ≡ false
  up_to_none v l =
      some-none (writes_seen s) (up_to s t a v) (λ y ly.
      ap₂ (λ (p q : Bool). there s t a y && (p || q)) (ne_eqb v y (λ e. omega (arith, e))) (unseen v y l) ∙ and-false (there s t a y))

  -- the new write is before none
  pub followed-last : (y : ℕ) → related (followed s t a) (writes_seen s) y ≡ false
  followed-last y =
      followed_at s S t a (writes_seen s) y
      ∙ ap₂ (λ (p q : Bool). p || (eqb y (writes_seen s) && q)) (unseen (writes_seen s) y (omega arith)) (up_to_none (writes_seen s) (omega arith))
      ∙ and-false (eqb y (writes_seen s))

  -- the others are ordered as they were
  pub followed-kept : (x y : ℕ) → y < writes_seen s → related (followed s t a) x y ≡ coherent s x y
  followed-kept x y l =
      followed_at s S t a x y
      ∙ ap (λ (p : Bool). coherent s x y || (p && some (writes_seen s) (up_to s t a x))) (ne_eqb y (writes_seen s) (λ e. omega (arith, e)))
      ∙ or_false (coherent s x y)

  -- the writes before the new one
  before_new : (v : ℕ) → (ltb v (writes_seen s) && related (followed s t a) v (writes_seen s)) ≡ some (writes_seen s) (up_to s t a v)
  before_new v = ap (λ (p : Bool). ltb v (writes_seen s) && p) led ∙ by (dec_lt v (writes_seen s))
    where
      not_yet : coherent s v (writes_seen s) ≡ false
      not_yet = is_false (λ h. let m = (S.ordered.seen v (writes_seen s) h).1 in omega (arith, m))

      led : related (followed s t a) v (writes_seen s) ≡ some (writes_seen s) (up_to s t a v)
      led =
          followed_at s S t a v (writes_seen s)
          ∙ ap₂ (λ (p q : Bool). p || (q && some (writes_seen s) (up_to s t a v))) not_yet (eq-eqb (writes_seen s) (writes_seen s) refl)

      by : Dec (v < writes_seen s) → (ltb v (writes_seen s) && some (writes_seen s) (up_to s t a v)) ≡ some (writes_seen s) (up_to s t a v)
      by (yes l) = ap (λ (p : Bool). p && some (writes_seen s) (up_to s t a v)) (lt-ltb v (writes_seen s) l)
      by (no d) = ap (λ (p : Bool). p && some (writes_seen s) (up_to s t a v)) (le-ltb v (writes_seen s) (omega arith)) ∙ sym (up_to_none v (omega arith))

-- ---- by the struct's arrays

-- the row that is gathered from the writes to the address in the thread's list
pub new_row : (c : Held) → Good c → (t a : ℕ) {here to both row : ℕ} → Here c t here
    → Set to (λ w. ltb w c.writes && eqb (get_or c.address w 0) a) → both ≡ bit_and here to
    → Set row (λ v. some c.writes (λ w. bit both w && (eqb v w || edge_in c.before v w))) → NewRow c t a row
new_row c G t a {here} {to} {both} {row} H T e R =
    record { set = record { has = λ v. R.has v ∙ some_same c.writes _ (up_to (state_of c) t a v) (at v) ∙ gathered v } }
  where
    of_both : (w : ℕ) → w < c.writes → bit both w ≡ there (state_of c) t a w
    of_both w l =
        ap (λ (r : ℕ). bit r w) e
        ∙ bit-and here to w
        ∙ ap₂ ◌&&◌ (here_write c G w H l) (T.has w ∙ ap₂ (λ (p : Bool) (x : ℕ). p && eqb x a) (lt-ltb w c.writes l) (sym (address-of c w l)))

    at : (v w : ℕ) → w < c.writes → (bit both w && (eqb v w || edge_in c.before v w)) ≡ up_to (state_of c) t a v w
    at v w l = ap₂ (λ (p q : Bool). p && (eqb v w || q)) (of_both w l) (sym (coherent_of c G v w))

    gathered : (v : ℕ) → some c.writes (up_to (state_of c) t a v) ≡ (ltb v c.writes && related (followed (state_of c) t a) v c.writes)
    gathered v = rw (writes-of c) at (sym (before_new (state_of c) G.sound t a v))
