-- Events by their entries, and a thread's list by its first entries.
-- Assumes nothing.
use Prim.Native.Nat.{ℕ, zero, suc, ◌+◌, ◌-◌, ◌*◌, ◌≤◌, ◌<◌}
use native.Mathlib.Nat.{add-zero}
use native.Mathlib.Omega.{arith}
use native.Mathlib.Decide.{dec_lt}
use borrow.Author.Tests.{ne_eqb, lt-leb, eq-eqb, le-leb}
use mathlib.Core.Path.{◌≡◌, refl, sym, ap, ◌∙◌, subst}
use mathlib.Core.Bool.{true, false, cond, ◌&&◌}
use mathlib.Core.List.{List, [], ◌∷◌, ◌++◌}
use lib.Dec.{leb}
use lib.ListN.{length, get_or}
use Rattle.finite.specs.Tests.{some}
use Rattle.finite.specs.Lists.{table}
use Rattle.finite.proofs.Tests.{and_i, or_l, or_r, is_false, some_make, some-none}
use Rattle.finite.proofs.Lists.{table_more}
use Rattle.storage_model.specs.Limits.{most_writes, most_barriers, most_listed}
use Rattle.storage_model.specs.Subsystem.{Event, barrier, same, member, precedes}
use Rattle.storage_laws.proofs.Lists.{same_refl, precedes-append}
use Rattle.storage.specs.Held.{event_of, list_at}
use Rattle.storage.proofs.Events.{write_of, barrier_at}
use Rattle.propagated.specs.Lists.{ListOf, Once, later_of}

-- ---- events by their entries

-- which entries name barriers
pub named-barrier : (x : ℕ) → x < most_listed → some most_barriers (λ z. same (barrier z) (event_of x)) ≡ leb most_writes x
unfolding same
named-barrier x h = by (dec_lt x most_writes)
  where
    by : Dec (x < most_writes) → some most_barriers (λ z. same (barrier z) (event_of x)) ≡ leb most_writes x
    by (yes l) =
        some-none most_barriers (λ z. same (barrier z) (event_of x)) (λ z lz. ap (same (barrier z)) (write_of x l))
        ∙ sym (lt-leb most_writes x l)
    by (no d) =
        some_make most_barriers (λ z. same (barrier z) (event_of x)) (x - most_writes) (omega arith)
        (ap (same (barrier (x - most_writes))) (barrier_at x (omega arith)) ∙ same_refl (barrier (x - most_writes)))
        ∙ sym (le-leb most_writes x (omega arith))

-- what an address holds behind an entry: a write to it, a write to another, a barrier
pub later_write : (addresses values : List ℕ) (a v : ℕ) {e : ℕ} → e < most_writes → get_or addresses e 0 ≡ a
    → get_or values e 0 ≡ later_of addresses values a v (event_of e)
unfolding later_of
later_write as' vs a v {e} l h =
    sym (ap (later_of as' vs a v) (write_of e l) ∙ ap (λ b. cond b (get_or vs e 0) v) (eq-eqb (get_or as' e 0) a h))

pub later_other : (addresses values : List ℕ) (a v : ℕ) {e : ℕ} → e < most_writes → (get_or addresses e 0 ≡ a → ⊥)
    → v ≡ later_of addresses values a v (event_of e)
unfolding later_of
later_other as' vs a v {e} l h =
    sym (ap (later_of as' vs a v) (write_of e l) ∙ ap (λ b. cond b (get_or vs e 0) v) (ne_eqb (get_or as' e 0) a h))

pub later_barrier : (addresses values : List ℕ) (a v : ℕ) {e : ℕ} → most_writes ≤ e → v ≡ later_of addresses values a v (event_of e)
unfolding later_of
later_barrier as' vs a v {e} l = sym (ap (later_of as' vs a v) (barrier_at e l))

-- ---- thread t's list by its entries

-- the entry at place i
abbrev pub entry_at : (events : List ℕ) (t i : ℕ) → ℕ
entry_at es t i = get_or es (t * most_listed + i) 0

-- a place of the list is one of those counted, what is read there is the entry, and behind the list all are counted
module _ {counts es part : List ℕ} {t i : ℕ} (L : ListOf counts es t part) where
  pub inside : i < length part → i < get_or counts t 0
  inside l = rw (L.size) at l

  pub read_at : {e : ℕ} → i < length part → e ≡ get_or part i 0 → e ≡ entry_at es t i
  read_at l h = h ∙ L.place i l

  pub behind : length part ≤ i → get_or counts t 0 ≤ i
  behind l = rw (L.size) at l

-- the events of the first i entries
unfoldable pub firsts : (events : List ℕ) (t i : ℕ) → List Event
firsts es t i = table 0 i (λ j. event_of (entry_at es t j))

pub firsts-none : (es : List ℕ) (t : ℕ) → firsts es t 0 ≡ []
unfolding firsts table
firsts-none es t = refl

pub firsts_more : (es : List ℕ) (t i : ℕ) → firsts es t (i + 1) ≡ firsts es t i ++ (event_of (entry_at es t i) ∷ [])
unfolding firsts
firsts_more es t i = table_more i (λ j. event_of (entry_at es t j))

pub firsts-all : (counts es : List ℕ) (t : ℕ) → firsts es t (get_or counts t 0) ≡ list_at counts es t
unfolding firsts list_at
firsts-all counts es t = refl

-- what stands before an event in so many entries does so in more
firsts_keep : (es : List ℕ) (t : ℕ) (e f : Event) (i k : ℕ) → precedes e f (firsts es t i) ≡ true → precedes e f (firsts es t (i + k)) ≡ true
firsts_keep es t e f i zero h = rw add-zero h
firsts_keep es t e f i (suc k) h =
    subst (λ (m : ℕ). precedes e f (firsts es t m) ≡ true) (omega arith)
    (ap (precedes e f) (firsts_more es t (i + k)) ∙ precedes-append e f (firsts es t (i + k)) (event_of (entry_at es t (i + k)))
    ∙ or_l _ _ (firsts_keep es t e f i k h))

-- the next entry's event is new
pub firsts_new : (counts es : List ℕ) (t i : ℕ) → Once (list_at counts es t) → i < get_or counts t 0
    → member (event_of (entry_at es t i)) (firsts es t i) ≡ false
firsts_new counts es t i once l = is_false (λ m. once.once x (
    ap (precedes x x) (sym (firsts-all counts es t))
    ∙ subst (λ (n : ℕ). precedes x x (firsts es t n) ≡ true) (omega arith)
    (firsts_keep es t x x (i + 1) (get_or counts t 0 - (i + 1))
    (ap (precedes x x) (firsts_more es t i) ∙ precedes-append x x (firsts es t i) x
    ∙ or_r (precedes x x (firsts es t i)) (member x (firsts es t i) && same x x) (and_i (member x (firsts es t i)) (same x x) m (same_refl x))))))
  where
    x : Event
    x = event_of (entry_at es t i)
