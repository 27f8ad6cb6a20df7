-- What holds at each turn of a loop over thread t's list, of which i entries have been looked at. Each has three laws: of no entries, of
-- one more, and of all.
-- Assumes nothing.
use Prim.Native.Nat.{ℕ, ◌+◌, ◌*◌, ◌^◌, ◌≤◌, ◌<◌}
use native.Mathlib.Nat.{le_antisymm}
use native.Mathlib.Omega.{arith}
use mathlib.Core.Path.{◌≡◌, refl, sym, ap, ap₂, ◌∙◌, subst}
use mathlib.Core.Bool.{Bool, false, ◌&&◌, ◌||◌}
use mathlib.Core.List.{List, [], ◌∷◌, ◌++◌}
use lib.Bits.{bit_or}
use lib.Dec.{eqb, leb}
use lib.ListN.{get_or}
use Rattle.finite.specs.Tests.{some}
use Rattle.finite.proofs.Tests.{some-none, and_comm}
use Rattle.bits.specs.Bit.{bit}
use Rattle.bits.proofs.Bits.{bit-zero}
use Rattle.rows.specs.Sets.{Set}
use Rattle.rows.proofs.SetLaws.{set_same, set_with, either, so_set}
use Rattle.storage_model.specs.Limits.{most_writes, most_barriers, most_listed}
use Rattle.storage_model.specs.Subsystem.{Event, barrier, same, member, precedes}
use Rattle.storage_laws.proofs.Lists.{member-append, precedes-append}
use Rattle.storage.specs.Held.{event_of, list_at}
use Rattle.storage.proofs.Events.{same_entry, is_entry}
use Rattle.propagated.specs.Lists.{Lists, Once, separated_in, later_of, latest_in}
use Rattle.propagated.proofs.Appended.{fenced_in, separated-append, fenced_append, latest-append}
use Rattle.propagated.proofs.Entries.{entry_at, named-barrier, firsts, firsts-none, firsts_more, firsts-all, firsts_new}

-- a set by what a list says of events
module _ (g : List Event → Event → Bool) where
  none_yet : (es : List ℕ) (t : ℕ) → ((e : Event) → g [] e ≡ false) → Set 0 (λ e. g (firsts es t 0) (event_of e))
  none_yet es t h = record { has = λ e. bit-zero e ∙ sym (ap (λ l. g l (event_of e)) (firsts-none es t) ∙ h (event_of e)) }

  one_more : (es : List ℕ) (t i : ℕ) {r : ℕ} {f : ℕ → Bool} → Set r f
      → ((e : ℕ) → g (firsts es t i ++ (event_of (entry_at es t i) ∷ [])) (event_of e) ≡ f e)
      → Set r (λ e. g (firsts es t (i + 1)) (event_of e))
  one_more es t i s h = set_same s (λ e. sym (ap (λ l. g l (event_of e)) (firsts_more es t i) ∙ h e))

  all_seen : (counts es : List ℕ) (t i : ℕ) {r : ℕ} → Set r (λ e. g (firsts es t i) (event_of e)) → i ≤ get_or counts t 0 → get_or counts t 0 ≤ i
      → Set r (λ e. g (list_at counts es t) (event_of e))
  all_seen counts es t i s h k = set_same s (λ e. ap (λ l. g l (event_of e)) (ap (firsts es t) (le_antisymm h k) ∙ firsts-all counts es t))

-- ---- the events of the list
pub record Seen (counts es : List ℕ) (t seen i : ℕ) : Type 0 where
  pub within : i ≤ get_or counts t 0
  pub stand : Set seen (λ e. member (event_of e) (firsts es t i))

module _ {counts es : List ℕ} {t : ℕ} where
  pub seen_none : Seen counts es t 0 0
  unfolding member
  seen_none = record { within = omega arith; stand = none_yet (λ l e. member e l) es t (λ e. refl) }

  pub seen_next : {seen i e s : ℕ} → Seen counts es t seen i → i < get_or counts t 0 → e ≡ entry_at es t i → s ≡ bit_or seen (2 ^ e)
      → Seen counts es t s (i + 1)
  seen_next {seen} {i} {e} h l he hs = record {
    within = omega arith;
    stand = one_more (λ l e. member e l) es t i (set_with e hs h.stand)
        (λ a. member-append (event_of a) (firsts es t i) (event_of (entry_at es t i))
        ∙ ap (λ b. member (event_of a) (firsts es t i) || b) (same_entry a (entry_at es t i) ∙ ap (eqb a) (sym he)));
  }

  -- the next entry names an event
  pub entry_in : {seen i e : ℕ} → Seen counts es t seen i → Lists counts es → e ≡ entry_at es t i → e < most_listed
  entry_in {seen} {i} s h he = subst (λ (x : ℕ). x < most_listed) (sym he) (h.entries (t * most_listed + i))

  pub seen_all : {seen i : ℕ} → Seen counts es t seen i → get_or counts t 0 ≤ i → Set seen (λ e. member (event_of e) (list_at counts es t))
  seen_all {seen} {i} h l = all_seen (λ l e. member e l) counts es t i h.stand h.within l

-- ---- the events before x
pub record Preceding (counts es : List ℕ) (t x seen out i : ℕ) : Type 0 where
  pub present : Seen counts es t seen i
  pub ahead : Set out (λ e. precedes (event_of e) (event_of x) (firsts es t i))

module _ {counts es : List ℕ} {t x : ℕ} where
  pub preceding_none : Preceding counts es t x 0 0 0
  unfolding precedes
  preceding_none = record { present = seen_none; ahead = none_yet (λ l e. precedes e (event_of x) l) es t (λ e. refl) }

  pub preceding_next : {seen out i e w s : ℕ} → Preceding counts es t x seen out i → i < get_or counts t 0 → e ≡ entry_at es t i
      → Set w (λ a. eqb e x && bit seen a) → s ≡ bit_or seen (2 ^ e) → Preceding counts es t x s (bit_or out w) (i + 1)
  preceding_next {seen} {out} {i} {e} h l he hw hs = record {
    present = seen_next h.present l he hs;
    ahead = one_more (λ l a. precedes a (event_of x) l) es t i (either h.ahead (so_set {t = eqb e x} hw refl h.present.stand))
        (λ a. precedes-append (event_of a) (event_of x) (firsts es t i) (event_of (entry_at es t i))
        ∙ ap (λ b. precedes (event_of a) (event_of x) (firsts es t i) || b)
        (and_comm (member (event_of a) (firsts es t i)) (same (event_of x) (event_of (entry_at es t i)))
        ∙ ap (λ b. b && member (event_of a) (firsts es t i)) (is_entry x he)));
  }

  pub preceding_all : {seen out i : ℕ} → Preceding counts es t x seen out i → get_or counts t 0 ≤ i
      → Set out (λ e. precedes (event_of e) (event_of x) (list_at counts es t))
  preceding_all {seen} {out} {i} h l = all_seen (λ l e. precedes e (event_of x) l) counts es t i h.ahead h.present.within l

-- ---- the events that a barrier separates from x
pub record Separated (counts es : List ℕ) (t x seen behind out i : ℕ) : Type 0 where
  pub present : Seen counts es t seen i
  pub fenced : Set behind (λ e. fenced_in (firsts es t i) (event_of e))
  pub apart : Set out (λ e. separated_in (firsts es t i) (event_of e) (event_of x))

module _ {counts es : List ℕ} {t x : ℕ} where
  pub separated-none : Separated counts es t x 0 0 0 0
  unfolding precedes separated_in
  separated-none = record {
    present = seen_none;
    fenced = none_yet fenced_in es t (λ e. some-none most_barriers (λ z. false) (λ z l. refl));
    apart = none_yet (λ l e. separated_in l e (event_of x)) es t (λ e. some-none most_barriers (λ z. false) (λ z l. refl));
  }

  pub separated-next : {seen behind out i e w v s : ℕ} → Separated counts es t x seen behind out i → Once (list_at counts es t) → i < get_or counts t 0
      → e ≡ entry_at es t i → e < most_listed → Set w (λ a. eqb e x && bit behind a) → Set v (λ a. leb most_writes e && bit seen a)
      → s ≡ bit_or seen (2 ^ e) → Separated counts es t x s (bit_or behind v) (bit_or out w) (i + 1)
  separated-next {seen} {behind} {out} {i} {e} h once l he few hw hv hs = record {
    present = seen_next h.present l he hs;
    fenced = one_more fenced_in es t i (either h.fenced (so_set {t = leb most_writes e} hv refl h.present.stand))
        (λ a. fenced_append (firsts es t i) (event_of a) (event_of (entry_at es t i))
        ∙ ap (λ b. fenced_in (firsts es t i) (event_of a) || b)
        (and_comm (member (event_of a) (firsts es t i)) (some most_barriers (λ z. same (barrier z) (event_of (entry_at es t i))))
        ∙ ap (λ b. b && member (event_of a) (firsts es t i))
        (ap (λ (y : ℕ). some most_barriers (λ z. same (barrier z) (event_of y))) (sym he) ∙ named-barrier e few)));
    apart = one_more (λ l e. separated_in l e (event_of x)) es t i (either h.apart (so_set {t = eqb e x} hw refl h.fenced))
        (λ a. separated-append (firsts es t i) (event_of a) (event_of x) (event_of (entry_at es t i)) (firsts_new counts es t i once l)
        ∙ ap (λ b. separated_in (firsts es t i) (event_of a) (event_of x) || (b && fenced_in (firsts es t i) (event_of a))) (is_entry x he));
  }

  pub separated-all : {seen behind out i : ℕ} → Separated counts es t x seen behind out i → get_or counts t 0 ≤ i
      → Set out (λ e. separated_in (list_at counts es t) (event_of e) (event_of x))
  separated-all {seen} {behind} {out} {i} h l = all_seen (λ l e. separated_in l e (event_of x)) counts es t i h.apart h.present.within l

-- ---- the most recent write to an address
pub record Latest (counts es addresses values : List ℕ) (t a v found i : ℕ) : Type 0 where
  pub within : i ≤ get_or counts t 0
  pub recent : found ≡ latest_in addresses values a v (firsts es t i)

module _ {counts es addresses values : List ℕ} {t a v : ℕ} where
  pub latest-none : Latest counts es addresses values t a v v 0
  unfolding latest_in
  latest-none = record { within = omega arith; recent = sym (ap (latest_in addresses values a v) (firsts-none es t)) }

  pub latest-next : {found i e r : ℕ} → Latest counts es addresses values t a v found i → i < get_or counts t 0 → e ≡ entry_at es t i
      → r ≡ later_of addresses values a found (event_of e) → Latest counts es addresses values t a v r (i + 1)
  latest-next {found} {i} h l he hr = record {
    within = omega arith;
    recent =
        hr ∙ ap₂ (λ (f x : ℕ). later_of addresses values a f (event_of x)) h.recent he
        ∙ sym (ap (latest_in addresses values a v) (firsts_more es t i) ∙ latest-append addresses values a v (firsts es t i) (event_of (entry_at es t i)));
  }

  pub latest-all : {found i : ℕ} → Latest counts es addresses values t a v found i → get_or counts t 0 ≤ i
      → found ≡ latest_in addresses values a v (list_at counts es t)
  latest-all {found} {i} h l = h.recent ∙ ap (latest_in addresses values a v) (ap (firsts es t) (le_antisymm h.within l) ∙ firsts-all counts es t)
