-- The struct that holds a state means that state, and is good.
-- Assumes nothing.
use Prim.Native.Nat.{ℕ, ◌+◌, ◌*◌, ◌<◌}
use native.Mathlib.Omega.{arith}
use mathlib.Core.Path.{◌≡◌, refl, sym, ap, ◌∙◌, subst}
use mathlib.Core.Bool.{true, false}
use mathlib.Core.List.{List, [], map}
use lib.Dec.{eqb}
use lib.ListN.{length, get_or, length-map, get_or-map}
use Rattle.finite.specs.Tests.{tick}
use Rattle.finite.proofs.Tests.{tick-one}
use Rattle.model.specs.Limits.{most_threads, most_addresses}
use Rattle.storage_model.specs.Limits.{most_writes, most_barriers, most_listed}
use Rattle.storage_model.specs.Subsystem.{State, Event, write, no_write, no_barrier, member, events, coherent, writes_seen, barriers_seen}
use Rattle.storage_model.specs.Sound.{Sound, Within}
use Rattle.storage_laws.proofs.Lists.{member_at}
use Rattle.storage_laws.proofs.Relations.{relation-same}
use Rattle.case.specs.Held.{pad}
use Rattle.case.proofs.Pad.{pad_get}
use Rattle.case.proofs.HeldBack.{back, in_fields, in_rows}
use Rattle.storage.specs.Held.{event_of, entry_of, list_at, edge_in, relation_in, state_of, held, Good}
use Rattle.storage.proofs.Events.{event_back}
use Rattle.storage.proofs.Means.{lists-few}
use Rattle.storage.proofs.Stores.{entries_at, entries-length, entries-short, rows-edge}

module _ (s : State) (S : Sound s) (W : Within s) where
  initials_back : (state_of (held s)).initials ≡ s.initials
  unfolding state_of held
  initials_back = back s.initials 0 (length s.initials) _ refl (λ a h. pad_get most_addresses s.initials a h)

  writes_back : (state_of (held s)).writes ≡ s.writes
  unfolding state_of held
  writes_back =
      back s.writes no_write (writes_seen s) _ refl
      (λ w h. λ i. record {
        thread = in_fields most_writes (λ x. x.thread) no_write s.writes w h i;
        address = in_fields most_writes (λ x. x.address) no_write s.writes w h i;
        value = in_fields most_writes (λ x. x.value) no_write s.writes w h i;
      })

  barriers_back : (state_of (held s)).barriers ≡ s.barriers
  unfolding state_of held
  barriers_back =
      back s.barriers no_barrier (barriers_seen s) _ refl
      (λ b h. λ i. record {
        thread = in_fields most_barriers (λ x. x.thread) no_barrier s.barriers b h i;
        class = in_fields most_barriers (λ x. x.class) no_barrier s.barriers b h i;
      })

  marks_back : (state_of (held s)).unacknowledged ≡ s.unacknowledged
  unfolding state_of held
  marks_back =
      back s.unacknowledged false (barriers_seen s) _ S.syncs.as_many
      (λ b h. ap (λ (x : ℕ). eqb x 1) (in_fields most_barriers tick false s.unacknowledged b (rw S.syncs.as_many h)) ∙ tick-one (get_or s.unacknowledged b false))

  edge_back : (a b : ℕ) → a < writes_seen s → b < writes_seen s → edge_in (held s).before a b ≡ coherent s a b
  unfolding held coherent
  edge_back a b la lb = rows-edge (writes_seen s) s.coherence a b la lb

  coherence_back : (state_of (held s)).coherence ≡ s.coherence
  unfolding state_of relation_in held
  coherence_back = relation-same (writes_seen s) (edge_in (held s).before) (coherent s) edge_back ∙ sym W.coherence

  event-at : (t j : ℕ) → t < length s.propagated → j < length (events s t) → event_of (get_or (held s).events (t * most_listed + j) 0) ≡ get_or (events s t) j (write 0)
  unfolding held pad entry_of events
  event-at t j h l =
      ap event_of (stored ∙ ap (λ (r : List ℕ). get_or r j 0) (entries_at s.propagated t) ∙ get_or-map entry_of (events s t) j (write 0))
      ∙ event_back (get_or (events s t) j (write 0)) (λ w z. let m = (S.lists t).writes w (known w z) in omega (arith, m, W.few_writes))
    where
      stored : get_or (held s).events (t * most_listed + j) 0 ≡ get_or (get_or (map (map entry_of) s.propagated) t []) j 0
      stored =
          in_rows most_listed (map (map entry_of) s.propagated) _ t j (rw (length-map s.propagated (map entry_of)) h)
          (entries-short s.propagated (λ y m. lists-few s S W y)) (rw (entries-length s.propagated t) l)

      known : (w : ℕ) → get_or (events s t) j (write 0) ≡ write w → member (write w) (events s t) ≡ true
      known w z = subst (λ (e : Event). member e (events s t) ≡ true) z (member_at (events s t) j (write 0) l)

  lists_back : (state_of (held s)).propagated ≡ s.propagated
  unfolding state_of held list_at events
  lists_back =
      back s.propagated [] s.threads (list_at (held s).listed (held s).events) W.lists
      (λ t h.
      let m : t < length s.propagated = omega (arith, h, W.lists) in
      let size : get_or (held s).listed t 0 ≡ length (get_or s.propagated t []) = in_fields most_threads length [] s.propagated t m in
      back (get_or s.propagated t []) (write 0) _ _ (sym size) (λ j l. event-at t j m (omega (arith, l, size))))

  -- the struct that holds a state means it
  pub state_back : state_of (held s) ≡ s
  unfolding state_of held
  state_back = λ i. record {
    threads = s.threads;
    initials = initials_back i;
    writes = writes_back i;
    coherence = coherence_back i;
    barriers = barriers_back i;
    propagated = lists_back i;
    unacknowledged = marks_back i;
  }

  -- and is good
  pub good_held : Good (held s)
  good_held = record {
    same = ap held (sym state_back);
    sound = subst Sound (sym state_back) S;
    within = subst Within (sym state_back) W;
  }
