-- The conditions of propagating and of a read response, by the struct's arrays.
-- Assumes nothing.
use Prim.Native.Nat.{ℕ, ◌+◌, ◌-◌, ◌^◌, ◌<◌}
use native.Mathlib.Omega.{arith}
use native.Mathlib.Decide.{dec_lt}
use mathlib.Core.Path.{◌≡◌, refl, sym, ap, ap₂, ◌∙◌, subst}
use mathlib.Core.Bool.{Bool, true, false, not, cond, ◌&&◌, ◌||◌}
use mathlib.Core.List.{List, [], ◌∷◌}
use lib.Dec.{eqb, ltb}
use lib.Bits.{bit_and}
use lib.ListN.{get_or}
use borrow.Author.Tests.{lt-ltb, le-ltb, eq-eqb, ne_eqb}
use Rattle.finite.specs.Tests.{all, some, ◌⇒◌}
use Rattle.finite.proofs.Tests.{iff, and-true, and-false, and_comm, or_l, or_r, imp_e, imp_i, imp_no, all_get, all_make, all_same, some_same}
use Rattle.bits.specs.Bit.{bit, width}
use Rattle.bits.proofs.Bits.{bit-and, bit_ones}
use Rattle.storage_model.specs.Limits.{most_writes}
use Rattle.storage_model.specs.Trace.{propagate_write, propagate_barrier, respond}
use Rattle.storage_model.specs.Subsystem.{State, Event, write, barrier, same, member, precedes, writer, address, owner, events, arrived, coherent, group_a, latest, barriers_seen, write_is_new, write_is_after, barriers_went_before, barrier_is_new, group_a_went_before, responds_latest, failing, effect}
use Rattle.storage_laws.proofs.Listed.{precedes_members}
use Rattle.rows.specs.Sets.{Set}
use Rattle.storage.specs.Held.{event_of, list_at, edge_in, state_of, Good}
use Rattle.storage.specs.declared.Storage.{Storage as Held}
use Rattle.storage.proofs.Events.{write_of, barrier_of}
use Rattle.storage.proofs.Means.{writes-of, initial_of, writer_of, address-of, value_of, owner_of, events-of, coherent_of, writer-within, owner-within, listed-few, events_low, list_once}
use Rattle.transitions.proofs.Ranges.{write_low}
use Rattle.propagated.specs.Lists.{Lists, Once, latest_in, later_of}
use Rattle.transitions.specs.Steps.{Here, Took}
use Rattle.std.specs.Prelude.{Ok, Err}
use Rattle.transitions.specs.declared.Condition.TheVariants.{First}
use Rattle.transitions.proofs.Taken.{taken, not_taken}

module _ (c : Held) (G : Good c) where
  -- the lists of a good struct
  pub lists : Lists c.listed c.events
  lists = record { short = listed-few c G; entries = events_low c G }

  pub once : (t : ℕ) → t < c.threads → Once (list_at c.listed c.events t)
  once t l = record { once = list_once c G t l }

  -- what has arrived at thread t
  pub here : (t r : ℕ) → t < c.threads → Set r (λ e. member (event_of e) (list_at c.listed c.events t)) → Here c t r
  unfolding arrived
  here t r l S = record { set = record { has = λ e. S.has e ∙ ap (member (event_of e)) (sym (events-of c t l)) } }

  -- ---- one write, one barrier

  pub here_write : {t r : ℕ} (w : ℕ) → Here c t r → w < c.writes → bit r w ≡ arrived (state_of c) (write w) t
  here_write {t} {r} w H l =
      H.set.has w ∙ ap (λ (e : Event). arrived (state_of c) e t) (write_of w (write_low G l))

  pub here_barrier : {t r : ℕ} (b : ℕ) → Here c t r → bit r (b + most_writes) ≡ arrived (state_of c) (barrier b) t
  here_barrier {t} {r} b H = H.set.has (b + most_writes) ∙ ap (λ (e : Event). arrived (state_of c) e t) (barrier_of b)

  -- ---- propagating a write

  -- condition 2
  pub after : (w t : ℕ) {h to : ℕ} → w < c.writes → Here c t h → Set to (λ v. ltb v c.writes && eqb (get_or c.address v 0) (get_or c.address w 0))
      → all c.writes (λ j. bit (bit_and h to) j ⇒ bit (get_or c.before w 0) j) ≡ write_is_after (state_of c) w t
  unfolding write_is_after
  after w t {h} {to} lw H T =
      all_same c.writes _ _ (λ v lv. ap₂ ◌⇒◌ (both v lv) (earlier v))
      ∙ ap (λ (n : ℕ). all n (λ v. (arrived (state_of c) (write v) t && eqb (address (state_of c) v) (address (state_of c) w)) ⇒ coherent (state_of c) v w)) (sym (writes-of c))
    where
      earlier : (v : ℕ) → bit (get_or c.before w 0) v ≡ coherent (state_of c) v w
      earlier v = unfold edge_in in sym (coherent_of c G v w)

      both : (v : ℕ) → v < c.writes → bit (bit_and h to) v ≡ (arrived (state_of c) (write v) t && eqb (address (state_of c) v) (address (state_of c) w))
      both v lv =
          bit-and h to v
          ∙ ap₂ ◌&&◌ (here_write v H lv) (T.has v ∙ rw (lt-ltb v c.writes lv, address-of c v lv, address-of c w lw))

  -- condition 3: of what stands before the write in its thread's list only the barriers count
  pub barriers_went : (w t : ℕ) {own h p low m : ℕ} → w < c.writes → Here c t h → own ≡ get_or c.writer w 0
      → Set p (λ e. precedes (event_of e) (event_of w) (list_at c.listed c.events own)) → low ≡ 2 ^ most_writes - 1
      → Set m (λ e. bit p e && not (bit low e))
      → all width (λ j. bit m j ⇒ bit h j) ≡ barriers_went_before (state_of c) w t
  unfolding barriers_went_before
  barriers_went w t {own} {h} {p} {low} {m} lw H e P L M = iff into back
    where
      s : State
      s = state_of c

      l : List Event
      l = events s (writer s w)

      before : (x : ℕ) → bit p x ≡ precedes (event_of x) (write w) l
      before x =
          let lo : own < c.threads = rw e (writer-within c G w lw) in
          P.has x ∙ ap₂ (λ (f : Event) (z : List Event). precedes (event_of x) f z) (write_of w (write_low G lw))
          (sym (ap (events s) (writer_of c w lw ∙ sym e) ∙ events-of c own lo))

      of_barrier : (b : ℕ) → bit m (b + most_writes) ≡ precedes (barrier b) (write w) l
      of_barrier b =
          let high : ltb (b + most_writes) most_writes ≡ false = le-ltb (b + most_writes) most_writes (omega arith) in
          M.has (b + most_writes) ∙ rw (L, bit_ones most_writes (b + most_writes), high, before (b + most_writes), barrier_of b) (and-true (precedes (barrier b) (write w) l))

      few : (b : ℕ) → b < barriers_seen s → b + most_writes < width
      few b lb = let n = G.within.few_barriers in omega (arith, n)

      into : all width (λ j. bit m j ⇒ bit h j) ≡ true → all (barriers_seen s) (λ b. precedes (barrier b) (write w) l ⇒ arrived s (barrier b) t) ≡ true
      into g =
          all_make (barriers_seen s) _ (λ b lb. ap₂ ◌⇒◌ (sym (of_barrier b)) (sym (here_barrier b H)) ∙ all_get width (λ j. bit m j ⇒ bit h j) g (b + most_writes) (few b lb))

      back : all (barriers_seen s) (λ b. precedes (barrier b) (write w) l ⇒ arrived s (barrier b) t) ≡ true → all width (λ j. bit m j ⇒ bit h j) ≡ true
      back g = all_make width _ (λ j lj. by j (dec_lt j most_writes))
        where
          by : (j : ℕ) → Dec (j < most_writes) → (bit m j ⇒ bit h j) ≡ true
          by j (yes q) =
              let none : bit m j ≡ false = M.has j ∙ rw (L, bit_ones most_writes j, lt-ltb j most_writes q) (and-false (bit p j)) in
              imp_no (bit m j) (bit h j) none
          by j (no q) =
              let b : ℕ = j - most_writes in
              let e : b + most_writes ≡ j = omega arith in
              let at : (bit m (b + most_writes) ⇒ bit h (b + most_writes)) ≡ true =
              ap₂ ◌⇒◌ (of_barrier b) (here_barrier b H)
              ∙ imp_i (precedes (barrier b) (write w) l) (arrived s (barrier b) t)
              (λ g₁. imp_e (precedes (barrier b) (write w) l) (arrived s (barrier b) t)
              (all_get (barriers_seen s) (λ b. precedes (barrier b) (write w) l ⇒ arrived s (barrier b) t) g b ((G.sound.lists (writer s w)).barriers b (precedes_members (barrier b) (write w) l g₁).0)) g₁) in
              subst (λ (x : ℕ). (bit m x ⇒ bit h x) ≡ true) e at

  -- ---- propagating a barrier

  -- condition 2
  pub group_a_went : (b t : ℕ) {own h p u : ℕ} → b < c.barriers → Here c t h → own ≡ get_or c.owner b 0
      → Set p (λ e. precedes (event_of e) (event_of (b + most_writes)) (list_at c.listed c.events own))
      → Set u (λ v. some c.writes (λ w. bit h w && (eqb v w || edge_in c.before v w)))
      → all c.writes (λ j. bit p j ⇒ bit u j) ≡ group_a_went_before (state_of c) b t
  unfolding group_a_went_before group_a
  group_a_went b t {own} {h} {p} {u} lb H e P U =
      all_same c.writes _ _ (λ v lv. ap₂ ◌⇒◌ (in_group v lv) (went v))
      ∙ ap (λ (n : ℕ). all n (λ v. precedes (write v) (barrier b) l ⇒ some n (λ w. (eqb v w || coherent s v w) && arrived s (write w) t))) (sym (writes-of c))
    where
      s : State
      s = state_of c

      l : List Event
      l = events s (owner s b)

      in_group : (v : ℕ) → v < c.writes → bit p v ≡ precedes (write v) (barrier b) l
      in_group v lv =
          let lo : own < c.threads = rw e (owner-within c G b lb) in
          P.has v ∙ ap₂ (λ (x y : Event). precedes x y (list_at c.listed c.events own)) (write_of v (write_low G lv)) (barrier_of b)
          ∙ ap (precedes (write v) (barrier b)) (sym (ap (events s) (owner_of c b lb ∙ sym e) ∙ events-of c own lo))

      went : (v : ℕ) → bit u v ≡ some c.writes (λ w. (eqb v w || coherent s v w) && arrived s (write w) t)
      went v =
          U.has v ∙ some_same c.writes _ _ (λ w lw.
          ap₂ ◌&&◌ (here_write w H lw) (ap (λ (x : Bool). eqb v w || x) (sym (coherent_of c G v w)))
          ∙ and_comm (arrived s (write w) t) (eqb v w || coherent s v w))

  -- ---- a read response

  latest_is : (a v : ℕ) (l : List Event) → ((w : ℕ) → member (write w) l ≡ true → w < c.writes) → latest_in c.address c.value a v l ≡ latest (state_of c) a v l
  unfolding latest_in latest later_of member same
  latest_is a v [] seen = refl
  latest_is a v (write w ∷ l) seen =
      let lw : w < c.writes = seen w (or_l (eqb w w) (member (write w) l) (eq-eqb w w refl)) in
      rw (address-of c w lw, value_of c w lw)
      (latest_is a (cond (eqb (get_or c.address w 0) a) (get_or c.value w 0) v) l (λ x h. seen x (or_r (eqb x w) (member (write x) l) h)))
  latest_is a v (barrier b ∷ l) seen = latest_is a v l (λ x h. seen x h)

  pub responds : (t a v : ℕ) {r : ℕ} → t < c.threads → a < c.addresses
      → r ≡ latest_in c.address c.value a (get_or c.initial a 0) (list_at c.listed c.events t) → eqb v r ≡ responds_latest (state_of c) t a v
  unfolding responds_latest
  responds t a v {r} lt la e =
      ap (eqb v)
      (e ∙ ap (latest_in c.address c.value a (get_or c.initial a 0)) (sym (events-of c t lt))
      ∙ latest_is a (get_or c.initial a 0) (events (state_of c) t) (λ w h. rw (writes-of c) at ((G.sound.lists t).writes w h))
      ∙ ap (λ (x : ℕ). latest (state_of c) a x (events (state_of c) t)) (sym (initial_of c a la)))

-- ---- what the functions return

pub is_after : {c : Held} {w t h to x : ℕ} {r : Bool} → Good c → w < c.writes → Here c t h
    → Set to (λ v. ltb v c.writes && eqb (get_or c.address v 0) (get_or c.address w 0)) → x ≡ bit_and h to
    → r ≡ all c.writes (λ j. bit x j ⇒ bit (get_or c.before w 0) j) → r ≡ write_is_after (state_of c) w t
is_after {c} {w} {t} {h} {to} G l H T e p =
    p ∙ ap (λ (z : ℕ). all c.writes (λ j. bit z j ⇒ bit (get_or c.before w 0) j)) e ∙ after c G w t l H T

pub all_went : {c : Held} {w t own h p low m : ℕ} {r : Bool} → Good c → w < c.writes → Here c t h → own ≡ get_or c.writer w 0
    → Set p (λ e. precedes (event_of e) (event_of w) (list_at c.listed c.events own)) → low ≡ 2 ^ most_writes - 1
    → Set m (λ e. bit p e && not (bit low e)) → r ≡ all width (λ j. bit m j ⇒ bit h j) → r ≡ barriers_went_before (state_of c) w t
all_went {c} {w} {t} G l H o P L M e = e ∙ barriers_went c G w t l H o P L M

pub group_went : {c : Held} {b t own x h p u : ℕ} {r : Bool} → Good c → b < c.barriers → Here c t h → own ≡ get_or c.owner b 0 → x ≡ b + most_writes
    → Set p (λ e. precedes (event_of e) (event_of x) (list_at c.listed c.events own))
    → Set u (λ v. some c.writes (λ w. bit h w && (eqb v w || edge_in c.before v w)))
    → r ≡ all c.writes (λ j. bit p j ⇒ bit u j) → r ≡ group_a_went_before (state_of c) b t
group_went {c} {b} {t} {own} {x} {p = p} G l H o i P U e =
    e ∙ group_a_went c G b t l H o (subst (λ (z : ℕ). Set p (λ e. precedes (event_of e) (event_of z) (list_at c.listed c.events own))) i P) U

-- ---- the first condition that fails

module _ {c : Held} {w t h : ℕ} (G : Good c) (l : w < c.writes) (H : Here c t h) {x : Bool} (p : x ≡ bit h w) where
  pub there_already : x ≡ true → 1 ≡ failing (state_of c) (propagate_write w t)
  unfolding failing write_is_new
  there_already e = rw (sym (here_write c G w H l), sym p, e)

  module _ {y : Bool} (q : x ≡ false) (a : y ≡ write_is_after (state_of c) w t) where
    pub not_after : y ≡ false → 2 ≡ failing (state_of c) (propagate_write w t)
    unfolding failing write_is_new
    not_after e = rw (sym (here_write c G w H l), sym p, q, sym a, e)

    module _ {z : Bool} (f : y ≡ true) (b : z ≡ barriers_went_before (state_of c) w t) where
      pub write_goes : z ≡ true → 0 ≡ failing (state_of c) (propagate_write w t)
      unfolding failing write_is_new
      write_goes e = rw (sym (here_write c G w H l), sym p, q, sym a, f, sym b, e)

      pub not_fenced : z ≡ false → 3 ≡ failing (state_of c) (propagate_write w t)
      unfolding failing write_is_new
      not_fenced e = rw (sym (here_write c G w H l), sym p, q, sym a, f, sym b, e)

module _ {c : Held} {t h e : ℕ} (G : Good c) (b : ℕ) (i : e ≡ b + most_writes) (H : Here c t h) {x : Bool} (p : x ≡ bit h e) where
  here_at : x ≡ arrived (state_of c) (barrier b) t
  here_at = p ∙ ap (bit h) i ∙ here_barrier c G b H

  pub barrier_there : x ≡ true → 1 ≡ failing (state_of c) (propagate_barrier b t)
  unfolding failing barrier_is_new
  barrier_there q = rw (sym here_at, q)

  module _ {y : Bool} (q : x ≡ false) (a : y ≡ group_a_went_before (state_of c) b t) where
    pub barrier_goes : y ≡ true → 0 ≡ failing (state_of c) (propagate_barrier b t)
    unfolding failing barrier_is_new
    barrier_goes f = rw (sym here_at, q, sym a, f)

    pub group_a-lacks : y ≡ false → 2 ≡ failing (state_of c) (propagate_barrier b t)
    unfolding failing barrier_is_new
    group_a-lacks f = rw (sym here_at, q, sym a, f)

module _ {c : Held} {t a v r : ℕ} (G : Good c) (l : t < c.threads) (m : a < c.addresses)
    (e : r ≡ latest_in c.address c.value a (get_or c.initial a 0) (list_at c.listed c.events t)) where
  pub answers_latest : v ≡ r → Took c (respond t a v) (Ok c)
  unfolding failing effect
  answers_latest q = taken c (respond t a v) (rw (sym (responds c G t a v l m e), eq-eqb v r q)) G.same

  pub answers_other : (v ≡ r → ⊥) → Took c (respond t a v) (Err First)
  unfolding failing effect
  answers_other q = not_taken c (respond t a v) First (rw (sym (responds c G t a v l m e), ne_eqb v r q))
