-- What holds after every step that was enabled (02 (ii)): coherence "is transitive and has no cycle, and each thread's list holds the
-- writes to an address in coherence order".
-- Assumes nothing.
use Prim.Native.Nat.{ℕ, zero, suc, ◌≤◌, ◌<◌}
use native.Mathlib.Nat.{le_refl}
use native.Mathlib.Omega.{arith}
use native.Mathlib.Decide.{dec_lt, ℕ_discrete}
use mathlib.Core.Path.{◌≡◌, refl, sym, ap, ◌∙◌, subst}
use mathlib.Core.Bool.{Bool, true, false, ◌&&◌, ◌||◌, false≢true}
use mathlib.Core.Logic.{◌⊎◌, inl, inr, ⊎_elim}
use mathlib.Core.List.{List, [], ◌∷◌, ◌++◌}
use lib.Dec.{eqb}
use lib.ListN.{length, get_or, set, replicate, length-set, get_or-append, get_or-eq_default}
use lib.Seq.{get_or-append_seam, get_or-set_same, get_or-set_other}
use borrow.Author.Tests.{eq-eqb, eqb-true, not-true}
use Rattle.finite.specs.Tests.{◌⇒◌}
use Rattle.finite.proofs.Tests.{and_l, and_r, and_i, or_l, or_r, or_e, imp_e, all_get, is_false}
use Rattle.finite.proofs.Lists.{one_longer}
use Rattle.storage_model.specs.Trace.{Step, accept_write, accept_barrier, propagate_write, propagate_barrier, commit, respond, acknowledge, sync}
use Rattle.storage_model.specs.Relation.{related, closure}
use Rattle.storage_model.specs.Subsystem.{State, Write, Barrier, Event, write, barrier, member, precedes, no_write, no_barrier, address, class, events, arrived, coherent, separated, writes_seen, barriers_seen, write_is_new, write_is_after, barriers_went_before, barrier_is_new, group_a_went_before, committed, to_one_address, unrelated, acyclic_with, unacknowledged_sync, enabled, appended, followed, effect, initial}
use Rattle.storage_model.specs.Fits.{StepFits}
use Rattle.storage_model.specs.Sound.{Ordered, Listed, Syncs, Sound}
use Rattle.storage_laws.proofs.Relations.{closure-within, closure-holds, closure-transitive, closure-least, acyclic_is}
use Rattle.storage_laws.proofs.Listed.{Grows, listed_more, listed-write, listed-barrier, lists-append}

-- ---- the writes seen, with one more

module _ (s s' : State) (x : Write) (p : s'.writes ≡ s.writes ++ (x ∷ [])) where
  seen_more : writes_seen s' ≡ suc (writes_seen s)
  seen_more = ap length p ∙ one_longer s.writes x

  old_address : (w : ℕ) → w < writes_seen s → address s' w ≡ address s w
  unfolding address
  old_address w l =
      ap (λ (ws : List Write). (get_or ws w no_write).address) p ∙ ap (λ (y : Write). y.address) (get_or-append s.writes (x ∷ []) no_write w l)

  new_address : address s' (writes_seen s) ≡ x.address
  unfolding address
  new_address =
      ap (λ (ws : List Write). (get_or ws (writes_seen s) no_write).address) p ∙ ap (λ (y : Write). y.address) (get_or-append_seam s.writes x [] no_write)

-- ---- what a step leaves

-- t has the writes of s, related as in s
ordered_stays : (s t : State) → t.writes ≡ s.writes → t.coherence ≡ s.coherence → Ordered s → Ordered t
unfolding coherent address
ordered_stays s t w c O = record {
  transitive = λ x y z. rw c (O.transitive x y z);
  irreflexive = λ x. rw c (O.irreflexive x);
  one_address = λ x y. rw (c, w) (O.one_address x y);
  seen = λ x y. rw (c, w) (O.seen x y);
}

grows_stays : (s t : State) → t.writes ≡ s.writes → t.coherence ≡ s.coherence → barriers_seen s ≤ barriers_seen t → Grows s t
unfolding coherent address
grows_stays s t w c l = record {
  coherence = λ x y h. rw c h;
  addresses = λ x _. rw w;
  writes = rw w (le_refl _);
  barriers = l;
}

-- t has the barriers of s, and the same of them are to be acknowledged
syncs_stays : (s t : State) → t.barriers ≡ s.barriers → t.unacknowledged ≡ s.unacknowledged → Syncs s → Syncs t
unfolding unacknowledged_sync class
syncs_stays s t b u Y = record { as_many = rw (b, u) Y.as_many; syncs = λ x. rw (b, u) (Y.syncs x) }

-- ---- each step

module _ (s : State) (S : Sound s) where
  -- accept a write
  module _ (t a v : ℕ) where
    s₁ : State
    s₁ = effect s (accept_write t a v)

    abbrev x : Write
    x = record { thread = t; address = a; value = v }

    abbrev edges : ℕ → ℕ → Bool
    edges y z = coherent s y z || (eqb z (writes_seen s) && (arrived s (write y) t && eqb (address s y) a))

    writes₁ : s₁.writes ≡ s.writes ++ (x ∷ [])
    unfolding s₁ effect
    writes₁ = refl

    co₁ : (y z : ℕ) → coherent s₁ y z ≡ related (closure (suc (writes_seen s)) edges) y z
    unfolding s₁ coherent effect followed
    co₁ y z = refl

    seen₁ : writes_seen s₁ ≡ suc (writes_seen s)
    seen₁ = seen_more s s₁ x writes₁

    -- an edge is an old one, or leads to the new write
    edge_is : (y z : ℕ) → edges y z ≡ true
        → (coherent s y z ≡ true) ⊎ ((z ≡ writes_seen s) × (arrived s (write y) t ≡ true) × (address s y ≡ a))
    edge_is y z h =
        or_e (coherent s y z) (eqb z (writes_seen s) && (arrived s (write y) t && eqb (address s y) a)) inl
        (λ u.
        let w = and_r (eqb z (writes_seen s)) (arrived s (write y) t && eqb (address s y) a) u in
        inr (
          eqb-true z (writes_seen s) (and_l (eqb z (writes_seen s)) (arrived s (write y) t && eqb (address s y) a) u),
          and_l (arrived s (write y) t) (eqb (address s y) a) w,
          eqb-true (address s y) a (and_r (arrived s (write y) t) (eqb (address s y) a) w),
        )) h

    arrived_low : (y : ℕ) → arrived s (write y) t ≡ true → y < writes_seen s
    unfolding arrived
    arrived_low y h = (S.lists t).writes y h

    -- an old edge, or one from a write seen before to the new one
    abbrev Old : ℕ → ℕ → Type 0
    Old y z = (coherent s y z ≡ true) ⊎ ((y < writes_seen s) × (z ≡ writes_seen s))

    old_edge : (y z : ℕ) → edges y z ≡ true → Old y z
    old_edge y z h = ⊎_elim inl (λ u. inr (arrived_low y u.1, u.0)) (edge_is y z h)

    old_trans : (y z w : ℕ) → Old y z → Old z w → Old y w
    old_trans y z w (inl h) (inl g) = inl (S.ordered.transitive y z w h g)
    old_trans y z w (inl h) (inr g) = inr ((S.ordered.seen y z h).0, g.1)
    old_trans y z w (inr h) (inl g) = absurd (let l = (S.ordered.seen z w g).0 in omega (arith, h.1))
    old_trans y z w (inr h) (inr g) = absurd (omega (arith, h.1, g.0))

    old_is : (y z : ℕ) → coherent s₁ y z ≡ true → Old y z
    old_is y z h = closure-least (suc (writes_seen s)) edges Old (λ y z _ _ g. old_edge y z g) old_trans y z (sym (co₁ y z) ∙ h)

    within₁ : (y z : ℕ) → coherent s₁ y z ≡ true → (y < writes_seen s₁) × (z < writes_seen s₁)
    within₁ y z h = let w = closure-within (suc (writes_seen s)) edges y z (sym (co₁ y z) ∙ h) in (rw seen₁ w.0, rw seen₁ w.1)

    address-edge : (y z : ℕ) → edges y z ≡ true → address s₁ y ≡ address s₁ z
    address-edge y z h = by (edge_is y z h)
      where
        by : (coherent s y z ≡ true) ⊎ ((z ≡ writes_seen s) × (arrived s (write y) t ≡ true) × (address s y ≡ a)) → address s₁ y ≡ address s₁ z
        by (inl g) =
            let l = S.ordered.seen y z g in
            old_address s s₁ x writes₁ y l.0 ∙ S.ordered.one_address y z g ∙ sym (old_address s s₁ x writes₁ z l.1)
        by (inr g) =
            old_address s s₁ x writes₁ y (arrived_low y g.1) ∙ g.2 ∙ sym (new_address s s₁ x writes₁) ∙ ap (address s₁) (sym g.0)

    grows₁ : Grows s s₁
    grows₁ = record {
      coherence = λ y z h.
          let l = S.ordered.seen y z h in
          co₁ y z ∙ closure-holds (suc (writes_seen s)) edges y z (omega (arith, l.0)) (omega (arith, l.1)) (or_l (coherent s y z) (eqb z (writes_seen s) && (arrived s (write y) t && eqb (address s y) a)) h);
      addresses = old_address s s₁ x writes₁;
      writes = omega (arith, seen₁);
      barriers = unfold s₁ effect in le_refl _;
    }

    after₁ : (y : ℕ) → member (write y) (events s t) ≡ true → address s₁ y ≡ address s₁ (writes_seen s) → coherent s₁ y (writes_seen s) ≡ true
    after₁ y m e =
        let l = (S.lists t).writes y m in
        let at : address s y ≡ a = sym (old_address s s₁ x writes₁ y l) ∙ e ∙ new_address s s₁ x writes₁ in
        let edge : edges y (writes_seen s) ≡ true =
        or_r (coherent s y (writes_seen s)) (eqb (writes_seen s) (writes_seen s) && (arrived s (write y) t && eqb (address s y) a))
        (and_i (eqb (writes_seen s) (writes_seen s)) (arrived s (write y) t && eqb (address s y) a) (eq-eqb (writes_seen s) (writes_seen s) refl)
        (and_i (arrived s (write y) t) (eqb (address s y) a) (unfold arrived in m) (eq-eqb (address s y) a at))) in
        co₁ y (writes_seen s) ∙ closure-holds (suc (writes_seen s)) edges y (writes_seen s) (omega (arith, l)) (le_refl _) edge

    new_write : member (write (writes_seen s)) (events s t) ≡ false
    new_write = is_false (λ h. let l = (S.lists t).writes (writes_seen s) h in omega (arith, l))

    sound_accept_write : Sound (effect s (accept_write t a v))
    sound_accept_write = unfold s₁ in record {
      ordered = record {
        transitive = λ y z w h g. co₁ y w ∙ closure-transitive (suc (writes_seen s)) edges y z w (sym (co₁ y z) ∙ h) (sym (co₁ z w) ∙ g);
        irreflexive = λ y h. ⊎_elim (S.ordered.irreflexive y) (λ g. omega (arith, g.0, g.1)) (old_is y y h);
        one_address = λ y z h.
            closure-least (suc (writes_seen s)) edges (λ y z. address s₁ y ≡ address s₁ z) (λ y z _ _ g. address-edge y z g) (λ y z w p q. p ∙ q) y z (sym (co₁ y z) ∙ h);
        seen = within₁;
      };
      lists = lists-append s s₁ t (write (writes_seen s)) (unfold effect in refl) (λ u. listed_more s s₁ (events s u) grows₁ (S.lists u))
          (listed-write s₁ (events s t) (writes_seen s) (listed_more s s₁ (events s t) grows₁ (S.lists t)) new_write (omega (arith, seen₁)) after₁);
      syncs = syncs_stays s s₁ (unfold effect in refl) (unfold effect in refl) S.syncs;
    }

  -- accept a barrier
  module _ (t c : ℕ) where
    s₂ : State
    s₂ = effect s (accept_barrier t c)

    abbrev y₂ : Barrier
    y₂ = record { thread = t; class = c }

    seen₂ : barriers_seen s₂ ≡ suc (barriers_seen s)
    unfolding s₂ effect
    seen₂ = one_longer s.barriers y₂

    grows₂ : Grows s s₂
    grows₂ = grows_stays s s₂ (unfold s₂ effect in refl) (unfold s₂ effect in refl) (omega (arith, seen₂))

    new_barrier : member (barrier (barriers_seen s)) (events s t) ≡ false
    new_barrier = is_false (λ h. let l = (S.lists t).barriers (barriers_seen s) h in omega (arith, l))

    syncs₂ : (b : ℕ) → get_or (s.unacknowledged ++ (eqb c sync ∷ [])) b false ≡ true → (get_or (s.barriers ++ (y₂ ∷ [])) b no_barrier).class ≡ sync
    unfolding unacknowledged_sync class
    syncs₂ b h = by (dec_lt b (barriers_seen s)) (ℕ_discrete b (barriers_seen s))
      where
        n : length s.unacknowledged ≡ barriers_seen s
        n = S.syncs.as_many

        by : Dec (b < barriers_seen s) → Dec (b ≡ barriers_seen s) → (get_or (s.barriers ++ (y₂ ∷ [])) b no_barrier).class ≡ sync
        by (yes l) d =
            let u : unacknowledged_sync s b ≡ true =
            sym (get_or-append s.unacknowledged (eqb c sync ∷ []) false b (omega (arith, n))) ∙ h in
            let old : (get_or s.barriers b no_barrier).class ≡ sync = S.syncs.syncs b u in
            ap (λ (z : Barrier). z.class) (get_or-append s.barriers (y₂ ∷ []) no_barrier b l) ∙ old
        by (no l) (yes e) =
            let z : eqb c sync ≡ true =
            sym (get_or-append_seam s.unacknowledged (eqb c sync) [] false)
            ∙ ap (λ (i : ℕ). get_or (s.unacknowledged ++ (eqb c sync ∷ [])) i false) (n ∙ sym e) ∙ h in
            ap (λ (i : ℕ). (get_or (s.barriers ++ (y₂ ∷ [])) i no_barrier).class) e
            ∙ ap (λ (z : Barrier). z.class) (get_or-append_seam s.barriers y₂ [] no_barrier) ∙ eqb-true c sync z
        by (no l) (no d) =
            let m = one_longer s.unacknowledged (eqb c sync) in
            absurd (false≢true (sym (get_or-eq_default (s.unacknowledged ++ (eqb c sync ∷ [])) false (omega (arith, m, n))) ∙ h))

    sound_accept_barrier : Sound (effect s (accept_barrier t c))
    sound_accept_barrier = unfold s₂ in record {
      ordered = ordered_stays s s₂ (unfold effect in refl) (unfold effect in refl) S.ordered;
      lists = lists-append s s₂ t (barrier (barriers_seen s)) (unfold effect in refl) (λ u. listed_more s s₂ (events s u) grows₂ (S.lists u))
          (listed-barrier s₂ (events s t) (barriers_seen s) (listed_more s s₂ (events s t) grows₂ (S.lists t)) new_barrier (omega (arith, seen₂)));
      syncs = unfold effect unacknowledged_sync class in record {
        as_many = one_longer s.unacknowledged (eqb c sync) ∙ ap suc S.syncs.as_many ∙ sym (one_longer s.barriers y₂);
        syncs = syncs₂;
      };
    }

  -- e, propagated to thread t, is one more of its list, and all else stays
  sound_propagate : (u : State) (t : ℕ) (e : Event) → u.writes ≡ s.writes → u.coherence ≡ s.coherence → u.barriers ≡ s.barriers
      → u.unacknowledged ≡ s.unacknowledged → u.propagated ≡ appended s.propagated t e → Listed s (events s t ++ (e ∷ [])) → Sound u
  sound_propagate u t e w c b a p L =
      let G : Grows s u = grows_stays s u w c (rw b (le_refl _)) in
      record {
        ordered = ordered_stays s u w c S.ordered;
        lists = lists-append s u t e p (λ v. listed_more s u (events s v) G (S.lists v)) (listed_more s u (events s t ++ (e ∷ [])) G L);
        syncs = syncs_stays s u b a S.syncs;
      }

  -- propagate a write
  module _ (w t : ℕ) (low : w < writes_seen s) (on : enabled s (propagate_write w t) ≡ true) where
    conditions : (write_is_new s w t ≡ true) × (write_is_after s w t ≡ true)
    unfolding enabled
    conditions = (
      and_l (write_is_new s w t) (write_is_after s w t && barriers_went_before s w t) on,
      and_l (write_is_after s w t) (barriers_went_before s w t) (and_r (write_is_new s w t) (write_is_after s w t && barriers_went_before s w t) on),
    )

    after₃ : (v : ℕ) → member (write v) (events s t) ≡ true → address s v ≡ address s w → coherent s v w ≡ true
    unfolding write_is_after arrived
    after₃ v m e =
        imp_e (arrived s (write v) t && eqb (address s v) (address s w)) (coherent s v w)
        (all_get (writes_seen s) (λ v. (arrived s (write v) t && eqb (address s v) (address s w)) ⇒ coherent s v w) conditions.1 v ((S.lists t).writes v m))
        (and_i (arrived s (write v) t) (eqb (address s v) (address s w)) m (eq-eqb (address s v) (address s w) e))

    sound_propagate_write : Sound (effect s (propagate_write w t))
    unfolding effect write_is_new arrived
    sound_propagate_write =
        sound_propagate (effect s (propagate_write w t)) t (write w) refl refl refl refl refl
        (listed-write s (events s t) w (S.lists t) (not-true _ conditions.0) low after₃)

  -- propagate a barrier
  sound_propagate_barrier : (b t : ℕ) → b < barriers_seen s → enabled s (propagate_barrier b t) ≡ true → Sound (effect s (propagate_barrier b t))
  unfolding effect enabled barrier_is_new arrived
  sound_propagate_barrier b t low on =
      sound_propagate (effect s (propagate_barrier b t)) t (barrier b) refl refl refl refl refl
      (listed-barrier s (events s t) b (S.lists t) (not-true _ (and_l (barrier_is_new s b t) (group_a_went_before s b t) on)) low)

  -- commit one write before another
  module _ (x y : ℕ) (on : enabled s (commit x y) ≡ true) where
    s₅ : State
    s₅ = effect s (commit x y)

    abbrev edges₅ : ℕ → ℕ → Bool
    edges₅ a b = coherent s a b || (eqb a x && eqb b y)

    co₅ : (a b : ℕ) → coherent s₅ a b ≡ related (closure (writes_seen s) edges₅) a b
    unfolding s₅ effect coherent committed
    co₅ a b = refl

    address_edge₅ : (a b : ℕ) → edges₅ a b ≡ true → address s a ≡ address s b
    unfolding enabled to_one_address
    address_edge₅ a b h =
        or_e (coherent s a b) (eqb a x && eqb b y) (S.ordered.one_address a b)
        (λ t.
        ap (address s) (eqb-true a x (and_l (eqb a x) (eqb b y) t))
        ∙ eqb-true (address s x) (address s y) (and_l (to_one_address s x y) (unrelated s x y && acyclic_with s (committed s x y)) on)
        ∙ ap (address s) (sym (eqb-true b y (and_r (eqb a x) (eqb b y) t)))) h

    -- the new coherence order is within the union that has no cycle
    no_cycle₅ : (a : ℕ) → related (closure (writes_seen s) edges₅) a a ≡ true → ⊥
    unfolding enabled acyclic_with committed
    no_cycle₅ a h =
        let l = closure-within (writes_seen s) edges₅ a a h in
        acyclic_is (writes_seen s) (λ a b. related (committed s x y) a b || separated s a b)
        (and_r (unrelated s x y) (acyclic_with s (committed s x y)) (and_r (to_one_address s x y) (unrelated s x y && acyclic_with s (committed s x y)) on)) a
        (closure-holds (writes_seen s) (λ a b. related (committed s x y) a b || separated s a b) a a l.0 l.1
        (or_l (related (committed s x y) a a) (separated s a a) h))

    grows₅ : Grows s s₅
    grows₅ = record {
      coherence = λ a b h.
          let l = S.ordered.seen a b h in
          co₅ a b ∙ closure-holds (writes_seen s) edges₅ a b l.0 l.1 (or_l (coherent s a b) (eqb a x && eqb b y) h);
      addresses = λ w l. unfold s₅ effect address in refl;
      writes = unfold s₅ effect in le_refl _;
      barriers = unfold s₅ effect in le_refl _;
    }

    sound-commit : Sound (effect s (commit x y))
    sound-commit = unfold s₅ in record {
      ordered = record {
        transitive = λ a b c h g. co₅ a c ∙ closure-transitive (writes_seen s) edges₅ a b c (sym (co₅ a b) ∙ h) (sym (co₅ b c) ∙ g);
        irreflexive = λ a h. no_cycle₅ a (sym (co₅ a a) ∙ h);
        one_address = λ a b h. unfold effect address in
            closure-least (writes_seen s) edges₅ (λ a b. address s a ≡ address s b) (λ a b _ _ g. address_edge₅ a b g) (λ a b c p q. p ∙ q) a b (sym (co₅ a b) ∙ h);
        seen = λ a b h. unfold effect in closure-within (writes_seen s) edges₅ a b (sym (co₅ a b) ∙ h);
      };
      lists = λ u. unfold effect events in listed_more s s₅ (events s u) grows₅ (S.lists u);
      syncs = syncs_stays s s₅ (unfold effect in refl) (unfold effect in refl) S.syncs;
    }

  -- acknowledge a sync
  module _ (b : ℕ) where
    s₇ : State
    s₇ = effect s (acknowledge b)

    grows₇ : Grows s s₇
    grows₇ = grows_stays s s₇ (unfold s₇ effect in refl) (unfold s₇ effect in refl) (unfold s₇ effect in le_refl _)

    still : (c : ℕ) → get_or (set s.unacknowledged b false) c false ≡ true → get_or s.unacknowledged c false ≡ true
    still c h = by (ℕ_discrete c b) (dec_lt b (length s.unacknowledged))
      where
        by : Dec (c ≡ b) → Dec (b < length s.unacknowledged) → get_or s.unacknowledged c false ≡ true
        by (no d) l = sym (get_or-set_other s.unacknowledged b c false false d) ∙ h
        by (yes e) (yes l) = absurd (false≢true (sym (ap (λ (i : ℕ). get_or (set s.unacknowledged b false) i false) e ∙ get_or-set_same s.unacknowledged b false false l) ∙ h))
        by (yes e) (no l) = absurd (false≢true (sym (get_or-eq_default (set s.unacknowledged b false) false (rw length-set (omega (arith, e)))) ∙ h))

    sound-acknowledge : Sound (effect s (acknowledge b))
    sound-acknowledge = unfold s₇ in record {
      ordered = ordered_stays s s₇ (unfold effect in refl) (unfold effect in refl) S.ordered;
      lists = λ u. unfold effect events in listed_more s s₇ (events s u) grows₇ (S.lists u);
      syncs = unfold effect unacknowledged_sync class in record {
        as_many = length-set s.unacknowledged b false ∙ S.syncs.as_many;
        syncs = λ c h. S.syncs.syncs c (still c h);
      };
    }

-- every step that fits and is enabled
pub sound-step : (n m : ℕ) (s : State) → Sound s → (x : Step) → StepFits n m (writes_seen s) (barriers_seen s) x → enabled s x ≡ true → Sound (effect s x)
sound-step n m s S (accept_write t a v) F on = sound_accept_write s S t a v
sound-step n m s S (accept_barrier t c) F on = sound_accept_barrier s S t c
sound-step n m s S (propagate_write w t) F on = sound_propagate_write s S w t F.0 on
sound-step n m s S (propagate_barrier b t) F on = sound_propagate_barrier s S b t F.0 on
sound-step n m s S (commit x y) F on = sound-commit s S x y on
sound-step n m s S (respond t a v) F on = unfold effect in S
sound-step n m s S (acknowledge b) F on = sound-acknowledge s S b

-- before the first step no list holds anything
no_events : (n t : ℕ) → ◌≡◌ {A = List Event} (get_or (replicate n []) t []) []
no_events zero t = refl
no_events (suc n) zero = refl
no_events (suc n) (suc t) = no_events n t

listed-none : (s : State) → Listed s []
listed-none s = unfold precedes member in record {
  in_order = λ a b h _. absurd (false≢true h);
  once = λ e h. false≢true h;
  writes = λ w h. absurd (false≢true h);
  barriers = λ b h. absurd (false≢true h);
}

-- before the first step
pub sound-initial : (n : ℕ) (initials : List ℕ) → Sound (initial n initials)
sound-initial n initials = record {
  ordered = unfold initial coherent related in record {
    transitive = λ a b c h g. h;
    irreflexive = λ a h. false≢true h;
    one_address = λ a b h. absurd (false≢true h);
    seen = λ a b h. absurd (false≢true h);
  };
  lists = λ t. unfold initial events in subst (λ (l : List Event). Listed (initial n initials) l) (sym (no_events n t)) (listed-none (initial n initials));
  syncs = unfold initial unacknowledged_sync in record { as_many = refl; syncs = λ b h. absurd (false≢true h) };
}
