-- What a step keeps of each thread's list.
-- Assumes nothing.
use Prim.Native.Nat.{ℕ, ◌≤◌, ◌<◌}
use native.Mathlib.Omega.{arith}
use mathlib.Core.Path.{◌≡◌, sym, ap, ◌∙◌, subst}
use mathlib.Core.Bool.{true, false, ◌&&◌, ◌||◌, true≢false, false≢true}
use mathlib.Core.Logic.{◌⊎◌, inl, inr, ⊎_elim}
use mathlib.Core.List.{List, [], ◌∷◌, ◌++◌}
use lib.ListN.{get_or}
use borrow.Author.Tests.{eqb-true}
use Rattle.finite.proofs.Tests.{and_l, and_r, or_l, or_r, or_e}
use Rattle.storage_model.specs.Subsystem.{State, Event, write, barrier, same, member, precedes, address, events, coherent, writes_seen, barriers_seen, appended}
use Rattle.storage_model.specs.Sound.{Listed}
use Rattle.storage_laws.proofs.Lists.{same_refl, same_is, member-append, precedes-append, appended_at}

-- t has all that s has
pub record Grows (s t : State) : Type 0 where
  pub coherence : (a b : ℕ) → coherent s a b ≡ true → coherent t a b ≡ true
  pub addresses : (w : ℕ) → w < writes_seen s → address t w ≡ address s w
  pub writes : writes_seen s ≤ writes_seen t
  pub barriers : barriers_seen s ≤ barriers_seen t

pub precedes_members : (e f : Event) (l : List Event) → precedes e f l ≡ true → (member e l ≡ true) × (member f l ≡ true)
unfolding precedes member
precedes_members e f [] h = absurd (false≢true h)
precedes_members e f (x ∷ l) h = by (precedes_members e f l)
  where
    by : (precedes e f l ≡ true → (member e l ≡ true) × (member f l ≡ true)) → ((same e x || member e l) ≡ true) × ((same f x || member f l) ≡ true)
    by ih =
        or_e (same e x && member f l) (precedes e f l)
        (λ t. (or_l (same e x) (member e l) (and_l (same e x) (member f l) t), or_r (same f x) (member f l) (and_r (same e x) (member f l) t)))
        (λ t. (or_r (same e x) (member e l) (ih t).0, or_r (same f x) (member f l) (ih t).1)) h

-- a list stays as it should be where the state grows
pub listed_more : (s t : State) (l : List Event) → Grows s t → Listed s l → Listed t l
listed_more s t l G L = record {
  in_order = λ a b h e.
      let m = precedes_members (write a) (write b) l h in
      G.coherence a b (L.in_order a b h (sym (G.addresses a (L.writes a m.0)) ∙ e ∙ G.addresses b (L.writes b m.1)));
  once = L.once;
  writes = λ w h. omega (arith, L.writes w h, G.writes);
  barriers = λ b h. omega (arith, L.barriers b h, G.barriers);
}

-- a list with e at its end, where e is not yet in it
module _ (s : State) (l : List Event) (e : Event) (L : Listed s l) (new : member e l ≡ false) where
  once-append : (f : Event) → precedes f f (l ++ (e ∷ [])) ≡ true → ⊥
  once-append f h =
      or_e (precedes f f l) (member f l && same f e) (L.once f)
      (λ t.
      let p : f ≡ e = same_is f e (and_r (member f l) (same f e) t) in
      true≢false (sym (and_l (member f l) (same f e) t) ∙ ap (λ (z : Event). member z l) p ∙ new))
      (sym (precedes-append f f l e) ∙ h)

  append_either : (f : Event) → member f (l ++ (e ∷ [])) ≡ true → (member f l ≡ true) ⊎ (f ≡ e)
  append_either f h = or_e (member f l) (same f e) inl (λ t. inr (same_is f e t)) (sym (member-append f l e) ∙ h)

  order-append : ((a b : ℕ) → member (write a) l ≡ true → write b ≡ e → address s a ≡ address s b → coherent s a b ≡ true)
      → (a b : ℕ) → precedes (write a) (write b) (l ++ (e ∷ [])) ≡ true → address s a ≡ address s b → coherent s a b ≡ true
  order-append after a b h same_address =
      or_e (precedes (write a) (write b) l) (member (write a) l && same (write b) e) (λ t. L.in_order a b t same_address)
      (λ t. after a b (and_l (member (write a) l) (same (write b) e) t) (same_is (write b) e (and_r (member (write a) l) (same (write b) e) t)) same_address)
      (sym (precedes-append (write a) (write b) l e) ∙ h)

write_is : (a b : ℕ) → write a ≡ write b → a ≡ b
write_is a b e = eqb-true a b (unfold same in (ap (same (write a)) (sym e) ∙ same_refl (write a)))

barrier_is : (a b : ℕ) → barrier a ≡ barrier b → a ≡ b
barrier_is a b e = eqb-true a b (unfold same in (ap (same (barrier a)) (sym e) ∙ same_refl (barrier a)))

write_no_barrier : (a b : ℕ) → write a ≡ barrier b → ⊥
write_no_barrier a b e = false≢true (unfold same in (ap (same (write a)) (sym e) ∙ same_refl (write a)))

-- a write at the end that comes after the writes to its address
pub listed-write : (s : State) (l : List Event) (w : ℕ) → Listed s l → member (write w) l ≡ false → w < writes_seen s
    → ((v : ℕ) → member (write v) l ≡ true → address s v ≡ address s w → coherent s v w ≡ true) → Listed s (l ++ (write w ∷ []))
listed-write s l w L new low after = record {
  in_order = order-append s l (write w) L new
      (λ a b m e same_address.
      let p : b ≡ w = write_is b w e in
      subst (λ (z : ℕ). coherent s a z ≡ true) (sym p) (after a m (same_address ∙ ap (address s) p)));
  once = once-append s l (write w) L new;
  writes = λ v h. ⊎_elim (L.writes v) (λ e. subst (λ (z : ℕ). z < writes_seen s) (sym (write_is v w e)) low) (append_either s l (write w) L new (write v) h);
  barriers = λ b h. ⊎_elim (L.barriers b) (λ e. absurd (write_no_barrier w b (sym e))) (append_either s l (write w) L new (barrier b) h);
}

-- a barrier at the end
pub listed-barrier : (s : State) (l : List Event) (b : ℕ) → Listed s l → member (barrier b) l ≡ false → b < barriers_seen s → Listed s (l ++ (barrier b ∷ []))
listed-barrier s l b L new low = record {
  in_order = order-append s l (barrier b) L new (λ a w m e same_address. absurd (write_no_barrier w b e));
  once = once-append s l (barrier b) L new;
  writes = λ v h. ⊎_elim (L.writes v) (λ e. absurd (write_no_barrier v b e)) (append_either s l (barrier b) L new (write v) h);
  barriers = λ c h. ⊎_elim (L.barriers c) (λ e. subst (λ (z : ℕ). z < barriers_seen s) (sym (barrier_is c b e)) low) (append_either s l (barrier b) L new (barrier c) h);
}

-- every list, where e went to the end of thread t's
pub lists-append : (s s' : State) (t : ℕ) (e : Event) → s'.propagated ≡ appended s.propagated t e → ((u : ℕ) → Listed s' (events s u))
    → Listed s' (events s t ++ (e ∷ [])) → (u : ℕ) → Listed s' (events s' u)
unfolding events
lists-append s s' t e p old new u =
    subst (λ (z : List (List Event)). Listed s' (get_or z u [])) (sym p)
    (⊎_elim (λ h. subst (λ (l : List Event). Listed s' l) (sym h) (old u)) (λ h. subst (λ (l : List Event). Listed s' l) (sym h.1) new)
    (appended_at s.propagated t e u))
