-- `all` over the events of a set that are below k, as
--     bits::members_below(set, k).all(|e| ..)
-- `serves_members` says that the closure may be called at each of them, and `all_members` what the call then gives.
-- Assumes nothing.
use Prim.Native.Nat.{ℕ, ◌<◌}
use denote.Param.Members.{Mut}
use lib.Dec.{ltb}
use mathlib.Core.Bool.{Bool, true, false, ◌&&◌}
use mathlib.Core.List.{List, [], ◌∷◌}
use mathlib.Core.Path.{◌≡◌, refl, sym, ap, ◌∙◌, subst}
use borrow.Author.Tests.{ltb-true}
use Rattle.std.specs.Prelude.{Option, None, Some, MatchOption}
use Rattle.std.specs.Fn.{Called}
use Rattle.std.specs.List.{FoldsTo}
use Rattle.std.specs.Iterator.{Yields, YieldsThen, CallableAtEachTurn}
use Rattle.std.proofs.lemmas.Fn.{serves_by}
use Rattle.finite.specs.Tests.{all}
use Rattle.finite.proofs.Tests.{and_l, and_r}
use Rattle.bits.specs.Bit.{bit}
use Rattle.bits.specs.Members.{Takes}
use Rattle.rows.proofs.Each.{Passed, pass_first, pass_next, pass_fails, pass_end}

-- what is left after some events is of the set
left_in : (xs : List ℕ) (s t : ℕ) → Yields Takes s xs t → (e : ℕ) → bit t e ≡ true → bit s e ≡ true
left_in [] s t y e h = subst (λ (x : ℕ). bit x e ≡ true) (sym y) h
left_in (x ∷ xs) s t y e h = and_l (bit s e) _ (sym (y.1.left e) ∙ left_in xs y.0 t y.2 e h)

module _ (k set : ℕ) {s : ℕ} (below : (e : ℕ) → bit s e ≡ (bit set e && ltb e k)) where
  pub serves_members : {P : Type 0} {R : P → ℕ → P → Type 0} {Q : P → ℕ → Type 0} {p : P}
      → ((x : ℕ) (q : P) → R p x q → q ≡ p) → ((x : ℕ) → x < k → bit set x ≡ true → Q p x) → CallableAtEachTurn Takes R Q s p
  serves_members {P} {R} {Q} {p} stays h =
      serves_by R (λ xs q. q ≡ p) (λ xs q x v same r. stays x v (subst (λ w. R w x v) same r)) Takes Q s p refl
      (λ xs t q x u y st same.
      let here : (bit set x && ltb x k) ≡ true = sym (below x) ∙ left_in xs s t y x st.member in
      subst (λ w. Q w x) (sym same) (h x (ltb-true x k (and_r (bit set x) (ltb x k) here)) (and_l (bit set x) (ltb x k) here)))

module _ (k set : ℕ) {F : Type 0} {g : Mut F (ℕ × Unit {0}) Bool} (p : ℕ → Bool) (u : ℕ) (f : F) (r : Bool)
    (told : (x : ℕ) (b : Bool) (q : F) → Called g f (x, tt) b q → (q ≡ f) × (b ≡ p x)) where
  run : (xs : List ℕ) (s : ℕ) (o : Option ℕ) (i j : F) → i ≡ f → Passed k set p s → YieldsThen Takes s xs o u → FoldsTo (λ q x v. Called g q (x, tt) true v) i xs j
      → MatchOption o (r ≡ true) (λ x. (r ≡ false) × ((h : F) × Called g j (x, tt) false h)) → r ≡ all k p
  run [] s None i j same v (t, y, z) c m = m ∙ pass_end v (λ e. ap (λ (w : ℕ). bit w e) y ∙ z e)
  run [] s (Some x) i j same v (t, y, z) c m =
      m.0 ∙ pass_fails (subst (λ (w : ℕ). Passed k set p w) y v) z (told x false m.1.0 (subst (λ w. Called g w (x, tt) false m.1.0) (sym c ∙ same) m.1.1)).1 refl
  run (x ∷ xs) s o i j same v (t, y, z) c m =
      let answer = told x true c.0 (subst (λ w. Called g w (x, tt) true c.0) same c.1) in
      run xs y.0 o c.0 j answer.0 (pass_next v y.1 answer.1 refl) (t, y.2, z) c.2 m

  pub all_members : {s : ℕ} → (xs : List ℕ) × (o : Option ℕ) × (j : F) × YieldsThen Takes s xs o u × FoldsTo (λ q x v. Called g q (x, tt) true v) f xs j
      × MatchOption o (r ≡ true) (λ x. (r ≡ false) × ((h : F) × Called g j (x, tt) false h))
      → ((e : ℕ) → bit s e ≡ (bit set e && ltb e k)) → ((i : ℕ) → bit set i ≡ false → p i ≡ true) → r ≡ all k p
  all_members {s} (xs, o, j, y, c, m) below out = run xs s o f j refl (pass_first refl below out) y c m
