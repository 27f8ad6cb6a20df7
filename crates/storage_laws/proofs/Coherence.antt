-- What a step adds to coherence, said without a closure: coherence is transitive, so that it leads to a new edge, and from it on, at once.
-- Assumes nothing.
use Prim.Native.Nat.{ℕ, suc, ◌<◌}
use native.Mathlib.Omega.{arith}
use mathlib.Core.Path.{◌≡◌, refl, sym, ◌∙◌, subst}
use mathlib.Core.Bool.{Bool, true, ◌&&◌, ◌||◌}
use mathlib.Core.Logic.{◌⊎◌, inl, inr}
use lib.Dec.{eqb}
use borrow.Author.Tests.{eq-eqb, eqb-true}
use Rattle.finite.specs.Tests.{some}
use Rattle.finite.proofs.Tests.{iff, and_l, and_r, and_i, or_l, or_r, or_e, some_make, some_out, eqb_sym}
use Rattle.storage_model.specs.Relation.{relation, related, closure}
use Rattle.storage_model.specs.Subsystem.{State, write, address, arrived, coherent, writes_seen, committed, followed}
use Rattle.storage_model.specs.Sound.{Sound}
use Rattle.storage_laws.proofs.Relations.{relation-same, closure-holds, closure-transitive, closure-least, closure-table}

module _ (s : State) (S : Sound s) where
  -- write a is before write b, or is b
  abbrev UpTo : (a b : ℕ) → Type 0
  UpTo a b = (a ≡ b) ⊎ (coherent s a b ≡ true)

  up_to : (a b : ℕ) → (eqb a b || coherent s a b) ≡ true → UpTo a b
  up_to a b h = or_e (eqb a b) (coherent s a b) (λ e. inl (eqb-true a b e)) inr h

  is_up_to : (a b : ℕ) → UpTo a b → (eqb a b || coherent s a b) ≡ true
  is_up_to a b (inl e) = or_l (eqb a b) (coherent s a b) (eq-eqb a b e)
  is_up_to a b (inr h) = or_r (eqb a b) (coherent s a b) h

  up_to_before : (a b c : ℕ) → UpTo a b → coherent s b c ≡ true → coherent s a c ≡ true
  up_to_before a b c (inl e) g = subst (λ (z : ℕ). coherent s z c ≡ true) (sym e) g
  up_to_before a b c (inr h) g = S.ordered.transitive a b c h g

  before_up_to : (a b c : ℕ) → coherent s a b ≡ true → UpTo b c → coherent s a c ≡ true
  before_up_to a b c h (inl e) = subst (λ (z : ℕ). coherent s a z ≡ true) e h
  before_up_to a b c h (inr g) = S.ordered.transitive a b c h g

  -- coherence with more edges
  module _ (k : ℕ) (more : ℕ → ℕ → Bool) (room : writes_seen s < suc k) where
    abbrev edges : ℕ → ℕ → Bool
    edges a b = coherent s a b || more a b

    old : (a b : ℕ) → coherent s a b ≡ true → related (closure k edges) a b ≡ true
    old a b h =
        let l = S.ordered.seen a b h in
        closure-holds k edges a b (omega (arith, l.0)) (omega (arith, l.1)) (or_l (coherent s a b) (more a b) h)

    old_then : (a b c : ℕ) → UpTo a b → related (closure k edges) b c ≡ true → related (closure k edges) a c ≡ true
    old_then a b c (inl e) g = subst (λ (z : ℕ). related (closure k edges) z c ≡ true) (sym e) g
    old_then a b c (inr h) g = closure-transitive k edges a b c (old a b h) g

    then_old : (a b c : ℕ) → related (closure k edges) a b ≡ true → UpTo b c → related (closure k edges) a c ≡ true
    then_old a b c h (inl e) = subst (λ (z : ℕ). related (closure k edges) a z ≡ true) e h
    then_old a b c h (inr g) = closure-transitive k edges a b c h (old b c g)

    -- they lead to what `all` says
    closure-adds : (all : ℕ → ℕ → Bool)
        → ((a b c : ℕ) → coherent s a b ≡ true → all b c ≡ true → all a c ≡ true)
        → ((a b c : ℕ) → all a b ≡ true → coherent s b c ≡ true → all a c ≡ true)
        → ((a b c : ℕ) → all a b ≡ true → all b c ≡ true → all a c ≡ true)
        → ((a b : ℕ) → more a b ≡ true → all a b ≡ true)
        → ((a b : ℕ) → all a b ≡ true → related (closure k edges) a b ≡ true)
        → (a b : ℕ) → related (closure k edges) a b ≡ (coherent s a b || all a b)
    closure-adds all before behind both new led a b =
        iff (λ h. made a b (closure-least k edges Either (λ a b _ _ g. or_e (coherent s a b) (more a b) inl (λ t. inr (new a b t)) g) chain a b h))
        (λ h. or_e (coherent s a b) (all a b) (old a b) (led a b) h)
      where
        Either : ℕ → ℕ → Type 0
        Either a b = (coherent s a b ≡ true) ⊎ (all a b ≡ true)

        made : (a b : ℕ) → Either a b → (coherent s a b || all a b) ≡ true
        made a b (inl h) = or_l (coherent s a b) (all a b) h
        made a b (inr h) = or_r (coherent s a b) (all a b) h

        chain : (a b c : ℕ) → Either a b → Either b c → Either a c
        chain a b c (inl h) (inl g) = inl (S.ordered.transitive a b c h g)
        chain a b c (inl h) (inr g) = inr (before a b c h g)
        chain a b c (inr h) (inl g) = inr (behind a b c h g)
        chain a b c (inr h) (inr g) = inr (both a b c h g)

  -- write x committed before write y: what was up to x is before what was from y on
  pub committed_at : (x y a b : ℕ) → x < writes_seen s → y < writes_seen s
      → related (committed s x y) a b ≡ (coherent s a b || ((eqb a x || coherent s a x) && (eqb b y || coherent s y b)))
  unfolding committed
  committed_at x y a b lx ly =
      rw (eqb_sym b y) (closure-adds (writes_seen s) (λ a b. eqb a x && eqb b y) (omega arith) all
      (λ a b c h g. make a c (inr (before_up_to a b x h (to b c g))) (from b c g))
      (λ a b c h g. make a c (to a b h) (inr (up_to_before y b c (from a b h) g)))
      (λ a b c h g. make a c (to a b h) (from b c g))
      (λ a b h. make a b (inl (eqb-true a x (and_l (eqb a x) (eqb b y) h))) (inl (sym (eqb-true b y (and_r (eqb a x) (eqb b y) h)))))
      led a b)
    where
      all : ℕ → ℕ → Bool
      all a b = (eqb a x || coherent s a x) && (eqb y b || coherent s y b)

      make : (a b : ℕ) → UpTo a x → UpTo y b → all a b ≡ true
      make a b h g = and_i (eqb a x || coherent s a x) (eqb y b || coherent s y b) (is_up_to a x h) (is_up_to y b g)

      to : (a b : ℕ) → all a b ≡ true → UpTo a x
      to a b h = up_to a x (and_l (eqb a x || coherent s a x) (eqb y b || coherent s y b) h)

      from : (a b : ℕ) → all a b ≡ true → UpTo y b
      from a b h = up_to y b (and_r (eqb a x || coherent s a x) (eqb y b || coherent s y b) h)

      edge : related (closure (writes_seen s) (λ a b. coherent s a b || (eqb a x && eqb b y))) x y ≡ true
      edge =
          closure-holds (writes_seen s) (λ a b. coherent s a b || (eqb a x && eqb b y)) x y lx ly
          (or_r (coherent s x y) (eqb x x && eqb y y) (and_i (eqb x x) (eqb y y) (eq-eqb x x refl) (eq-eqb y y refl)))

      led : (a b : ℕ) → all a b ≡ true → related (closure (writes_seen s) (λ a b. coherent s a b || (eqb a x && eqb b y))) a b ≡ true
      led a b h =
          let k = writes_seen s in
          old_then k _ (omega arith) a x b (to a b h) (then_old k _ (omega arith) x y b edge (from a b h))

  -- the whole table
  pub committed_is : (x y : ℕ) → x < writes_seen s → y < writes_seen s
      → committed s x y ≡ relation (writes_seen s) (λ a b. coherent s a b || ((eqb a x || coherent s a x) && (eqb b y || coherent s y b)))
  committed_is x y lx ly =
      let table : committed s x y ≡ relation (writes_seen s) (related (committed s x y)) = unfold committed in closure-table (writes_seen s) _ in
      table ∙ relation-same (writes_seen s) _ _ (λ a b _ _. committed_at x y a b lx ly)

  -- a write to address a accepted of thread t: the writes up to those to a that have been propagated to t are before it
  pub followed_at : (t a v w : ℕ)
      → related (followed s t a) v w
      ≡ (coherent s v w || (eqb w (writes_seen s) && some (writes_seen s) (λ y. (arrived s (write y) t && eqb (address s y) a) && (eqb v y || coherent s v y))))
  unfolding followed arrived
  followed_at t a v w = closure-adds (suc n) (λ v w. eqb w n && there v) (omega arith) all before behind both new led v w
    where
      n : ℕ
      n = writes_seen s

      there : ℕ → Bool
      there y = arrived s (write y) t && eqb (address s y) a

      all : ℕ → ℕ → Bool
      all v w = eqb w n && some n (λ y. there y && (eqb v y || coherent s v y))

      make : (v w y : ℕ) → w ≡ n → y < n → there y ≡ true → UpTo v y → all v w ≡ true
      make v w y e l h g =
          and_i (eqb w n) (some n (λ y. there y && (eqb v y || coherent s v y))) (eq-eqb w n e)
          (some_make n (λ y. there y && (eqb v y || coherent s v y)) y l (and_i (there y) (eqb v y || coherent s v y) h (is_up_to v y g)))

      out : {G : Type 0} (v w : ℕ) → all v w ≡ true → (w ≡ n → (y : ℕ) → y < n → there y ≡ true → UpTo v y → G) → G
      out v w h f =
          some_out n (λ y. there y && (eqb v y || coherent s v y)) (and_r (eqb w n) (some n (λ y. there y && (eqb v y || coherent s v y))) h)
          (λ y l g. f (eqb-true w n (and_l (eqb w n) (some n (λ y. there y && (eqb v y || coherent s v y))) h)) y l
          (and_l (there y) (eqb v y || coherent s v y) g) (up_to v y (and_r (there y) (eqb v y || coherent s v y) g)))

      before : (u v w : ℕ) → coherent s u v ≡ true → all v w ≡ true → all u w ≡ true
      before u v w h g = out v w g (λ e y l p q. make u w y e l p (inr (before_up_to u v y h q)))

      -- nothing is behind the new write
      last : (w : ℕ) → coherent s n w ≡ true → ⊥
      last w h = let l = (S.ordered.seen n w h).0 in omega (arith, l)

      behind : (u v w : ℕ) → all u v ≡ true → coherent s v w ≡ true → all u w ≡ true
      behind u v w h g = out u v h (λ e _ _ _ _. absurd (last w (subst (λ (z : ℕ). coherent s z w ≡ true) e g)))

      not_up_to : (y : ℕ) → y < n → UpTo n y → ⊥
      not_up_to y l (inl e) = omega (arith, e)
      not_up_to y l (inr h) = last y h

      both : (u v w : ℕ) → all u v ≡ true → all v w ≡ true → all u w ≡ true
      both u v w h g = out u v h (λ e _ _ _ _. out v w g (λ _ y l _ q. absurd (not_up_to y l (subst (λ (z : ℕ). UpTo z y) e q))))

      new : (v w : ℕ) → (eqb w n && there v) ≡ true → all v w ≡ true
      new v w h =
          let p : there v ≡ true = and_r (eqb w n) (there v) h in
          let m : arrived s (write v) t ≡ true = and_l (arrived s (write v) t) (eqb (address s v) a) p in
          make v w v (eqb-true w n (and_l (eqb w n) (there v) h)) ((S.lists t).writes v m) p (inl refl)

      led : (v w : ℕ) → all v w ≡ true → related (closure (suc n) (λ v w. coherent s v w || (eqb w n && there v))) v w ≡ true
      led v w h = out v w h (λ e y l p q.
          old_then (suc n) (λ v w. eqb w n && there v) (omega arith) v y w q
          (closure-holds (suc n) (λ v w. coherent s v w || (eqb w n && there v)) y w (omega arith) (omega (arith, e))
          (or_r (coherent s y w) (eqb w n && there y) (and_i (eqb w n) (there y) (eq-eqb w n e) p))))

  -- the whole table
  pub followed_is : (t a : ℕ)
      → followed s t a
      ≡ relation (suc (writes_seen s)) (λ v w. coherent s v w || (eqb w (writes_seen s) && some (writes_seen s) (λ y. (arrived s (write y) t && eqb (address s y) a) && (eqb v y || coherent s v y))))
  followed_is t a =
      let table : followed s t a ≡ relation (suc (writes_seen s)) (related (followed s t a)) = unfold followed in closure-table (suc (writes_seen s)) _ in
      table ∙ relation-same (suc (writes_seen s)) _ _ (λ v w _ _. followed_at t a v w)
