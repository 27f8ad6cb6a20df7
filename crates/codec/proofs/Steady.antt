-- Readers that refuse with 1 to 3, at a place within the bytes, and whose other answers than 1 stay when further bytes follow.
-- Assumes nothing.
use Prim.Native.Nat.{ℕ, zero, suc, ◌+◌, ◌≤◌}
use native.Mathlib.Omega.{arith}
use mathlib.Core.Path.{◌≡◌, refl, ap, ◌∙◌}
use mathlib.Core.Bool.{Bool, true, false, cond}
use mathlib.Core.List.{List, ◌++◌}
use lib.Dec.{lit≤, ltb}
use lib.ListN.{length, drop}
use Rattle.number.specs.Number.{Raw, got, short, wrong, read_groups, finish, read_number, groups, size}
use Rattle.number.specs.Reader.{Out, stop, next, Reader, give, ◌>>=◌, onward, unless, tested, turns, up_to, within, below, under}
use Rattle.number.proofs.Forms.{WrongForm, wrong_form}
use Rattle.codec.proofs.Extent.{Looks, further, split_all, extent_up_to}

-- 1 to 3, within the bytes; under 2 the number there has a wrong form
abbrev pub OneToThree : List ℕ → (x p : ℕ) → Type 0
OneToThree s x p = (1 ≤ x) × (x ≤ 3) × (p ≤ length s) × (x ≡ 2 → WrongForm s p)

-- what r answered stays when bytes follow, unless they ended
abbrev pub Stays : {A : Type 0} → Reader A → List ℕ → ℕ → Out A → Type 0
Stays r s at (stop x p) = OneToThree s x p × ((x ≡ 1 → ⊥) → (t : List ℕ) → r (s ++ t) at ≡ stop x p)
Stays r s at (next a p) = (p ≤ length s) × ((t : List ℕ) → r (s ++ t) at ≡ next a p)

-- r is refused so, and what lies behind the bytes changes no answer but 1
pub record Steady {A : Type 0} (r : Reader A) : Type 0 where
  pub run : (s : List ℕ) (at : ℕ) → at ≤ length s → Stays r s at (r s at)

pub steady_give : {A : Type 0} (a : A) → Steady (give a)
steady_give a = record { run = λ s at l. (l, λ t. refl) }

pub steady_bind : {A B : Type 0} {r : Reader A} {f : A → Reader B} → Steady r → ((a : A) → Steady (f a)) → Steady (r >>= f)
steady_bind {A} {B} {r} {f} p q = record { run = λ s at l. go s at (r s at) (p.run s at l) }
  where
    go : (s : List ℕ) (at : ℕ) (o : Out A) → Stays r s at o → Stays (r >>= f) s at (onward (λ a p. f a s p) o)
    go s at (stop x y) h = (h.0, λ n t. ap (onward (λ a p. f a (s ++ t) p)) (h.1 n t))
    go s at (next a y) h = behind (f a s y) ((q a).run s y h.0)
      where
        behind : (o : Out B) → Stays (f a) s y o → Stays (r >>= f) s at o
        behind (stop x z) g = (g.0, λ n t. ap (onward (λ a p. f a (s ++ t) p)) (h.1 t) ∙ g.1 n t)
        behind (next b z) g = (g.0, λ t. ap (onward (λ a p. f a (s ++ t) p)) (h.1 t) ∙ g.1 t)

-- the last of a do block
pub steady_last : {A B : Type 0} {r : Reader A} (f : A → B) → Steady r → Steady (r >>= λ x. give (f x))
steady_last f p = steady_bind p (λ a. steady_give (f a))

pub steady_unless : {A : Type 0} (test : A → Bool) {r : Reader A} → Steady r → Steady (unless 3 test r)
unfolding unless
steady_unless {A} test {r} p = record { run = λ s at l. go s at l (r s at) (p.run s at l) }
  where
    go : (s : List ℕ) (at : ℕ) → at ≤ length s → (o : Out A) → Stays r s at o → Stays (unless 3 test r) s at (tested 3 test at o)
    go s at l (stop x y) h = (h.0, λ n t. ap (tested 3 test at) (h.1 n t))
    go s at l (next a y) h = by (test a) refl
      where
        by : (b : Bool) → test a ≡ b → Stays (unless 3 test r) s at (cond b (next a y) (stop 3 at))
        by true e = (h.0, λ t. ap (tested 3 test at) (h.1 t) ∙ rw e)
        by false e = ((lit≤ tt, lit≤ tt, l, λ e. absurd (omega arith)), λ _ t. ap (tested 3 test at) (h.1 t) ∙ rw e)

-- what a number is refused with
abbrev Wrong : List ℕ → Out ℕ → Type 0
Wrong s (stop x p) = OneToThree s x p
Wrong s (next v p) = Unit {0}

number-wrong : (s : List ℕ) (at hi : ℕ) → at ≤ length s → (r : Raw) → (r ≡ wrong → WrongForm s at) → Wrong s ((finish at hi r))
unfolding finish
number-wrong s at hi l short f = (lit≤ tt, lit≤ tt, l, λ e. absurd (omega arith))
number-wrong s at hi l wrong f = (lit≤ tt, lit≤ tt, l, λ e. f refl)
number-wrong s at hi l (got w j) f = small (ltb hi w)
  where
    small : (b : Bool) → Wrong s ((cond b (stop 3 at) (next w (at + j))))
    small true = (lit≤ tt, lit≤ tt, l, λ e. absurd (omega arith))
    small false = tt

pub steady_up_to : (hi : ℕ) → Steady (up_to hi)
steady_up_to hi = record { run = λ s at l. go s at (up_to hi s at) ((extent_up_to hi).run s at l) (unfold up_to read_number in number-wrong s at hi l (read_groups groups 0 (drop at s)) (wrong_form s at)) }
  where
    go : (s : List ℕ) (at : ℕ) (o : Out ℕ) → Looks (up_to hi) (size hi) (size hi + further) (λ v. v ≤ hi) s at o → Wrong s o → Stays (up_to hi) s at o
    go s at (stop x p) S w = (w, S.stays)
    go s at (next v p) T w = (T.inside, λ t. ap (λ (z : List ℕ). up_to hi z at) (split_all p s t) ∙ T.front (drop p s ++ t))

pub steady_within : (lo hi : ℕ) → Steady (within lo hi)
unfolding within
steady_within lo hi = steady_unless _ (steady_up_to hi)

pub steady_below : (b : ℕ) → Steady (below b)
unfolding below
steady_below b = steady_up_to _

pub steady_under : (b : ℕ) → Steady (under b)
unfolding under
steady_under b = steady_unless _ (steady_up_to b)

pub steady_turns : {A : Type 0} (i : ℕ) (f : A → Reader A) → ((a : A) → Steady (f a)) → (a : A) → Steady (turns i f a)
unfolding turns
steady_turns zero f h a = steady_give a
steady_turns (suc i) f h a = steady_bind (h a) (λ b. steady_turns i f h b)

pub steady_if : {A : Type 0} (b : Bool) {r r' : Reader A} → Steady r → Steady r' → Steady (cond b r r')
steady_if true p q = p
steady_if false p q = q
