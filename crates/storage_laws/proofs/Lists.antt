-- Lists of events, and what is appended to one.
-- Assumes nothing.
use Prim.Native.Nat.{ℕ, zero, suc, ◌<◌}
use native.Mathlib.Nat.{not-suc-le-zero}
use native.Mathlib.Omega.{arith}
use native.Mathlib.Decide.{dec_lt, ℕ_discrete}
use mathlib.Core.Path.{◌≡◌, refl, ap, ◌∙◌}
use mathlib.Core.Bool.{Bool, true, false, ◌&&◌, ◌||◌, false≢true}
use mathlib.Core.Logic.{◌⊎◌, inl, inr}
use mathlib.Core.List.{List, [], ◌∷◌, ◌++◌}
use lib.ListN.{length, get_or}
use lib.Seq.{get_or-set_same, get_or-set_other, set_out}
use borrow.Author.Tests.{eq-eqb, eqb-true}
use Rattle.finite.specs.Lists.{All}
use Rattle.finite.proofs.Tests.{or_l, or_r, or_false}
use Rattle.storage_model.specs.Subsystem.{Event, write, barrier, same, member, precedes, appended}

-- `same` is equality
pub same_refl : (e : Event) → same e e ≡ true
unfolding same
same_refl (write a) = eq-eqb a a refl
same_refl (barrier a) = eq-eqb a a refl

pub same_is : (e f : Event) → same e f ≡ true → e ≡ f
unfolding same
same_is (write a) (write b) h = ap write (eqb-true a b h)
same_is (write a) (barrier b) h = absurd (false≢true h)
same_is (barrier a) (write b) h = absurd (false≢true h)
same_is (barrier a) (barrier b) h = ap barrier (eqb-true a b h)

or_assoc : (a b c : Bool) → (a || (b || c)) ≡ ((a || b) || c)
or_assoc true b c = refl
or_assoc false b c = refl

-- with x at the end
pub member-append : (e : Event) (l : List Event) (x : Event) → member e (l ++ (x ∷ [])) ≡ (member e l || same e x)
unfolding member
member-append e [] x = or_false (same e x)
member-append e (y ∷ l) x = ap (λ (t : Bool). same e y || t) (member-append e l x) ∙ or_assoc (same e y) (member e l) (same e x)

spread : (p q r s t : Bool) → ((p && (q || r)) || (s || (t && r))) ≡ (((p && q) || s) || ((p || t) && r))
spread false q r s t = or_assoc false s (t && r)
spread true true r s t = refl
spread true false true true t = refl
spread true false true false t = refl
spread true false false true t = refl
spread true false false false true = refl
spread true false false false false = refl

pub precedes-append :
    (e f : Event) (l : List Event) (x : Event) → precedes e f (l ++ (x ∷ [])) ≡ (precedes e f l || (member e l && same f x))
unfolding precedes member
precedes-append e f [] x = none (same e x)
  where
    none : (t : Bool) → ((t && false) || false) ≡ false
    none true = refl
    none false = refl
precedes-append e f (y ∷ l) x =
    rw (member-append f l x, precedes-append e f l x) (spread (same e y) (member f l) (same f x) (precedes e f l) (member e l))

-- what holds of every event that stands in a list
pub all_members : (P : Event → Type 0) (l : List Event) → ((e : Event) → member e l ≡ true → P e) → All P l
unfolding member
all_members P [] f = tt
all_members P (x ∷ l) f = (f x (or_l (same x x) (member x l) (same_refl x)), all_members P l (λ e h. f e (or_r (same e x) (member e l) h)))

-- the event at a place stands in the list
pub member_at : (l : List Event) (i : ℕ) (d : Event) → i < length l → member (get_or l i d) l ≡ true
unfolding member
member_at [] i d h = absurd (not-suc-le-zero h)
member_at (x ∷ l) zero d h = or_l (same x x) (member x l) (same_refl x)
member_at (x ∷ l) (suc i) d h = or_r (same (get_or l i d) x) (member (get_or l i d) l) (member_at l i d (omega arith))

-- a thread's list stays, or has e at its end
pub appended_at : (ls : List (List Event)) (t : ℕ) (e : Event) (u : ℕ)
    → (get_or (appended ls t e) u [] ≡ get_or ls u []) ⊎ ((u ≡ t) × (get_or (appended ls t e) u [] ≡ get_or ls t [] ++ (e ∷ [])))
appended_at ls t e u = by (ℕ_discrete u t) (dec_lt t (length ls))
  where
    by : Dec (u ≡ t) → Dec (t < length ls)
        → (get_or (appended ls t e) u [] ≡ get_or ls u []) ⊎ ((u ≡ t) × (get_or (appended ls t e) u [] ≡ get_or ls t [] ++ (e ∷ [])))
    by (no d) l = inl (get_or-set_other ls t u (get_or ls t [] ++ (e ∷ [])) [] d)
    by (yes p) (yes l) =
        inr (p, ap (λ (v : ℕ). get_or (appended ls t e) v []) p ∙ get_or-set_same ls t (get_or ls t [] ++ (e ∷ [])) [] l)
    by (yes p) (no d) = inl (ap (λ (z : List (List Event)). get_or z u []) (set_out ls t (get_or ls t [] ++ (e ∷ [])) (omega arith)))
