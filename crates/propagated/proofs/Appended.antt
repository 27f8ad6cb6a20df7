-- Lists of events where one is appended: what is separated, and what an address holds.
-- Assumes nothing.
use Prim.Native.Nat.{ℕ}
use mathlib.Core.Path.{◌≡◌, refl, sym, ap, ap₂, ◌∙◌}
use mathlib.Core.Bool.{Bool, true, false, ◌&&◌, ◌||◌, true≢false}
use mathlib.Core.List.{List, [], ◌∷◌, ◌++◌}
use Rattle.finite.specs.Tests.{some}
use Rattle.finite.proofs.Tests.{some_same, some_or, some-and, and-true, and-false}
use Rattle.storage_model.specs.Limits.{most_barriers}
use Rattle.storage_model.specs.Subsystem.{Event, barrier, same, member, precedes}
use Rattle.storage_laws.proofs.Lists.{same_is, precedes-append}
use Rattle.storage_laws.proofs.Listed.{precedes_members}
use Rattle.propagated.specs.Lists.{separated_in, later_of, latest_in}

-- a barrier stands behind e
abbrev pub fenced_in : List Event → Event → Bool
fenced_in l e = some most_barriers (λ z. precedes e (barrier z) l)

-- one more event x, new to the list: what has a barrier behind it is now separated from x
pub separated-append : (l : List Event) (e f x : Event) → member x l ≡ false
    → separated_in (l ++ (x ∷ [])) e f ≡ (separated_in l e f || (same f x && fenced_in l e))
unfolding separated_in
separated-append l e f x new =
    some_same most_barriers (λ z. precedes e (barrier z) (l ++ (x ∷ [])) && precedes (barrier z) f (l ++ (x ∷ [])))
    (λ z. (precedes e (barrier z) l && precedes (barrier z) f l) || (same f x && precedes e (barrier z) l))
    (λ z lz.
    ap₂ ◌&&◌ (precedes-append e (barrier z) l x) (precedes-append (barrier z) f l x)
    ∙ turn (precedes e (barrier z) l) (precedes (barrier z) f l) (member e l) (member (barrier z) l) (same f x) (same (barrier z) x)
    (λ h. (precedes_members e (barrier z) l h).1) (λ h. (precedes_members (barrier z) f l h).0) (λ h. ap (λ y. member y l) (same_is (barrier z) x h) ∙ new))
    ∙ some_or most_barriers (λ z. precedes e (barrier z) l && precedes (barrier z) f l) (λ z. same f x && precedes e (barrier z) l)
    ∙ ap (λ t. separated_in l e f || t) (some-and most_barriers (same f x) (λ z. precedes e (barrier z) l))
  where
    turn : (a c m n s q : Bool) → (a ≡ true → n ≡ true) → (c ≡ true → n ≡ true) → (q ≡ true → n ≡ false)
        → ((a || (m && q)) && (c || (n && s))) ≡ ((a && c) || (s && a))
    turn true c m n s q ha hc hq = ap (λ b. c || (b && s)) (ha refl) ∙ ap (λ b. c || b) (sym (and-true s))
    turn false true m n s true ha hc hq = absurd (true≢false (sym (hc refl) ∙ hq refl))
    turn false false m n s true ha hc hq = ap (λ b. (m && true) && (b && s)) (hq refl) ∙ and-false (m && true) ∙ sym (and-false s)
    turn false c m n s false ha hc hq = ap (λ b. b && (c || (n && s))) (and-false m) ∙ sym (and-false s)

-- what has a barrier behind it then
pub fenced_append : (l : List Event) (e x : Event) → fenced_in (l ++ (x ∷ [])) e ≡ (fenced_in l e || (member e l && some most_barriers (λ z. same (barrier z) x)))
fenced_append l e x =
    some_same most_barriers (λ z. precedes e (barrier z) (l ++ (x ∷ []))) (λ z. precedes e (barrier z) l || (member e l && same (barrier z) x))
    (λ z lz. precedes-append e (barrier z) l x)
    ∙ some_or most_barriers (λ z. precedes e (barrier z) l) (λ z. member e l && same (barrier z) x)
    ∙ ap (λ t. fenced_in l e || t) (some-and most_barriers (member e l) (λ z. same (barrier z) x))

-- what an address holds then
pub latest-append : (addresses values : List ℕ) (a v : ℕ) (l : List Event) (x : Event)
    → latest_in addresses values a v (l ++ (x ∷ [])) ≡ later_of addresses values a (latest_in addresses values a v l) x
unfolding latest_in
latest-append as' vs a v [] x = refl
latest-append as' vs a v (e ∷ l) x = latest-append as' vs a (later_of as' vs a v e) l x
