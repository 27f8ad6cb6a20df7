-- Lists made of a function's values, and what holds of a list's elements.
-- Assumes nothing.
use Rattle.std.specs.Prelude.{ℕ, zero, suc, Bool, true, ◌&&◌, List, [], ◌∷◌, ◌++◌}

-- f at i, i + 1 and so on, j of them
unfoldable pub table : {A : Type 0} → (i j : ℕ) → (ℕ → A) → List A
table i zero f = []
table i (suc j) f = f i ∷ table (suc i) j f

-- what f makes of each element, one after the other
unfoldable pub each : {A B : Type 0} → (A → List B) → List A → List B
each f [] = []
each f (a ∷ as') = f a ++ each f as'

-- every element passes f
unfoldable pub every : {A : Type 0} → (A → Bool) → List A → Bool
every f [] = true
every f (a ∷ as') = f a && every f as'

-- P holds of every element
abbrev pub All : {A : Type 0} → (A → Type 0) → List A → Type 0
All P [] = Unit {0}
All P (a ∷ as') = P a × All P as'

-- P holds of each element and its number, counted from i
abbrev pub AllFrom : {A : Type 0} → (ℕ → A → Type 0) → ℕ → List A → Type 0
AllFrom P i [] = Unit {0}
AllFrom P i (a ∷ as') = P i a × AllFrom P (suc i) as'
