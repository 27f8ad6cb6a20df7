-- What threads' lists in arrays say.
-- Assumes nothing.
use Rattle.std.specs.Prelude.{ℕ, ◌+◌, ◌*◌, ◌≤◌, ◌<◌, ◌≡◌, Bool, true, cond, ◌&&◌, List, [], ◌∷◌, eqb, get_or, length}
use Rattle.finite.specs.Tests.{some}
use Rattle.storage_model.specs.Limits.{most_barriers, most_listed}
use Rattle.storage_model.specs.Subsystem.{Event, write, barrier, precedes}

-- by thread, how many events its list has, and all threads' lists: each has room and names events
pub record Lists (listed events : List ℕ) : Type 0 where
  pub short : (t : ℕ) → get_or listed t 0 ≤ most_listed
  pub entries : (i : ℕ) → get_or events i 0 < most_listed

-- part is thread t's list
pub record ListOf (listed events : List ℕ) (t : ℕ) (part : List ℕ) : Type 0 where
  pub size : length part ≡ get_or listed t 0
  pub place : (i : ℕ) → i < length part → get_or part i 0 ≡ get_or events (t * most_listed + i) 0

-- no event stands in the list twice
pub record Once (l : List Event) : Type 0 where
  pub once : (e : Event) → precedes e e l ≡ true → ⊥

-- a barrier stands behind e and before f
unfoldable pub separated_in : List Event → (e f : Event) → Bool
separated_in l e f = some most_barriers (λ z. precedes e (barrier z) l && precedes (barrier z) f l)

-- what address a holds behind an event, if it held v before; by write, its address and value
unfoldable pub later_of : (addresses values : List ℕ) (a v : ℕ) → Event → ℕ
later_of as' vs a v (write w) = cond (eqb (get_or as' w 0) a) (get_or vs w 0) v
later_of as' vs a v (barrier b) = v

-- what it holds behind all events of the list
unfoldable pub latest_in : (addresses values : List ℕ) (a v : ℕ) → List Event → ℕ
latest_in as' vs a v [] = v
latest_in as' vs a v (e ∷ l) = latest_in as' vs a (later_of as' vs a v e) l
