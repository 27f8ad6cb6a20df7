-- What the steps' functions give.
-- Assumes nothing.
use Rattle.std.specs.Prelude.{ℕ, ◌≤◌, ◌<◌, ◌≡◌, ◌&&◌, ◌||◌, List, ltb, get_or, length, Result, Ok, Err}
use Rattle.storage_model.specs.Trace.{Step}
use Rattle.storage_model.specs.Relation.{related}
use Rattle.storage_model.specs.Subsystem.{arrived, separated, followed, failing, effect}
use Rattle.rows.specs.Sets.{Set}
use Rattle.storage.specs.Held.{state_of, held, event_of, edge_in}
use Rattle.storage.specs.declared.Storage.{Storage as Held}
use Rattle.transitions.specs.declared.Condition.{Condition}
use Rattle.transitions.specs.declared.Condition.TheVariants.{First, Second, Third}

-- the set of the events that have been propagated to thread t
pub record Here (c : Held) (t here : ℕ) : Type 0 where
  pub set : Set here (λ e. arrived (state_of c) (event_of e) t)

-- the writes before a new one by thread t to address a
pub record NewRow (c : Held) (t a row : ℕ) : Type 0 where
  pub set : Set row (λ v. ltb v c.writes && related (followed (state_of c) t a) v c.writes)

-- the rows of the writes below i have those that a barrier separates from them; the others are as they were
pub record Separated (c : Held) (old new : List ℕ) (i : ℕ) : Type 0 where
  pub size : length new ≡ length old
  pub done : (a b : ℕ) → a < c.writes → b < i → edge_in new a b ≡ (edge_in old a b || separated (state_of c) a b)
  pub rest : (b : ℕ) → i ≤ b → get_or new b 0 ≡ get_or old b 0

-- the number of a condition
abbrev pub number_of : Condition → ℕ
number_of First = 1
number_of Second = 2
number_of Third = 3

-- the condition that fails, and 0 where none does
abbrev pub failed : {A : Type 0} → Result A Condition → ℕ
failed (Ok x) = 0
failed (Err e) = number_of e

-- the first condition that fails; where none does, the state behind the step
pub record Took (c : Held) (x : Step) (r : Result Held Condition) : Type 0 where
  pub condition : failed r ≡ failing (state_of c) x
  pub next : (n : Held) → r ≡ Ok n → n ≡ held (effect (state_of c) x)
