-- Rules 16 to 18 at one event, as they are tested.
-- Assumes nothing.
use Rattle.std.specs.Prelude.{ℕ, ◌<◌, ◌≤◌, ◌≡◌, Bool, not, ◌&&◌, ◌||◌, List, eqb, get_or}
use Rattle.finite.specs.Tests.{all, some, ◌⇒◌}
use Rattle.bits.specs.Bit.{bit}
use Rattle.model.specs.Limits.{most_threads, most_events}
use Rattle.rows.specs.Sets.{order_in, set_in, store_in, light_in}
use Rattle.rows.specs.May.{Relation, must_read}
use Rattle.values.specs.Parts.{thread_in, carried}
use Rattle.columns.specs.Columns.{Columns}

-- so many threads and events are within the limits, and the columns are those of the rows
pub record WithColumns (n k : ℕ) (rows columns : List ℕ) : Type 0 where
  pub threads : n ≤ most_threads
  pub events : k ≤ most_events
  pub turned : Columns n k rows columns

-- by event g, what comes before it in every thread's order
pub record Joined (n k : ℕ) (rows joined : List ℕ) : Type 0 where
  pub events : k ≤ most_events
  pub everywhere : (g : ℕ) → g < k → (e : ℕ) → e < k → set_in joined g e ≡ (all n λ q. order_in rows q e g)

-- where a uses the address of b, b uses that of a; and every event is of a thread
pub record Shared (n k : ℕ) (partners threads : List ℕ) : Type 0 where
  pub same : (a : ℕ) → a < k → (b : ℕ) → b < k → set_in partners a b ≡ set_in partners b a
  pub thread : (e : ℕ) → e < k → get_or threads e 0 < n

-- barrier f orders e before g: a sync any two events, another what a light barrier orders
abbrev pub applies_in : (barriers syncs stores loads : ℕ) → ℕ → ℕ → ℕ → Bool
applies_in barriers syncs stores loads f e g = bit syncs f || light_in barriers stores loads e g

-- load l must read from store s
abbrev pub read_in : (k loads stores : ℕ) (partners threads rows : List ℕ) → ℕ → ℕ → Bool
read_in k loads stores partners threads rows = must_read k (bit loads) (store_in stores partners) (thread_in threads) (order_in rows) (order_in rows)

-- of k events
module _ (k : ℕ) where
  -- 16 at load l and a store s that does not come after it: another store lies between them, or their values are equal; between holds the stores to l's
  -- address that come before l
  abbrev pub replaced : (between : ℕ → Bool) (equal after : ℕ → ℕ → Bool) → ℕ → ℕ → Bool
  replaced between equal after l s = (some k λ x. between x && after s x && not (eqb x s)) || equal l s

  -- of n threads: event g of then has before it, in every thread's order, each event e of first for which `applies e g`
  abbrev pub carried_to : (n : ℕ) (first then : ℕ → Bool) (applies : ℕ → ℕ → Bool) (asked : Relation) → ℕ → Bool
  carried_to n first then applies asked g = then g ⇒ (all k λ e. (first e && applies e g) ⇒ (all n λ q. asked q e g))

  -- g comes after a load that must read from s, in the order of the load's thread
  abbrev pub behind_in : (read : ℕ → ℕ → Bool) (thread : ℕ → ℕ) (after : Relation) → ℕ → ℕ → Bool
  behind_in read thread after s g = some k λ l. read l s && after (thread l) l g

  -- 18 at f: what the thread's stores after f have behind them
  abbrev pub carried_behind : (n : ℕ) (own barrier : ℕ → Bool) (applicable : ℕ → ℕ → ℕ → Bool) (is_store : ℕ → Bool) (behind : ℕ → ℕ → Bool) (p : ℕ) (after : Relation) → ℕ → Bool
  carried_behind n own barrier applicable is_store behind p after f =
      (barrier f && own f)
      ⇒ carried k n (λ e. after p e f) (λ g. some k λ s. (is_store s && own s && after p f s) && behind s g) (applicable f) after
