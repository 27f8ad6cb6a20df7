-- Rules 11 to 14 at one event, as they are tested.
-- Assumes nothing.
use Rattle.std.specs.Prelude.{ℕ, ◌+◌, ◌*◌, Bool, not, ◌&&◌, ◌||◌, List, eqb, ltb, get_or}
use Rattle.finite.specs.Tests.{all, some, count, ◌⇒◌}
use Rattle.finite.specs.Lists.{table}
use Rattle.model.specs.Limits.{most_events}
use Rattle.model.specs.Rules.{first}
use Rattle.rows.specs.Sets.{store_in}
use Rattle.rows.specs.May.{Relation}

-- three events: where a comes before b and b before d, a comes before d
abbrev pub transitive_at : (known asked : ℕ → ℕ → Bool) → ℕ → ℕ → ℕ → Bool
transitive_at known asked a b d = (known a b && known b d) ⇒ asked a d

-- of k events; known and asked are one thread's orders
module _ (k : ℕ) where
  abbrev pub closed : (known asked : ℕ → ℕ → Bool) → ℕ → Bool
  closed known asked a = not (known a a) && (all k λ b. known a b ⇒ (all k λ d. known b d ⇒ asked a d))

  -- own: the thread's events
  abbrev pub connected : (own : ℕ → Bool) (asked : ℕ → ℕ → Bool) → ℕ → Bool
  connected own asked a = own a ⇒ (all k λ b. (own b && not (eqb a b)) ⇒ (asked a b || asked b a))

  -- the events listed after a that have to come after it do
  abbrev pub listed : (own barrier : ℕ → Bool) (one_address depends asked : ℕ → ℕ → Bool) → ℕ → Bool
  listed own barrier one_address depends asked a =
      own a
      ⇒ (all k λ b. (own b && (barrier a || barrier b || one_address a b || depends a b)) ⇒ (asked a b || ltb b (a + 1)))

  -- of n threads: stores that some thread orders after a stand so in the write order
  abbrev pub coherent : (n : ℕ) (is_store : ℕ → Bool) (store_for written : ℕ → ℕ → Bool) (known : Relation) → ℕ → Bool
  coherent n is_store store_for written known a = is_store a ⇒ (all k λ b. (store_for a b && (some n λ p. known p a b)) ⇒ written a b)

-- i stores in write order, of address x
abbrev pub writes_in : (writes : List ℕ) (x i : ℕ) → List ℕ
writes_in writes x i = table 0 i (λ j. get_or writes (x * most_events + j) 0)

-- store a stands before store b in the write order of a's address
abbrev pub written_in : (k stores : ℕ) (partners addresses writes : List ℕ) → ℕ → ℕ → Bool
written_in k stores partners addresses writes a b = first a b (writes_in writes (get_or addresses a 0) (count k (store_in stores partners a)))
