-- Sets of events as numbers, and orders as rows of sets.
-- Assumes nothing.
use Rattle.std.specs.Prelude.{ℕ, ◌+◌, ◌*◌, ◌<◌, ◌≡◌, Bool, not, ◌&&◌, ◌||◌, List, eqb, get_or}
use Rattle.finite.specs.Tests.{some}
use Rattle.bits.specs.Bit.{bit}
use Rattle.model.specs.Limits.{most_events}

-- r is the set of the numbers that pass f
pub record Set (r : ℕ) (f : ℕ → Bool) : Type 0 where
  pub has : (e : ℕ) → bit r e ≡ f e

-- the first n numbers of the list are the sets of the numbers that pass f. Those from n on are left open: n is how many threads or
-- events there are, and what stands beyond is looked at by nobody
pub record Sets (n : ℕ) (sets : List ℕ) (f : ℕ → ℕ → Bool) : Type 0 where
  pub has : (x : ℕ) → x < n → (e : ℕ) → bit (get_or sets x 0) e ≡ f x e

-- what stands at event a in p's rows
abbrev pub row_in : List ℕ → ℕ → ℕ → ℕ
row_in rows p a = get_or rows (p * most_events + a) 0

-- a comes before b in p's order
abbrev pub order_in : List ℕ → ℕ → ℕ → ℕ → Bool
order_in rows p a b = bit (row_in rows p a) b

-- e is in the set at x
abbrev pub set_in : List ℕ → ℕ → ℕ → Bool
set_in sets x e = bit (get_or sets x 0) e

-- s is a store to the address of l
abbrev pub store_in : (stores : ℕ) (partners : List ℕ) → ℕ → ℕ → Bool
store_in stores partners l s = bit stores s && set_in partners l s

-- a light barrier orders e before g: neither is a barrier, and they are not a store before a load
abbrev pub light_in : (barriers stores loads : ℕ) → ℕ → ℕ → Bool
light_in barriers stores loads e g = not (bit barriers e) && not (bit barriers g) && not (bit stores e && bit loads g)

-- barrier f orders e before g: a sync any two events; a light one what light holds, by event e the set of what it orders
-- after e
abbrev pub applicable_in : (syncs : ℕ) (light : List ℕ) → ℕ → ℕ → ℕ → Bool
applicable_in syncs light f e g = bit syncs f || set_in light e g

-- of i dependencies, by the lists of the events that they go from and to, one goes from a to b
abbrev pub depends_in : (froms tos : List ℕ) → ℕ → ℕ → ℕ → Bool
depends_in froms tos i a b = some i λ j. eqb (get_or froms j 0) a && eqb (get_or tos j 0) b
