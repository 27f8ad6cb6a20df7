-- An address's stores and its write order, by the arrays of a struct.
-- Assumes nothing.
use Rattle.std.specs.Prelude.{ℕ, ◌+◌, ◌*◌, Bool, ◌&&◌, List, eqb, get_or}
use Rattle.finite.specs.Tests.{count}
use Rattle.finite.specs.Lists.{table}
use Rattle.model.specs.Limits.{most_events}
use Rattle.model.specs.Case.{store}

-- event e is a store to x
unfoldable pub store_at : (kinds addresses : List ℕ) → (x e : ℕ) → Bool
store_at ks as' x e = eqb (get_or ks e 0) store && eqb (get_or as' e 0) x

-- the write order of x, where there are k events
unfoldable pub writes_at : (kinds addresses writes : List ℕ) → (k x : ℕ) → List ℕ
writes_at ks as' ws k x = table 0 (count k (store_at ks as' x)) (λ i. get_or ws (x * most_events + i) 0)
