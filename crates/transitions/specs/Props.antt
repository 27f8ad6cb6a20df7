-- That a struct holds a good state has one proof: what a struct needs of a fact that it carries.
-- Assumes nothing.
use Rattle.std.proofs.Props as below
use Rattle.std.specs.Prelude.{List, [], ◌∷◌}
use Rattle.std.specs.Coded.{×_prop, Unit-prop, Coded-set}
use Rattle.finite.specs.Lists.{All}
use Rattle.storage.specs.declared.Storage.{Storage as Held}
use Rattle.storage.specs.contracts.Storage as storage

pub All-prop : {A : Type 0} (P : A → Type 0) → ((a : A) → IsProp (P a)) → (as' : List A) → IsProp (All P as')
All-prop P h [] = Unit-prop
All-prop P h (a ∷ as') = ×_prop (h a) (All-prop P h as')

pub Held-set : IsSet Held
Held-set = Coded-set storage.the_row.coded

pub ruleset props = (All-prop, Held-set, below.props)
