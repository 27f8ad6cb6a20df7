-- `case::store_at` meets its contract. Assumes nothing.
use borrow.Author.Tests.{eq-eqb, ne_eqb}
use Rattle.case.specs.Stores.{store_at}
use Rattle.case.proofs.store_at.Goals as goal

pub returns-then-kinds-e-eq-STORE : goal.returns-then-kinds-e-eq-STORE
unfolding store_at
returns-then-kinds-e-eq-STORE c =
    rw (eq-eqb _ _ c.if-kinds-e-eq-STORE.true) (cc)

pub returns-else-kinds-e-eq-STORE : goal.returns-else-kinds-e-eq-STORE
unfolding store_at
returns-else-kinds-e-eq-STORE c =
    rw (ne_eqb _ _ c.if-kinds-e-eq-STORE.false)
