-- `by_columns::Accesses::behind_store` meets its contract. Assumes nothing.
use mathlib.Core.Bool.{◌&&◌}
use lib.Dec.{ltb}
use Rattle.rows.specs.Sets.{order_in}
use Rattle.rows.proofs.Each.{Collected}
use Rattle.values.specs.Parts.{thread_in}
use Rattle.by_columns.specs.Parts.{read_in}
use Rattle.by_columns.proofs.Accesses.behind_store.Given as goal

abbrev pub invariant-loop-l : goal.invariant-loop-l
invariant-loop-l turn =
    let o = turn.self in
    Collected o.orders.k turn.readers (λ l g. ltb l o.orders.k && (read_in o.orders.k o.loads o.stores o.partners.now o.threads.now o.orders.rows.now l turn.s && order_in o.orders.rows.now (thread_in o.threads.now l) l g)) turn.l-iterator turn.found
