-- `by_columns::Accesses::behind_store` meets its contract. Assumes nothing.
use mathlib.Core.Bool.{◌&&◌}
use lib.ListN.{get_or}
use Rattle.rows.specs.Sets.{order_in}
use Rattle.rows.proofs.Each.{collect_first, event_below, event_of, collect_next, collect_end}
use Rattle.rows.proofs.SetLaws.{set_same}
use Rattle.values.specs.Parts.{thread_in}
use Rattle.by_columns.specs.Parts.{read_in}
use Rattle.by_columns.proofs.Laws.{not_read, some_here, of_loads}
use Rattle.by_columns.proofs.Accesses.behind_store.Goals as goal

pub loop-l-init : goal.loop-l-init
loop-l-init c =
    let o = c.args.self.now in
    collect_first c.into_iter-l-iterator.ensures.into_iter_gives c.members_below-l-items.ensures
    (not_read o.orders.n o.orders.k o.loads o.stores o.partners.now o.threads.now o.orders.rows.now c.args.s o.shared c.requires c.both-readers.ensures)

pub behind_load-found-requires-clause-l_lt_k : goal.behind_load-found-requires-clause-l_lt_k
behind_load-found-requires-clause-l_lt_k c =
    event_below c.loop-l.invariant.within c.in-Some.ensures.steps

pub behind_load-found-requires-clause-l_value : goal.behind_load-found-requires-clause-l_value
behind_load-found-requires-clause-l_value c =
    let o = c.args.self.now in
    of_loads o.loads (get_or o.partners.now c.args.s 0) _ c.both-readers.ensures (event_of c.loop-l.invariant.within c.in-Some.ensures.steps)

pub loop-l-preserved : goal.loop-l-preserved
loop-l-preserved c =
    collect_next c.loop-l.invariant c.in-Some.ensures.steps c.behind_load-found.ensures

pub returns : goal.returns
returns c =
    let o = c.args.self.now in
    set_same (collect_end c.loop-l.invariant c.in-None.ensures.steps)
    (λ g. some_here o.orders.k (λ l. read_in o.orders.k o.loads o.stores o.partners.now o.threads.now o.orders.rows.now l c.args.s && order_in o.orders.rows.now (thread_in o.threads.now l) l g))
