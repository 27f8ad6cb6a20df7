-- `by_columns::rule18` meets its contract. Assumes nothing.
use mathlib.Core.Path.{◌∙◌}
use Rattle.rows.specs.Sets.{order_in, set_in}
use Rattle.values.specs.Parts.{thread_in}
use Rattle.by_columns.specs.Parts.{applies_in, read_in}
use Rattle.by_columns.proofs.Laws.{by_behind}
use Rattle.by_columns.proofs.rule18.Goals as goal

pub returns : goal.returns
returns c =
    c.carried_on.ensures
    ∙ by_behind c.args.n c.args.k (set_in c.args.own.now) c.args.barriers c.args.stores (applies_in c.args.barriers c.args.syncs c.args.stores c.args.loads) (read_in c.args.k c.args.loads c.args.stores c.args.partners.now c.args.threads.now c.args.rows.now) (thread_in c.args.threads.now) (order_in c.args.rows.now) c.fenced.ensures c.both-set.ensures c.behind-behind.ensures
