-- `by_columns::Barriers::ordered_before` meets its contract. Assumes nothing.
use mathlib.Core.Path.{sym, ◌∙◌}
use Rattle.by_columns.proofs.Laws.{all-ordered, none-ordered, light_ordered}
use Rattle.by_columns.proofs.Barriers.ordered_before.Goals as goal

pub returns-then-has : goal.returns-then-has
returns-then-has c =
    all-ordered c.args.set c.args.self.now.barriers c.args.self.now.syncs c.args.self.now.stores c.args.self.now.loads c.args.f c.args.g (sym c.has.ensures ∙ c.if-has.true)

pub returns-then-has-2 : goal.returns-then-has-2
returns-then-has-2 c =
    none-ordered c.args.set c.args.self.now.barriers c.args.self.now.syncs c.args.self.now.stores c.args.self.now.loads c.args.f c.args.g (sym c.has.ensures ∙ c.if-has.false) (sym c.has-2.ensures ∙ c.if-has-2.true)

pub returns : goal.returns
returns c =
    light_ordered c.args.set c.args.self.now.barriers c.args.self.now.syncs c.args.self.now.stores c.args.self.now.loads c.args.f c.args.g (sym c.has.ensures ∙ c.if-has.false) (sym c.has-2.ensures ∙ c.if-has-2.false) c.has-3.ensures c.where_so.ensures c.minus.ensures
