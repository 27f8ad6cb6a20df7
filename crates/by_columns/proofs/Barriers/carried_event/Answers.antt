-- `by_columns::Barriers::carried_event` meets its contract. Assumes nothing.
use mathlib.Core.Path.{refl}
use Rattle.bits.specs.Bit.{bit}
use Rattle.by_columns.proofs.Laws.{carried_here}
use Rattle.by_columns.specs.Parts.{applies_in}
use Rattle.by_columns.proofs.Barriers.carried_event.Goals as goal

pub returns : goal.returns
returns c =
    carried_here (bit c.args.first) (bit c.args.then) (applies_in c.args.self.now.barriers c.args.self.now.syncs c.args.self.now.stores c.args.self.now.loads c.args.f) c.args.g c.args.self.now.everywhere c.requires.g_lt_k c.requires.g_value c.ordered_before-set.ensures refl c.inside_below.ensures
