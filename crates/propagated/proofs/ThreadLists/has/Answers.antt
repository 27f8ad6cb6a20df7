-- `propagated::ThreadLists::has` meets its contract. Assumes nothing.
use mathlib.Core.Path.{◌∙◌}
use Rattle.propagated.proofs.ThreadLists.has.Goals as goal

pub returns : goal.returns
returns c =
    c.has.ensures ∙ c.arrived.ensures.has c.args.x
