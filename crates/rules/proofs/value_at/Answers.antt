-- `rules::value_at` meets its contract. Assumes nothing.
use mathlib.Core.Path.{sym, ◌∙◌}
use lib.ListN.{get_or}
use Rattle.rules.proofs.Last.{cond_yes, cond_no}
use Rattle.model.specs.Case.{bare}
use Rattle.rules.proofs.value_at.Goals as goal

pub returns-then-bare : goal.returns-then-bare
returns-then-bare c =
    cond_yes (bare (get_or c.args.c.now.kind c.args.e 0)) 0 (get_or c.args.c.now.value c.args.e 0) (sym c.bare.ensures ∙ c.if-bare.true)

pub returns-else-bare : goal.returns-else-bare
returns-else-bare c =
    cond_no (bare (get_or c.args.c.now.kind c.args.e 0)) 0 (get_or c.args.c.now.value c.args.e 0) (sym c.bare.ensures ∙ c.if-bare.false)
