-- `rules::last_value` meets its contract. Assumes nothing.
use Prim.Native.Nat.{◌+◌, ◌-◌, ◌*◌}
use native.Mathlib.Omega.{arith}
use mathlib.Core.Path.{◌∙◌}
use lib.Dec.{eqb}
use lib.ListN.{get_or}
use borrow.Author.Tests.{eq-eqb, ne_eqb}
use Rattle.rules.specs.Finals.{value_in}
use Rattle.rules.proofs.Last.{cond_yes, cond_no, pred_lt}
use Rattle.model.specs.Limits.{most_events}
use Rattle.rules.proofs.last_value.Goals as goal

pub value_at-requires : goal.value_at-requires
value_at-requires c =
    let e = c.requires.by_index (c.args.i - 1) (pred_lt c.args.i c.if-i-eq0.false) in
    omega (arith, c.from-e.ensures)

pub returns-then-i-eq0 : goal.returns-then-i-eq0
returns-then-i-eq0 c =
    cond_yes (eqb c.args.i 0) (get_or c.args.c.now.initial c.args.x 0) (value_in c.args.c.now.kind c.args.c.now.value (get_or c.args.c.now.writes (c.args.x * most_events + (c.args.i - 1)) 0)) (eq-eqb _ _ c.if-i-eq0.true)

pub returns-else-i-eq0 : goal.returns-else-i-eq0
returns-else-i-eq0 c =
    (rw c.from-e.ensures at c.value_at.ensures) ∙ cond_no (eqb c.args.i 0) (get_or c.args.c.now.initial c.args.x 0) (value_in c.args.c.now.kind c.args.c.now.value (get_or c.args.c.now.writes (c.args.x * most_events + (c.args.i - 1)) 0)) (ne_eqb _ _ c.if-i-eq0.false)
