-- `rules::fresh_loads` meets its contract. Assumes nothing.
use Rattle.rules.specs.Verdict.{fresh_in}
use Rattle.rows.proofs.Loops.{empty, joins, united}
use Rattle.rows.proofs.SetLaws.{set_same, some_only}
use Rattle.rules.proofs.fresh_loads.Goals as goal

pub loop-l-init : goal.loop-l-init
loop-l-init c =
    search empty

pub fresh_load-found-requires-clause-l_bound : goal.fresh_load-found-requires-clause-l_bound
fresh_load-found-requires-clause-l_bound c =
    c.requires.by_index c.loop-l.l c.loop-l-test.true

pub loop-l-preserved : goal.loop-l-preserved
loop-l-preserved c =
    joins c.loop-l.invariant c.loop-l-test.true c.fresh_load-found.ensures

pub returns : goal.returns
returns c =
    set_same (united c.loop-l.invariant c.loop-l-test.false) (some_only c.args.k (fresh_in c.args.loads c.args.values.now c.args.addresses.now c.args.initial.now))
