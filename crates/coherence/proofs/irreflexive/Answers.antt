-- `coherence::irreflexive` meets its contract. Assumes nothing.
use Rattle.finite.proofs.Loops.{begun, ends}
use Rattle.coherence.proofs.Loops.{cycle, no_cycle}
use Rattle.coherence.proofs.irreflexive.Goals as goal

pub loop-a-init : goal.loop-a-init
loop-a-init c =
    begun

pub returns-then-has : goal.returns-then-has
returns-then-has c =
    cycle c.args.k c.loop-a.a c.args.before.now c.loop-a-test.true c.has.ensures c.if-has.true

pub loop-a-preserved : goal.loop-a-preserved
loop-a-preserved c =
    no_cycle c.args.before.now c.loop-a.invariant c.loop-a-test.true c.has.ensures c.if-has.false

pub returns : goal.returns
returns c =
    search ends
