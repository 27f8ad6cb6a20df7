-- `traces::run` meets its contract. Assumes nothing.
use Rattle.traces.proofs.Turns.{Turn}
use Rattle.traces.proofs.run.Given as goal

abbrev pub invariant-loop-i : goal.invariant-loop-i
invariant-loop-i l = Turn l.trace l.i l.end
