-- `trace_reader::read_steps` meets its contract. Assumes nothing.
use Rattle.trace_reader.proofs.AllSteps.{StepsFilled}
use Rattle.trace_reader.proofs.read_steps.Given as goal

abbrev pub invariant-loop-i : goal.invariant-loop-i
invariant-loop-i l = StepsFilled l.bytes l.at l.head.threads l.head.addresses l.count l.kinds l.firsts l.seconds l.values l.place l.writes l.barriers l.i
