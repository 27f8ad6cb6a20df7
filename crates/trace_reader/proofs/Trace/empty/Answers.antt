use mathlib.Core.Path.{refl}
use Rattle.trace_reader.specs.Held.{empty_trace}
use Rattle.trace_reader.proofs.Trace.empty.Goals as goal

pub returns : goal.returns
unfolding empty_trace
returns c =
    refl
