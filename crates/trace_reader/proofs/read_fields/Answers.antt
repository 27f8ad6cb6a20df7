-- `trace_reader::read_fields` meets its contract. Assumes nothing.
use Rattle.trace_reader.proofs.OneStep.{under-byte, exact-first}
use Rattle.trace_reader.proofs.read_fields.Goals as goal

pub overflow_cast-first : goal.overflow_cast-first
overflow_cast-first c =
    under-byte _ _ _ _ _ c.in_ok-first.ensures c.requires.0

pub returns-in-Acknowledge-clause-exact : goal.returns-in-Acknowledge-clause-exact
returns-in-Acknowledge-clause-exact c =
    exact-first _ _ c.in-Acknowledge.is
