-- `trace_reader::read_second` meets its contract. Assumes nothing.
use mathlib.Core.Path.{refl}
use Rattle.trace_reader.proofs.OneStep.{under-byte, exact-fields}
use Rattle.trace_reader.proofs.read_second.Goals as goal

pub overflow_cast-second : goal.overflow_cast-second
overflow_cast-second c =
    under-byte _ _ _ _ _ c.in_ok-second.ensures c.requires.count_le_most_steps

pub returns-then-not-has_value-clause-exact : goal.returns-then-not-has_value-clause-exact
returns-then-not-has_value-clause-exact c =
    exact-fields _ _ _ _ c.requires.kind_lt_most_kind (λ _. refl)

pub returns-clause-exact : goal.returns-clause-exact
returns-clause-exact c =
    exact-fields _ _ _ _ c.requires.kind_lt_most_kind (λ e. cc (c.has_value.ensures, c.if-not-has_value.false, e))
