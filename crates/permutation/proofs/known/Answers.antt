use Rattle.permutation.proofs.Laws.{known-below, known-none}
use native.Mathlib.Omega.{arith}
use Rattle.permutation.proofs.known.Goals as goal

pub returns-then-q-lt-PERMUTATIONS : goal.returns-then-q-lt-PERMUTATIONS
returns-then-q-lt-PERMUTATIONS c =
    (known-below _ c.if-q-lt-PERMUTATIONS.true, c.if-q-lt-PERMUTATIONS.true)

pub returns-else-q-lt-PERMUTATIONS : goal.returns-else-q-lt-PERMUTATIONS
returns-else-q-lt-PERMUTATIONS c =
    (known-none _ c.if-q-lt-PERMUTATIONS.false, omega arith)
