-- `case::event_good` meets its contract. Assumes nothing.
use native.Mathlib.Omega.{arith}
use Rattle.std.proofs.lemmas.Bool.Decides.{nat_tests}
use Rattle.case.proofs.Faults.{event-good}
use Rattle.case.proofs.event_good.Goals.{then-kind-most_kind, else-kind-most_kind}
use Rattle.case.proofs.event_good.Goals as goal

pub returns-then-bare : goal.returns-then-bare
returns-then-bare c =
    rw event-good (elim c.if-kind-most_kind.branch [ then-kind-most_kind w ↦ grind (arith, nat_tests) | else-kind-most_kind w ↦ grind (arith, nat_tests) ])

pub returns-then-from-c-2 : goal.returns-then-from-c-2
returns-then-from-c-2 c =
    rw event-good (elim c.if-kind-most_kind.branch [ then-kind-most_kind w ↦ grind (arith, nat_tests) | else-kind-most_kind w ↦ grind (arith, nat_tests) ])

pub returns-else-from-c-2 : goal.returns-else-from-c-2
returns-else-from-c-2 c =
    rw event-good (elim c.if-kind-most_kind.branch [ then-kind-most_kind w ↦ grind (arith, nat_tests) | else-kind-most_kind w ↦ grind (arith, nat_tests) ])

pub returns-else-from-c : goal.returns-else-from-c
returns-else-from-c c =
    rw event-good (elim c.if-kind-most_kind.branch [ then-kind-most_kind w ↦ grind (arith, nat_tests) | else-kind-most_kind w ↦ grind (arith, nat_tests) ])
