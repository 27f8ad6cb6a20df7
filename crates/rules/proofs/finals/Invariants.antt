-- `rules::finals` meets its contract. Assumes nothing.
use Rattle.model.specs.Limits.{most_addresses}
use Rattle.model.specs.Rules.{final}
use Rattle.case.specs.Held.{case_of}
use Rattle.rules.proofs.Last.{FilledBy}
use Rattle.rules.proofs.finals.Given as goal

abbrev pub invariant-loop-x : goal.invariant-loop-x
invariant-loop-x l = FilledBy most_addresses (final (case_of l.c)) l.x l.out
