use lib.ListN.{get_or, replicate}
use Rattle.model.specs.Limits.{most_events}
use Rattle.permutation.specs.Permutation.{image}
use Rattle.relabel.proofs.Fill.{Filling}
use Rattle.relabel.proofs.threads.Given as goal

abbrev pub invariant-loop-e : goal.invariant-loop-e
invariant-loop-e l = Filling (λ x. image l.q (get_or l.c.thread x 0)) l.c.events (replicate most_events 0) l.out l.e
