use mathlib.Core.Bool.{cond}
use lib.ListN.{get_or, replicate}
use Rattle.model.specs.Limits.{most_events}
use Rattle.model.specs.Case.{bare}
use Rattle.permutation.specs.Permutation.{image}
use Rattle.relabel.proofs.Fill.{Filling}
use Rattle.relabel.proofs.addresses.Given as goal

abbrev pub invariant-loop-e : goal.invariant-loop-e
invariant-loop-e l = Filling (λ x. cond (bare (get_or l.c.kind x 0)) 0 (image l.r (get_or l.c.address x 0))) l.c.events (replicate most_events 0) l.out l.e
