use mathlib.Core.Bool.{cond}
use lib.ListN.{get_or, replicate}
use Rattle.model.specs.Limits.{most_events}
use Rattle.model.specs.Case.{bare}
use Rattle.relabel.proofs.Fill.{Filling}
use Rattle.relabel.proofs.values.Given as goal

abbrev pub invariant-loop-e : goal.invariant-loop-e
invariant-loop-e l = Filling (λ x. cond (bare (get_or l.c.kind x 0)) 0 (get_or l.c.value x 0)) l.c.events (replicate most_events 0) l.out l.e
