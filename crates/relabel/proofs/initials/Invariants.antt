use lib.ListN.{get_or, replicate}
use Rattle.model.specs.Limits.{most_addresses}
use Rattle.permutation.specs.Permutation.{image, inverse}
use Rattle.relabel.proofs.Fill.{Filling}
use Rattle.relabel.proofs.initials.Given as goal

abbrev pub invariant-loop-y : goal.invariant-loop-y
invariant-loop-y l = Filling (λ x. get_or l.c.initial (image (inverse l.r) x) 0) l.c.addresses (replicate most_addresses 0) l.out l.y
