use Rattle.model.specs.Limits.{most_addresses}
use Rattle.permutation.specs.Permutation.{image, inverse}
use Rattle.case.specs.Stores.{writes_at}
use Rattle.relabel.proofs.Rows.{Tabling}
use Rattle.relabel.proofs.write_orders.Given as goal

abbrev pub invariant-loop-y : goal.invariant-loop-y
invariant-loop-y l = Tabling (λ x. writes_at l.c.kind l.c.address l.c.writes l.c.events (image (inverse l.r) x)) l.c.addresses most_addresses l.out l.y
