use Rattle.model.specs.Limits.{most_threads}
use Rattle.permutation.specs.Permutation.{image, inverse}
use Rattle.relabel.specs.Orders.{order}
use Rattle.relabel.proofs.Rows.{Tabling}
use Rattle.relabel.proofs.orders.Given as goal

abbrev pub invariant-loop-p : goal.invariant-loop-p
invariant-loop-p l = Tabling (λ x. order l.c.events l.c.rows (image (inverse l.q) x)) l.c.threads most_threads l.out l.p
