-- `orders::in_write_order` meets its contract. Assumes nothing.
use Prim.Native.Nat.{◌+◌, ◌*◌}
use lib.ListN.{get_or}
use Rattle.model.specs.Limits.{most_events}
use Rattle.orders.proofs.Laws.{Walked}
use Rattle.orders.proofs.in_write_order.Given as goal

abbrev pub invariant-loop-store : goal.invariant-loop-store
invariant-loop-store l = Walked l.k l.set l.a l.count (λ j. get_or l.writes (l.x * most_events + j) 0) l.store-index
