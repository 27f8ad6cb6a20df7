-- `writer::put_orders` meets its contract. Assumes nothing.
use Prim.Native.Nat.{◌*◌}
use Rattle.writer.specs.Stages.{run, order_at, most_order}
use Rattle.writer.proofs.put_orders.Given as goal

abbrev pub invariant-loop-p : goal.invariant-loop-p
invariant-loop-p g l = g.S.Sink.took l.initial.sink (l.p * most_order) (run (order_at l.c.rows l.c.events) l.p) l.sink
