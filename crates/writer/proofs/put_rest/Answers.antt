-- `writer::put_rest` meets its contract. Assumes nothing.
use native.Mathlib.Omega.{arith}
use Rattle.writer.proofs.Taken.{may_first, may_second, may_third, took_three}
use Rattle.writer.specs.Stages.{rest_bytes}
use Rattle.writer.proofs.put_rest.Goals as goal

pub put_writes-requires-clause-may : goal.put_writes-requires-clause-may
unfolding rest_bytes
put_writes-requires-clause-may g c =
    may_first g.met.S.Sink.laws _ _ c.requires.may (omega arith)

pub put_orders-requires-clause-may : goal.put_orders-requires-clause-may
unfolding rest_bytes
put_orders-requires-clause-may g c =
    may_second g.met.S.Sink.laws _ _ _ c.requires.may c.put_writes.ensures (omega arith)

pub put_name-requires-clause-may : goal.put_name-requires-clause-may
unfolding rest_bytes
put_name-requires-clause-may g c =
    may_third g.met.S.Sink.laws _ _ _ c.requires.may c.put_writes.ensures c.put_orders.ensures (omega arith)

pub returns : goal.returns
unfolding rest_bytes
returns g c =
    took_three g.met.S.Sink.laws _ _ _ c.requires.may c.put_writes.ensures c.put_orders.ensures c.put_name.ensures (omega arith)
