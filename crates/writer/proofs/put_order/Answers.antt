-- `writer::put_order` meets its contract. Assumes nothing.
use native.Mathlib.Omega.{arith}
use Rattle.writer.proofs.Taken.{may_same, took_same, may_first, may_then, took_both}
use Rattle.writer.proofs.Runs.{order_parts}
use Rattle.writer.proofs.put_order.Goals as goal

pub number-requires : goal.number-requires
number-requires g c =
    may_first g.met.S.Sink.laws _ _ (may_same g.met.S.Sink.laws (order_parts _ _ _ _ c.count_pairs-n.ensures.0) c.requires.may) (omega arith)

pub put_rows-requires-clause-may : goal.put_rows-requires-clause-may
put_rows-requires-clause-may g c =
    may_then g.met.S.Sink.laws _ _ (may_same g.met.S.Sink.laws (order_parts _ _ _ _ c.count_pairs-n.ensures.0) c.requires.may) c.number.ensures (omega arith)

pub returns : goal.returns
returns g c =
    took_same g.met.S.Sink.laws (order_parts _ _ _ _ c.count_pairs-n.ensures.0) (took_both g.met.S.Sink.laws _ _ (may_same g.met.S.Sink.laws (order_parts _ _ _ _ c.count_pairs-n.ensures.0) c.requires.may) c.number.ensures c.put_rows.ensures (omega arith))
