-- `writer::put_three` meets its contract. Assumes nothing.
use native.Mathlib.Omega.{arith}
use Rattle.writer.proofs.Taken.{may_first, may_then, took_both}
use Rattle.writer.proofs.put_three.Goals as goal

pub number-requires : goal.number-requires
number-requires g c =
    may_first g.met.S.Sink.laws _ _ c.requires (omega arith)

pub put_two-requires : goal.put_two-requires
put_two-requires g c =
    may_then g.met.S.Sink.laws _ _ c.requires c.number.ensures (omega arith)

pub returns : goal.returns
returns g c =
    took_both g.met.S.Sink.laws _ _ c.requires c.number.ensures c.put_two.ensures (omega arith)
