-- `writer::put_row` meets its contract. Assumes nothing.
use Prim.Native.Nat.{◌+◌, ◌*◌}
use lib.ListN.{get_or}
use Rattle.model.specs.Limits.{most_events}
use Rattle.writer.specs.Stages.{most_two}
use Rattle.writer.proofs.Pairs.{Paired}
use Rattle.writer.proofs.put_row.Given as goal

abbrev pub invariant-loop-b : goal.invariant-loop-b
invariant-loop-b g l = Paired g.S.Sink.took (get_or l.c.rows (l.p * most_events + l.a) 0) l.a l.c.events most_two l.b-iterator l.initial.sink l.sink
