-- `writer::put_writes` meets its contract. Assumes nothing.
use Prim.Native.Nat.{◌*◌}
use Rattle.writer.specs.Stages.{run, writes_of, most_entries}
use Rattle.writer.proofs.put_writes.Given as goal

abbrev pub invariant-loop-x : goal.invariant-loop-x
invariant-loop-x g l = g.S.Sink.took l.initial.sink (l.x * most_entries) (run (writes_of l.c.kind l.c.address l.c.writes l.c.events) l.x) l.sink
