-- `writer::put_events` meets its contract. Assumes nothing.
use Prim.Native.Nat.{◌*◌}
use Rattle.writer.specs.Stages.{run, event_at, most_event}
use Rattle.writer.proofs.put_events.Given as goal

abbrev pub invariant-loop-e : goal.invariant-loop-e
invariant-loop-e g l = g.S.Sink.took l.initial.sink (l.e * most_event) (run (event_at l.c.kind l.c.thread l.c.address l.c.value) l.e) l.sink
