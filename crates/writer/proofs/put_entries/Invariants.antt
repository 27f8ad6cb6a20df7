-- `writer::put_entries` meets its contract. Assumes nothing.
use Prim.Native.Nat.{◌*◌}
use Rattle.writer.specs.Stages.{run, entry_at, most_number}
use Rattle.writer.proofs.put_entries.Given as goal

abbrev pub invariant-loop-e : goal.invariant-loop-e
invariant-loop-e g l = g.S.Sink.took l.initial.sink (l.e-index * most_number) (run (entry_at l.c.writes l.x) l.e-index) l.sink
