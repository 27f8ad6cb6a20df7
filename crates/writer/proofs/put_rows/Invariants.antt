-- `writer::put_rows` meets its contract. Assumes nothing.
use Prim.Native.Nat.{◌*◌}
use Rattle.writer.specs.Stages.{run, row_at, most_row}
use Rattle.writer.proofs.put_rows.Given as goal

abbrev pub invariant-loop-a : goal.invariant-loop-a
invariant-loop-a g l = g.S.Sink.took l.initial.sink (l.a * most_row) (run (row_at l.c.rows l.p l.c.events) l.a) l.sink
