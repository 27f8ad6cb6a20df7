-- `writer::put_initials` meets its contract. Assumes nothing.
use Prim.Native.Nat.{◌*◌}
use Rattle.writer.specs.Stages.{run, initial_at, most_number}
use Rattle.writer.proofs.put_initials.Given as goal

abbrev pub invariant-loop-v : goal.invariant-loop-v
invariant-loop-v g l = g.S.Sink.took l.initial.sink (l.v-index * most_number) (run (initial_at l.c.initial) l.v-index) l.sink
