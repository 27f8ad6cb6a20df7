-- `writer::put_links` meets its contract. Assumes nothing.
use Prim.Native.Nat.{◌*◌}
use Rattle.writer.specs.Stages.{run, link_at, most_three}
use Rattle.writer.proofs.put_links.Given as goal

abbrev pub invariant-loop-j : goal.invariant-loop-j
invariant-loop-j g l = g.S.Sink.took l.initial.sink (l.j * most_three) (run (link_at l.c.class l.c.from l.c.to) l.j) l.sink
