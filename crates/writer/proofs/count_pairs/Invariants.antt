-- `writer::count_pairs` meets its contract. Assumes nothing.
use Rattle.writer.proofs.Runs.{Summed}
use Rattle.writer.specs.Stages.{pairs_at}
use Rattle.writer.proofs.count_pairs.Given as goal

abbrev pub invariant-loop-a : goal.invariant-loop-a
invariant-loop-a l = Summed (pairs_at l.rows l.p l.k) l.k l.n l.a
