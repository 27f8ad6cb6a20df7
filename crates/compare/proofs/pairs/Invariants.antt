-- `compare::pairs` meets its contract. Assumes nothing.
use Rattle.compare.proofs.Agree.{Agree}
use Rattle.compare.proofs.Threads.{row_of}
use Rattle.compare.proofs.pairs.Given as goal

abbrev pub invariant-loop-a : goal.invariant-loop-a
invariant-loop-a l = Agree (row_of l.rows l.k l.p) (row_of l.rows l.k l.q) l.k l.a
