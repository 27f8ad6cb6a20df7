use Rattle.reader.proofs.Names.{Naming}
use Rattle.reader.proofs.read_name.Given as goal

abbrev pub invariant-loop-j : goal.invariant-loop-j
invariant-loop-j l = Naming l.bytes l.at l.i l.name l.j
