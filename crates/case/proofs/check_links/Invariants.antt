-- `case::check_links` meets its contract. Assumes nothing.
use Rattle.case.specs.Held.{good_at}
use Rattle.case.proofs.Links.{Linking}
use Rattle.case.proofs.check_links.Given as goal

abbrev pub invariant-loop-i : goal.invariant-loop-i
invariant-loop-i l = Linking l.c.events (good_at l.c.events l.c.kind l.c.thread) l.c.class l.c.from l.c.to l.count l.least l.i
