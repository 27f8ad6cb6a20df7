-- `case::Link::is_good` meets its contract. Assumes nothing.
use native.Mathlib.Omega.{arith}
use Rattle.std.proofs.lemmas.Bool.Decides.{nat_tests}
use Rattle.case.proofs.Links.{good_by}
use Rattle.case.proofs.Link.is_good.Goals.{then-self, else-self, then-kinds-self-eq-LOAD, else-kinds-self-eq-LOAD}
use Rattle.case.proofs.Link.is_good.Goals as goal

pub returns-then-owners-self : goal.returns-then-owners-self
returns-then-owners-self c =
    let s = c.args.self in
    rw (good_by c.args.k c.args.kinds.now c.args.owners.now s.class s.from s.to c.requires.among.from c.requires.among.to)
    (elim c.if-self.branch [ then-self w ↦ elim c.if-kinds-self-eq-LOAD.branch [ then-kinds-self-eq-LOAD v ↦ grind (arith, nat_tests) | else-kinds-self-eq-LOAD v ↦ grind (arith, nat_tests) ] | else-self w ↦ grind (arith, nat_tests) ])

pub returns-else-owners-self : goal.returns-else-owners-self
returns-else-owners-self c =
    let s = c.args.self in
    rw (good_by c.args.k c.args.kinds.now c.args.owners.now s.class s.from s.to c.requires.among.from c.requires.among.to)
    (elim c.if-self.branch [ then-self w ↦ elim c.if-kinds-self-eq-LOAD.branch [ then-kinds-self-eq-LOAD v ↦ grind (arith, nat_tests) | else-kinds-self-eq-LOAD v ↦ grind (arith, nat_tests) ] | else-self w ↦ grind (arith, nat_tests) ])
