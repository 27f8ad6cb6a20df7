-- `transitions::State::check_commit` meets its contract. Assumes nothing.
use Rattle.transitions.proofs.Commits.{two_addresses, related_already, makes_cycle, none-fails}
use Rattle.transitions.proofs.State.check_commit.Goals as goal

pub returns-then-c-x : goal.returns-then-c-x
returns-then-c-x c =
    two_addresses _ c.args.self.now.good _ _ c.requires.x_lt_writes c.requires.y_lt_writes c.if-c-x.true

pub returns-then-not-unrelated : goal.returns-then-not-unrelated
returns-then-not-unrelated c =
    related_already _ c.args.self.now.good _ _ c.requires.x_lt_writes c.requires.y_lt_writes c.if-c-x.false c.unrelated.ensures c.if-not-unrelated.true

pub returns-then-not-acyclic_with : goal.returns-then-not-acyclic_with
returns-then-not-acyclic_with c =
    makes_cycle _ c.args.self.now.good _ _ c.requires.x_lt_writes c.requires.y_lt_writes c.if-c-x.false c.unrelated.ensures c.if-not-unrelated.false
    c.acyclic_with.ensures c.if-not-acyclic_with.true

pub returns : goal.returns
returns c =
    none-fails _ c.args.self.now.good _ _ c.requires.x_lt_writes c.requires.y_lt_writes c.if-c-x.false c.unrelated.ensures c.if-not-unrelated.false
    c.acyclic_with.ensures c.if-not-acyclic_with.false
