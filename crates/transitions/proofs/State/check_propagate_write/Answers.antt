-- `transitions::State::check_propagate_write` meets its contract. Assumes nothing.
use Rattle.transitions.proofs.Conditions.{there_already, not_after, not_fenced, write_goes}
use Rattle.transitions.proofs.State.check_propagate_write.Goals as goal

pub returns-then-has : goal.returns-then-has
returns-then-has c =
    there_already c.args.self.now.good c.requires.w_lt_writes c.arrived-here.ensures c.has.ensures c.if-has.true

pub returns-then-not-write_is_after : goal.returns-then-not-write_is_after
returns-then-not-write_is_after c =
    not_after c.args.self.now.good c.requires.w_lt_writes c.arrived-here.ensures c.has.ensures c.if-has.false c.write_is_after.ensures c.if-not-write_is_after.true

pub returns-then-not-barriers_went_before : goal.returns-then-not-barriers_went_before
returns-then-not-barriers_went_before c =
    not_fenced c.args.self.now.good c.requires.w_lt_writes c.arrived-here.ensures c.has.ensures c.if-has.false c.write_is_after.ensures c.if-not-write_is_after.false
    c.barriers_went_before.ensures c.if-not-barriers_went_before.true

pub returns : goal.returns
returns c =
    write_goes c.args.self.now.good c.requires.w_lt_writes c.arrived-here.ensures c.has.ensures c.if-has.false c.write_is_after.ensures c.if-not-write_is_after.false
    c.barriers_went_before.ensures c.if-not-barriers_went_before.false
