-- `transitions::State::check_propagate_barrier` meets its contract. Assumes nothing.
use Rattle.transitions.proofs.Conditions.{barrier_there, barrier_goes, group_a-lacks}
use Rattle.transitions.proofs.State.check_propagate_barrier.Goals as goal

pub returns-then-has : goal.returns-then-has
returns-then-has c =
    barrier_there c.args.self.now.good _ c.barrier_entry.ensures c.arrived-here.ensures c.has.ensures c.if-has.true

pub returns-then-not-group_a_went_before : goal.returns-then-not-group_a_went_before
returns-then-not-group_a_went_before c =
    group_a-lacks c.args.self.now.good _ c.barrier_entry.ensures c.arrived-here.ensures c.has.ensures c.if-has.false c.group_a_went_before.ensures c.if-not-group_a_went_before.true

pub returns : goal.returns
returns c =
    barrier_goes c.args.self.now.good _ c.barrier_entry.ensures c.arrived-here.ensures c.has.ensures c.if-has.false c.group_a_went_before.ensures c.if-not-group_a_went_before.false
