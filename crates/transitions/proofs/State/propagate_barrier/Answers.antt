-- `transitions::State::propagate_barrier` meets its contract. Assumes nothing.
use mathlib.Core.Path.{sym}
use Rattle.transitions.proofs.Taken.{took_barrier}
use Rattle.transitions.proofs.Room.{room-barrier}
use Rattle.transitions.proofs.State.propagate_barrier.Goals as goal

pub append-requires-clause-t_bound : goal.append-requires-clause-t_bound
append-requires-clause-t_bound c =
    room-barrier _ c.args.self.now.good _ c.requires.t_lt_threads _ c.requires.b_lt_barriers (sym c.in_ok-check_propagate_barrier.ensures)

pub returns : goal.returns
returns c =
    took_barrier _ _ _ c.in_ok-check_propagate_barrier.ensures c.barrier_entry.ensures c.append.ensures
