-- `transitions::State::propagate_write` meets its contract. Assumes nothing.
use mathlib.Core.Path.{sym}
use Rattle.transitions.proofs.Taken.{took_write}
use Rattle.transitions.proofs.Room.{room-write}
use Rattle.transitions.proofs.State.propagate_write.Goals as goal

pub append-requires-clause-t_bound : goal.append-requires-clause-t_bound
append-requires-clause-t_bound c =
    room-write _ c.args.self.now.good _ c.requires.t_lt_threads _ c.requires.w_lt_writes (sym c.in_ok-check_propagate_write.ensures)

pub returns : goal.returns
returns c =
    took_write _ c.args.self.now.good _ c.requires.w_lt_writes _ c.in_ok-check_propagate_write.ensures c.append.ensures
