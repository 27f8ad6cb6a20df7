-- `transitions::State::accept_write` meets its contract. Assumes nothing.
use borrow.Author.Rules.{rules}
use Rattle.storage.proofs.Means.{barriers-few}
use Rattle.transitions.proofs.Effects.{write-held}
use Rattle.transitions.proofs.Room.{room_new}
use Rattle.transitions.proofs.State.accept_write.Goals as goal

pub append-out-requires-clause-t_bound : goal.append-out-requires-clause-t_bound
append-out-requires-clause-t_bound c =
    let few = barriers-few _ c.args.self.now.good in
    let room = room_new _ c.args.self.now.good _ c.requires.1 (search (rules, few)) in
    search (rules, room)

pub returns : goal.returns
returns c =
    write-held _ c.args.self.now.good _ _ _ _ _ c.append-out.ensures c.requires.0 c.new_row-row.ensures
