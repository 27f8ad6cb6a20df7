-- `transitions::State::accept_barrier` meets its contract. Assumes nothing.
use mathlib.Core.Path.{ap, ◌∙◌}
use borrow.Author.Rules.{rules}
use Rattle.storage_model.specs.Subsystem.{with_event}
use Rattle.storage.specs.Held.{held, state_of, event_of}
use Rattle.storage.proofs.Means.{writes-few}
use Rattle.transitions.proofs.Effects.{barrier-held}
use Rattle.transitions.proofs.Room.{room_new}
use Rattle.transitions.proofs.State.accept_barrier.Goals as goal

pub append-out-requires-clause-t_bound : goal.append-out-requires-clause-t_bound
append-out-requires-clause-t_bound c =
    let few = writes-few _ c.args.self.now.good in
    let room = room_new _ c.args.self.now.good _ c.requires.1 (search (rules, few)) in
    search (rules, room)

pub returns : goal.returns
returns c =
    barrier-held _ c.args.self.now.good _ _ _ _
    (c.append-out.ensures ∙ ap (λ x. held (with_event (state_of c.args.self.now.storage.now) c.args.t (event_of x))) c.barrier_entry.ensures)
    c.requires.0 c.awaits.ensures
