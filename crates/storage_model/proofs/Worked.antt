-- The worked traces come out as the papers say.
-- Assumes nothing.
use lib.Dec.{T}
use mathlib.Core.Path.{◌≡◌, refl}
use mathlib.Core.Bool.{true, false}
use mathlib.Core.List.{[], ◌∷◌}
use Rattle.finite.specs.Tests.{all, some}
use Rattle.finite.specs.Lists.{table, each, every}
use Rattle.number.specs.Number.{after, read_groups, finish, read_number, encode_by, encode}
use Rattle.number.specs.Reader.{unless, turns, times, up_to, within, below, under}
use Rattle.storage_model.specs.Trace.{accept_write, accept_barrier, propagate_write, propagate_barrier, commit, acknowledge, writes_in, barriers_in}
use Rattle.storage_model.specs.Relation.{relation, related, reached, closure, irreflexive, acyclic}
use Rattle.storage_model.specs.Subsystem.{accepted, write, barrier, same, member, precedes, writer, address, value, owner, class, events, arrived, coherent, group_a, separated, latest, write_is_new, write_is_after, barriers_went_before, barrier_is_new, group_a_went_before, committed, to_one_address, unrelated, responds_latest, acyclic_with, unacknowledged_sync, everywhere, enabled, failing, followed, effect, initial, run_from, run}
use Rattle.storage_model.specs.Layout.{accept_write_fields, accept_barrier_fields, propagate_write_fields, propagate_barrier_fields, commit_fields, respond_fields, acknowledge_fields, fields, room_for, step, listing, trace, read_trace}
use Rattle.storage_model.specs.Written.{step_bytes, trace_bytes}
use Rattle.storage_model.specs.Answers.{judge_trace}
use Rattle.storage_model.specs.Worked.{says, holds, simple_cases, coherence_cases, condition_cases, layout_cases, repeated, worked, traces}

pub worked-traces : T (worked traces)
unfolding all some table each every after read_groups finish read_number encode_by encode unless turns times up_to within below under
    writes_in barriers_in relation related reached closure irreflexive acyclic same member precedes writer address value owner class events
    arrived coherent group_a separated latest write_is_new write_is_after barriers_went_before barrier_is_new group_a_went_before committed to_one_address unrelated responds_latest
    acyclic_with unacknowledged_sync everywhere enabled failing followed effect initial run_from run accept_write_fields accept_barrier_fields
    propagate_write_fields propagate_barrier_fields commit_fields respond_fields acknowledge_fields fields room_for step listing trace read_trace step_bytes
    trace_bytes judge_trace says holds simple_cases coherence_cases condition_cases layout_cases repeated worked
worked-traces = tt

-- two writes by two threads, two syncs, a commitment and an acknowledgement: the whole end state
pub worked-end :
    run (record {
      n = 2;
      m = 1;
      initials = 5 ∷ [];
      steps =
          accept_write 0 0 1 ∷ accept_barrier 0 0 ∷ accept_write 1 0 2 ∷ commit 1 0 ∷ propagate_write 0 1 ∷ propagate_barrier 0 1
          ∷ acknowledge 0 ∷ accept_barrier 1 0 ∷ [];
    })
    ≡ accepted (record {
      threads = 2;
      initials = 5 ∷ [];
      writes = record { thread = 0; address = 0; value = 1 } ∷ record { thread = 1; address = 0; value = 2 } ∷ [];
      coherence = (false ∷ false ∷ []) ∷ (true ∷ false ∷ []) ∷ [];
      barriers = record { thread = 0; class = 0 } ∷ record { thread = 1; class = 0 } ∷ [];
      propagated = (write 0 ∷ barrier 0 ∷ []) ∷ (write 1 ∷ write 0 ∷ barrier 0 ∷ barrier 1 ∷ []) ∷ [];
      unacknowledged = false ∷ true ∷ [];
    })
unfolding all some table relation related reached closure irreflexive acyclic same member precedes writer address value owner class events
    arrived coherent group_a separated latest write_is_new write_is_after barriers_went_before barrier_is_new group_a_went_before committed to_one_address unrelated responds_latest
    acyclic_with unacknowledged_sync everywhere enabled failing followed effect initial run_from run
worked-end = refl
