-- `traces::step` meets its contract. Assumes nothing.
use Rattle.traces.proofs.ByKind.{is_write, is_barrier, is_propagate_write, is_propagate_barrier, is_commit, is_respond, is_acknowledge, fits_as, took_as, took_write, took_barrier}
use Rattle.traces.proofs.step.Goals as goal

pub accept_write-requires : goal.accept_write-requires
accept_write-requires c =
    fits_as c.requires (is_write c.args.step.value c.from-x.ensures c.from-y.ensures c.in-AcceptWrite.is)

pub accept_barrier-requires : goal.accept_barrier-requires
accept_barrier-requires c =
    fits_as c.requires (is_barrier c.args.step.value c.from-x.ensures c.from-y.ensures c.in-AcceptBarrier.is)

pub propagate_write-requires-clause-w_lt_writes : goal.propagate_write-requires-clause-w_lt_writes
propagate_write-requires-clause-w_lt_writes c =
    (fits_as c.requires (is_propagate_write c.args.step.value c.from-x.ensures c.from-y.ensures c.in-PropagateWrite.is)).0

pub propagate_write-requires-clause-t_lt_threads : goal.propagate_write-requires-clause-t_lt_threads
propagate_write-requires-clause-t_lt_threads c =
    (fits_as c.requires (is_propagate_write c.args.step.value c.from-x.ensures c.from-y.ensures c.in-PropagateWrite.is)).1

pub propagate_barrier-requires-clause-b_lt_barriers : goal.propagate_barrier-requires-clause-b_lt_barriers
propagate_barrier-requires-clause-b_lt_barriers c =
    (fits_as c.requires (is_propagate_barrier c.args.step.value c.from-x.ensures c.from-y.ensures c.in-PropagateBarrier.is)).0

pub propagate_barrier-requires-clause-t_lt_threads : goal.propagate_barrier-requires-clause-t_lt_threads
propagate_barrier-requires-clause-t_lt_threads c =
    (fits_as c.requires (is_propagate_barrier c.args.step.value c.from-x.ensures c.from-y.ensures c.in-PropagateBarrier.is)).1

pub commit-requires-clause-x_lt_writes : goal.commit-requires-clause-x_lt_writes
commit-requires-clause-x_lt_writes c =
    (fits_as c.requires (is_commit c.args.step.value c.from-x.ensures c.from-y.ensures c.in-Commit.is)).0

pub commit-requires-clause-y_lt_writes : goal.commit-requires-clause-y_lt_writes
commit-requires-clause-y_lt_writes c =
    (fits_as c.requires (is_commit c.args.step.value c.from-x.ensures c.from-y.ensures c.in-Commit.is)).1

pub respond-requires-clause-t_lt_threads : goal.respond-requires-clause-t_lt_threads
respond-requires-clause-t_lt_threads c =
    (fits_as c.requires (is_respond c.args.step.value c.from-x.ensures c.from-y.ensures c.in-Respond.is)).0

pub respond-requires-clause-a_lt_addresses : goal.respond-requires-clause-a_lt_addresses
respond-requires-clause-a_lt_addresses c =
    (fits_as c.requires (is_respond c.args.step.value c.from-x.ensures c.from-y.ensures c.in-Respond.is)).1

pub acknowledge-requires : goal.acknowledge-requires
acknowledge-requires c =
    fits_as c.requires (is_acknowledge _ _ c.from-x.ensures c.in-Acknowledge.is)

pub returns-in-AcceptWrite : goal.returns-in-AcceptWrite
returns-in-AcceptWrite c =
    took_write (is_write c.args.step.value c.from-x.ensures c.from-y.ensures c.in-AcceptWrite.is) c.accept_write.ensures

pub returns-in-AcceptBarrier : goal.returns-in-AcceptBarrier
returns-in-AcceptBarrier c =
    took_barrier (is_barrier c.args.step.value c.from-x.ensures c.from-y.ensures c.in-AcceptBarrier.is) c.accept_barrier.ensures

pub returns-in-PropagateWrite : goal.returns-in-PropagateWrite
returns-in-PropagateWrite c =
    took_as (is_propagate_write c.args.step.value c.from-x.ensures c.from-y.ensures c.in-PropagateWrite.is) c.propagate_write.ensures

pub returns-in-PropagateBarrier : goal.returns-in-PropagateBarrier
returns-in-PropagateBarrier c =
    took_as (is_propagate_barrier c.args.step.value c.from-x.ensures c.from-y.ensures c.in-PropagateBarrier.is) c.propagate_barrier.ensures

pub returns-in-Commit : goal.returns-in-Commit
returns-in-Commit c =
    took_as (is_commit c.args.step.value c.from-x.ensures c.from-y.ensures c.in-Commit.is) c.commit.ensures

pub returns-in-Respond : goal.returns-in-Respond
returns-in-Respond c =
    took_as (is_respond c.args.step.value c.from-x.ensures c.from-y.ensures c.in-Respond.is) c.respond.ensures

pub returns-in-Acknowledge : goal.returns-in-Acknowledge
returns-in-Acknowledge c =
    took_as (is_acknowledge _ _ c.from-x.ensures c.in-Acknowledge.is) c.acknowledge.ensures
