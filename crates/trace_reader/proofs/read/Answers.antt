-- `trace_reader::read` meets its contract. Assumes nothing.
use Rattle.std.proofs.lemmas.Result.{err_from_is_err_and}
use Rattle.trace_reader.proofs.Whole.{no_threads, no_addresses, counts_read, whole-trace}
use Rattle.trace_reader.proofs.read.Goals as goal

pub returns-in_err-threads : goal.returns-in_err-threads
returns-in_err-threads c =
    let p = err_from_is_err_and c.from_residual.result c.from_residual.ensures.1 in
    rw (p.1, p.2) (no_threads _ _ _ c.in_err-threads.ensures)

pub returns-in_err-addresses : goal.returns-in_err-addresses
returns-in_err-addresses c =
    let p = err_from_is_err_and c.from_residual-in_err-addresses.result c.from_residual-in_err-addresses.ensures.1 in
    rw (p.1, p.2) (no_addresses _ _ _ c.in_ok-threads.ensures _ _ c.in_err-addresses.ensures)

pub invariant_of-head : goal.invariant_of-head
invariant_of-head c =
    record { in_range = counts_read _ _ _ c.in_ok-threads.ensures _ _ c.in_ok-addresses.ensures }

pub returns : goal.returns
returns c =
    whole-trace _ _ _ c.in_ok-threads.ensures _ _ c.in_ok-addresses.ensures _ c.read_body.ensures
