-- `trace_reader::read_trace` meets its contract. Assumes nothing.
use Rattle.trace_reader.proofs.Whole.{shown_read, shown_refused}
use Rattle.trace_reader.proofs.read_trace.Goals as goal

pub returns-in-Ok : goal.returns-in-Ok
returns-in-Ok c =
    shown_read _ _ c.in-Ok.ensures

pub returns-in-Err : goal.returns-in-Err
returns-in-Err c =
    shown_refused _ c.in-Err.ensures c.from.ensures c.empty.ensures
