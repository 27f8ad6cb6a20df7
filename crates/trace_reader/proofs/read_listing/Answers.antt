-- `trace_reader::read_listing` meets its contract. Assumes nothing.
use Rattle.std.proofs.lemmas.Result.{err_from_is_err_and}
use Rattle.reader.proofs.Fields.{up_to_most}
use Rattle.trace_reader.proofs.Whole.{no_initials, no_count, no_steps_read, whole-listing}
use Rattle.trace_reader.proofs.read_listing.Goals as goal

pub returns-in_err-after_initials : goal.returns-in_err-after_initials
returns-in_err-after_initials c =
    let p = err_from_is_err_and c.from_residual.result c.from_residual.ensures.1 in
    rw (p.1, p.2) (no_initials _ _ _ _ _ _ c.in_err-after_initials.ensures)

pub returns-in_err-count : goal.returns-in_err-count
returns-in_err-count c =
    let p = err_from_is_err_and c.from_residual-in_err-count.result c.from_residual-in_err-count.ensures.1 in
    rw (p.1, p.2) (no_count _ _ _ _ _ _ c.in_ok-after_initials.ensures _ _ c.in_err-count.ensures)

pub read_steps-requires-clause-count_le_most_steps : goal.read_steps-requires-clause-count_le_most_steps
read_steps-requires-clause-count_le_most_steps c =
    up_to_most _ _ _ _ _ c.in_ok-count.ensures

pub returns-in_err-end : goal.returns-in_err-end
returns-in_err-end c =
    let p = err_from_is_err_and c.from_residual-in_err-end.result c.from_residual-in_err-end.ensures.1 in
    rw (p.1, p.2) (no_steps_read _ _ _ _ _ _ c.in_ok-after_initials.ensures _ _ c.in_ok-count.ensures _ _ c.in_err-end.ensures)

pub returns : goal.returns
returns c =
    whole-listing _ _ _ _ _ _ c.in_ok-after_initials.ensures _ _ c.in_ok-count.ensures _ _ _ _ _ c.in_ok-end.ensures
