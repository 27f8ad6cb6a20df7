-- `trace_reader::read_body` meets its contract. Assumes nothing.
use Rattle.std.proofs.lemmas.Result.{err_from_is_err_and}
use Rattle.trace_reader.proofs.Whole.{no_steps, whole_struct}
use Rattle.trace_reader.proofs.read_body.Goals as goal

pub read_listing-requires-clause-steps : goal.read_listing-requires-clause-steps
read_listing-requires-clause-steps c =
    no_steps

pub returns-in_err-steps : goal.returns-in_err-steps
returns-in_err-steps c =
    let p = err_from_is_err_and c.from_residual.result c.from_residual.ensures.1 in
    rw (p.1, p.2) (c.in_err-steps.ensures)

pub returns : goal.returns
returns c =
    whole_struct _ _ _ _ _ _ _ c.in_ok-steps.ensures
