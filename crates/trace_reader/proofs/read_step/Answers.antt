-- `trace_reader::read_step` meets its contract. Assumes nothing.
use native.Mathlib.Omega.{arith}
use Rattle.std.proofs.lemmas.Result.{err_from_is_err_and}
use Rattle.trace_reader.proofs.OneStep.{no_kind, no_room, with_room, first_few, second_few}
use Rattle.trace_reader.proofs.read_step.Goals as goal

pub returns-in_err-kind-clause-same : goal.returns-in_err-kind-clause-same
returns-in_err-kind-clause-same c =
    let p = err_from_is_err_and c.from_residual.result c.from_residual.ensures.1 in
    rw (p.1, p.2) (no_kind _ _ _ _ _ _ _ _ c.in_err-kind.ensures)

pub returns-then-not-has_room-clause-same : goal.returns-then-not-has_room-clause-same
returns-then-not-has_room-clause-same c =
    rw c.at.ensures (no_room _ _ _ _ _ _ _ _ c.in_ok-kind.ensures c.has_room.ensures c.if-not-has_room.true)

pub read_fields-requires : goal.read_fields-requires
read_fields-requires c =
    let w = c.requires in (
      rw c.first_count-firsts.ensures (first_few _ _ _ _ _ (omega arith) (omega (arith, w)) (omega (arith, w))),
      rw c.second_count-seconds.ensures (second_few _ _ _ _ _ (omega arith) (omega arith) (omega (arith, w)) (omega arith)),
    )

pub returns-clause-same : goal.returns-clause-same
returns-clause-same c =
    with_room _ _ _ _ _ _ _ _ c.in_ok-kind.ensures c.has_room.ensures c.if-not-has_room.false c.args.head.in_range
    c.first_count-firsts.ensures c.second_count-seconds.ensures c.read_fields.ensures.same
