use Rattle.reader.specs.Answers.{Stores}
use Rattle.reader.proofs.Filling.{exit}
use native.Mathlib.Omega.{arith}
use Rattle.reader.proofs.Stores.{writing_begun, writing_all, writing_some, writing_place, writing_stop, writing_byte, writing_bit, writing_next}
use Rattle.reader.proofs.read_write_order.Goals as goal

pub loop-j-init : goal.loop-j-init
loop-j-init c =
    search writing_begun

pub read_store-requires : goal.read_store-requires
read_store-requires c =
    writing_some _ _ _ _ _ _ _ _ _ _ _ _ c.loop-j.invariant (omega arith)

pub returns-in_err-e : goal.returns-in_err-e
returns-in_err-e c =
    exit (Stores _ _) _ _ c.from_residual.ensures (writing_stop _ _ _ _ _ _ _ _ _ _ _ _ c.loop-j.invariant (omega arith) _ _ c.in_err-e.ensures)

pub overflow_cast-writes : goal.overflow_cast-writes
overflow_cast-writes c =
    writing_byte _ _ _ _ _ _ _ _ _ _ _ _ c.loop-j.invariant (omega arith) _ _ c.in_ok-e.ensures

pub bounds-writes-j : goal.bounds-writes-j
bounds-writes-j c =
    writing_place _ _ _ _ _ _ _ _ _ _ _ _ c.loop-j.invariant (omega arith)

pub with-before-requires : goal.with-before-requires
with-before-requires c =
    writing_bit _ _ _ _ _ _ _ _ _ _ _ _ c.loop-j.invariant (omega arith) _ _ c.in_ok-e.ensures

pub loop-j-preserved : goal.loop-j-preserved
loop-j-preserved c =
    writing_next _ _ _ _ _ _ _ _ _ _ _ _ c.loop-j.invariant (omega arith) _ _ c.in_ok-e.ensures _ c.with-before.ensures

pub returns : goal.returns
returns c =
    writing_all _ _ _ _ _ _ _ _ _ _ _ _ c.loop-j.invariant (omega arith)
