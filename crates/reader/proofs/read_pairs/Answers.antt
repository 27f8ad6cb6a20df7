use Rattle.reader.specs.Answers.{Stores}
use Rattle.reader.proofs.Filling.{exit}
use Rattle.reader.proofs.Orders.{begun, refusal, some-events, place-fits, place_in, bit_in, low_fits, low_in, row_in, one-run, all_read}
use Rattle.reader.proofs.read_pairs.Goals as goal

pub loop-left-init : goal.loop-left-init
loop-left-init c =
    search begun

pub read_next-requires : goal.read_next-requires
read_next-requires c =
    (some-events _ _ _ _ _ _ _ _ _ c.loop-left.invariant c.loop-left-test.true, c.loop-left.invariant.small)

pub returns-in_err-pair : goal.returns-in_err-pair
returns-in_err-pair c =
    exit (Stores _ _) _ _ c.from_residual.ensures (refusal _ _ _ _ _ _ _ _ _ c.loop-left.invariant c.loop-left-test.true _ _ c.in_err-pair.ensures)

pub offset_bounds-rows-pair : goal.offset_bounds-rows-pair
offset_bounds-rows-pair c =
    place-fits _ _ _ _ _ _ _ _ _ c.loop-left.invariant c.loop-left-test.true _ _ c.in_ok-pair.ensures

pub bounds-rows-pair : goal.bounds-rows-pair
bounds-rows-pair c =
    place_in _ _ _ _ _ _ _ _ _ c.loop-left.invariant c.loop-left-test.true _ _ c.in_ok-pair.ensures

pub with-requires : goal.with-requires
with-requires c =
    bit_in _ _ _ _ _ _ _ _ _ c.loop-left.invariant c.loop-left-test.true _ _ c.in_ok-pair.ensures

pub overflow_add-start : goal.overflow_add-start
overflow_add-start c =
    low_fits _ _ _ _ _ _ _ _ _ c.loop-left.invariant c.loop-left-test.true _ _ c.in_ok-pair.ensures

pub take_run-run-requires-clause-a_lt_k : goal.take_run-run-requires-clause-a_lt_k
take_run-run-requires-clause-a_lt_k c =
    (row_in _ _ _ _ _ _ _ _ _ c.loop-left.invariant c.loop-left-test.true _ _ c.in_ok-pair.ensures, c.loop-left.invariant.small)

pub take_run-run-requires-clause-low_le_k : goal.take_run-run-requires-clause-low_le_k
take_run-run-requires-clause-low_le_k c =
    low_in _ _ _ _ _ _ _ _ _ c.loop-left.invariant c.loop-left-test.true _ _ c.in_ok-pair.ensures

pub loop-left-preserved : goal.loop-left-preserved
loop-left-preserved c =
    one-run _ _ _ _ _ _ _ _ _ c.loop-left.invariant c.loop-left-test.true _ _ c.in_ok-pair.ensures _ _ _ _ _ c.take_run-run.ensures c.with.ensures

pub returns : goal.returns
returns c =
    all_read _ _ _ _ _ _ _ _ _ c.loop-left.invariant c.loop-left-test.false
