use native.Mathlib.Omega.{arith}
use Rattle.reader.proofs.Runs.{second_there, second_fits, next_fits, some_left, fewer_left, one_taken}
use Rattle.reader.proofs.take_pairs.Goals as goal

pub overflow_add-run : goal.overflow_add-run
overflow_add-run c =
    second_fits _ _ _ _ _ _ _ _ _ _ c.loop-b.invariant _ c.follows.ensures c.loop-b-test.true

pub bounds-bytes-run : goal.bounds-bytes-run
bounds-bytes-run c =
    second_there _ _ _ _ _ _ _ _ _ _ c.loop-b.invariant _ c.follows.ensures c.loop-b-test.true

pub overflow_add-run-in-loop-b-2 : goal.overflow_add-run-in-loop-b-2
overflow_add-run-in-loop-b-2 c =
    next_fits _ _ _ _ _ _ _ _ _ _ c.loop-b.invariant _ c.follows.ensures c.loop-b-test.true

pub overflow_sub-run : goal.overflow_sub-run
overflow_sub-run c =
    some_left _ _ _ _ _ _ _ _ _ _ c.loop-b.invariant _ c.follows.ensures c.loop-b-test.true

pub loop-b-smaller : goal.loop-b-smaller
loop-b-smaller c =
    fewer_left _ _ _ _ _ _ _ _ _ _ c.loop-b.invariant _ c.follows.ensures c.loop-b-test.true

pub loop-b-preserved : goal.loop-b-preserved
loop-b-preserved c =
    one_taken _ _ _ _ _ _ _ _ _ _ c.loop-b.invariant _ c.follows.ensures c.loop-b-test.true _ _ (c.from-b.ensures, omega (arith, c.from-b.ensures)) c.with.ensures
