use Rattle.reader.proofs.Runs.{run_turn}
use Rattle.reader.proofs.take_run.Goals as goal

pub loop-missed-preserved : goal.loop-missed-preserved
loop-missed-preserved c =
    run_turn _ _ _ _ _ _ _ _ _ _ _ _ _ c.loop-missed.invariant _ c.goes_on.ensures c.loop-missed-test.true _ _ _ _ c.take_pairs-taken.ensures
