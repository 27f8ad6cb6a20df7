-- `writer::count_pairs` meets its contract. Assumes nothing.
use mathlib.Core.Path.{ap, ◌∙◌}
use Prim.Native.Nat.{ℕ}
use native.Mathlib.Omega.{arith}
use Rattle.finite.specs.Tests.{count}
use Rattle.bits.specs.Bit.{bit}
use Rattle.model.specs.Limits.{most_events}
use Rattle.finite.proofs.Tests.{count-le}
use Rattle.writer.proofs.Runs.{none_summed, one_summed, all_summed, sum_fits}
use Rattle.writer.specs.Stages.{pairs, pairs_at}
use Rattle.writer.proofs.count_pairs.Goals as goal

pub loop-a-init : goal.loop-a-init
unfolding pairs pairs_at
loop-a-init c =
    none_summed _ _

pub overflow_add-n : goal.overflow_add-n
unfolding pairs pairs_at
overflow_add-n c =
    sum_fits _ _ _ _ c.loop-a.invariant c.loop-a-test.true _ (c.size_below-n.ensures ∙ ap (λ (r : ℕ). count c.args.k (bit r)) c.row.ensures)
    (count-le _ _) most_events c.requires.1 (omega arith)

pub loop-a-preserved : goal.loop-a-preserved
unfolding pairs pairs_at
loop-a-preserved c =
    one_summed _ _ _ _ c.loop-a.invariant c.loop-a-test.true _ (c.size_below-n.ensures ∙ ap (λ (r : ℕ). count c.args.k (bit r)) c.row.ensures) (count-le _ _)

pub returns : goal.returns
unfolding pairs pairs_at
returns c =
    all_summed _ _ _ _ c.loop-a.invariant most_events c.requires.1 c.loop-a-test.false
