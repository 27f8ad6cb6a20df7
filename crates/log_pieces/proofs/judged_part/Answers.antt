-- `log_pieces::judged_part` meets its contract. Assumes nothing.
use mathlib.Core.Path.{refl}
use mathlib.Core.Bool.{false}
use Rattle.log_pieces.specs.Shown.{run_of}
use Rattle.log_pieces.proofs.Parting.{parted_first, parted_on, parted_less, goes_not, part-judged}
use Rattle.log_pieces.proofs.judged_part.Goals as goal

pub loop-kept-init : goal.loop-kept-init
loop-kept-init c =
    parted_first _ _ _ refl

pub goes_on-requires : goal.goes_on-requires
goes_on-requires c =
    c.loop-kept.invariant.on.inside

pub judge_next-requires : goal.judge_next-requires
judge_next-requires c =
    c.loop-kept.invariant.on.inside

pub loop-kept-preserved : goal.loop-kept-preserved
loop-kept-preserved c =
    parted_on _ c.type_inv.bytes _ _ _ c.loop-kept.invariant _ _ c.goes_on.ensures c.loop-kept-test.true _ c.in-Ok.ensures

pub loop-kept-smaller : goal.loop-kept-smaller
loop-kept-smaller c =
    parted_less _ c.type_inv.bytes _ _ _ c.loop-kept.invariant _ _ c.goes_on.ensures c.loop-kept-test.true _ c.in-Ok.ensures

pub returns-in-Err : goal.returns-in-Err
returns-in-Err c =
    let P = parted_on _ c.type_inv.bytes _ _ _ c.loop-kept.invariant _ _ c.goes_on.ensures c.loop-kept-test.true _ c.in-Err.ensures in
    part-judged _ _ _ c.type_inv.bytes _ _ _ P false (goes_not _ _ _ refl) refl _ c.answered.ensures

pub returns : goal.returns
unfolding run_of
returns c =
    part-judged _ _ _ c.type_inv.bytes _ _ _ c.loop-kept.invariant _ c.goes_on.ensures c.loop-kept-test.false _ (rw c.at.ensures at c.answered-2.ensures)
