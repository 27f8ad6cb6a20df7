use native.Mathlib.Omega.{arith}
use Rattle.relabel.proofs.Fill.{begun-zeros, one_more, all_padded}
use Rattle.relabel.proofs.Steps.{pulled, pulled_below}
use Rattle.relabel.proofs.initials.Goals as goal

pub loop-y-init : goal.loop-y-init
loop-y-init c =
    search begun-zeros

pub offset_bounds-c-image : goal.offset_bounds-c-image
offset_bounds-c-image c =
    omega (arith, pulled_below _ _ _ c.image.ensures (omega arith))

pub bounds-c-image : goal.bounds-c-image
bounds-c-image c =
    omega (arith, pulled_below _ _ _ c.image.ensures (omega arith))

pub loop-y-preserved : goal.loop-y-preserved
loop-y-preserved c =
    search (one_more, pulled)

pub returns : goal.returns
returns c =
    search all_padded
