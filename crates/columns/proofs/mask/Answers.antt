-- `columns::mask` meets its contract. Assumes nothing.
use Rattle.finite.specs.Lists.{table}
use Rattle.columns.proofs.Masks.{masks, masks_right}
use Rattle.columns.proofs.mask.Goals as goal

pub returns : goal.returns
unfolding masks table
returns c =
    masks_right c.args.s c.requires
