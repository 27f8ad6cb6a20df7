-- `columns::swap` meets its contract. Assumes nothing.
use Rattle.columns.proofs.Exchange.{exchanged}
use Rattle.columns.proofs.swap.Goals as goal

pub returns : goal.returns
returns c =
    exchanged _ _ _ _ _ _ c.requires.s_lt_digits c.requires.t_bound c.requires.part_len c.requires.mask c.spread-i.ensures.0 c.place-j.ensures
