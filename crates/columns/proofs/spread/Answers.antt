-- `columns::spread` meets its contract. Assumes nothing.
use Rattle.columns.proofs.Digits.{row_fits}
use Rattle.columns.proofs.spread.Goals as goal

pub returns : goal.returns
returns c =
    row_fits _ _ _ c.requires.s_lt_digits c.requires.s_value c.requires.t_bound
