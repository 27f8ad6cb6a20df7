use Rattle.condition_reader.proofs.Places.{number-unfit, number_fit}
use Rattle.condition_reader.proofs.number.Goals as goal

pub returns-then-unfit : goal.returns-then-unfit
returns-then-unfit c =
    rw c.at.ensures (number-unfit _ _ _ c.unfit.ensures c.if-unfit.true)

pub returns : goal.returns
returns c =
    number_fit _ _ _ c.unfit.ensures _ c.if-unfit.false c.value_of.ensures
