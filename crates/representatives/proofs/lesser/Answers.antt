-- `representatives::lesser` meets its contract. Assumes nothing.
use Rattle.representatives.proofs.Chosen.{first-within, second-within, first_is, second_is}
use Rattle.representatives.proofs.lesser.Goals as goal

pub slice_bounds-result-end : goal.slice_bounds-result-end
slice_bounds-result-end c =
    search first-within

pub slice_bounds-result-end-else-chosen-eq1 : goal.slice_bounds-result-end-else-chosen-eq1
slice_bounds-result-end-else-chosen-eq1 c =
    search second-within

pub returns-then-chosen-eq1 : goal.returns-then-chosen-eq1
returns-then-chosen-eq1 c =
    search first_is

pub returns-else-chosen-eq1 : goal.returns-else-chosen-eq1
returns-else-chosen-eq1 c =
    search second_is
