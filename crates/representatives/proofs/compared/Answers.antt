-- `representatives::compared` meets its contract. Assumes nothing.
use borrow.Author.Rules.{rules}
use Rattle.representatives.proofs.Chosen.{record_within, first_missed, second_missed, chose_first, chose_second}
use Rattle.representatives.proofs.compared.Goals as goal

pub returns-in_default : goal.returns-in_default
returns-in_default c =
    first_missed _ _ c.in_default.field-0 c.in_default.ensures

pub returns-in_default-read_case : goal.returns-in_default-read_case
returns-in_default-read_case c =
    second_missed _ _ _ c.in-Ok.ensures c.in_default-read_case.field-0 c.in_default-read_case.ensures

pub slice_bounds-at_most-end : goal.slice_bounds-at_most-end
slice_bounds-at_most-end c =
    search (record_within, rules)

pub slice_bounds-at_most-end-2 : goal.slice_bounds-at_most-end-2
slice_bounds-at_most-end-2 c =
    search (record_within, rules)

pub returns-then-at_most : goal.returns-then-at_most
returns-then-at_most c =
    chose_first _ _ _ c.in-Ok.ensures _ c.in-Ok-read_case.ensures _ c.at_most.ensures c.if-at_most.true

pub returns-else-at_most : goal.returns-else-at_most
returns-else-at_most c =
    chose_second _ _ _ c.in-Ok.ensures _ c.in-Ok-read_case.ensures _ c.at_most.ensures c.if-at_most.false
