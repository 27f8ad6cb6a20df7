use Rattle.reader.proofs.Whole.{part_in, part-name}
use borrow.Author.Rules.{rules}
use Rattle.reader.proofs.name.Goals as goal

pub overflow_add-end : goal.overflow_add-end
overflow_add-end c =
    search (rules, part_in _ _ c.name_part-part.ensures)

pub slice_bounds-result-end : goal.slice_bounds-result-end
slice_bounds-result-end c =
    search part_in

pub returns : goal.returns
returns c =
    search part-name
