use Rattle.reader.proofs.Whole.{name_in_record, name-part_is}
use Rattle.reader.proofs.name_part.Goals as goal

pub overflow_sub-result : goal.overflow_sub-result
overflow_sub-result c =
    name_in_record _ _ c.in-Ok.ensures

pub returns-in-Ok : goal.returns-in-Ok
returns-in-Ok c =
    name-part_is _ _ c.in-Ok.ensures
