use Rattle.reader.proofs.Fields.{up_to_most}
use Rattle.reader.proofs.Links.{number_in}
use Rattle.reader.proofs.read_link.Goals as goal

pub follows-requires-clause-among : goal.follows-requires-clause-among
follows-requires-clause-among c =
    record {
      class = up_to_most _ _ _ _ _ c.in_ok-class.ensures;
      from = number_in _ _ _ _ _ c.in_ok-from.ensures;
      to = number_in _ _ _ _ _ c.in_ok-to.ensures;
    }
