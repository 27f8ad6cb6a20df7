-- `rules::sharing` meets its contract. Assumes nothing.
use Rattle.rules.proofs.Same.{shares}
use Rattle.rules.proofs.sharing.Goals as goal

pub returns : goal.returns
returns c =
    shares c.args.k c.args.set c.args.addresses.now c.requires.by_index c.by_label-those.ensures c.by_event.ensures
