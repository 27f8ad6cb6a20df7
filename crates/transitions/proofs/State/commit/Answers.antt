-- `transitions::State::commit` meets its contract. Assumes nothing.
use Rattle.transitions.proofs.Commits.{took_commit}
use Rattle.transitions.proofs.State.commit.Goals as goal

pub returns : goal.returns
returns c =
    took_commit _ c.args.self.now.good _ _ c.committed-before.ensures c.in_ok-check_commit.ensures
