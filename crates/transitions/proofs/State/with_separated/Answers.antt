-- `transitions::State::with_separated` meets its contract. Assumes nothing.
use Rattle.storage.proofs.Means.{writer-within}
use Rattle.transitions.proofs.Conditions.{once}
use Rattle.transitions.proofs.Commits.{separates_begun, separates_one, separates_all}
use Rattle.transitions.proofs.State.with_separated.Goals as goal

pub loop-b-init : goal.loop-b-init
loop-b-init c =
    search separates_begun

pub separated-requires-clause-once : goal.separated-requires-clause-once
separated-requires-clause-once c =
    let e = once _ c.args.self.now.good _ (rw (c.from-t.ensures) (writer-within _ c.args.self.now.good _ c.loop-b-test.true)) in
    rw (c.lists-lists.ensures.listed, c.lists-lists.ensures.events) e

pub loop-b-preserved : goal.loop-b-preserved
loop-b-preserved c =
    separates_one _ c.args.self.now.good c.loop-b.invariant c.loop-b-test.true
    (rw (c.lists-lists.ensures.listed, c.lists-lists.ensures.events, c.from-t.ensures) at c.separated.ensures)

pub returns : goal.returns
returns c =
    search separates_all
