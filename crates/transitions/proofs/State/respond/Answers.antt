-- `transitions::State::respond` meets its contract. Assumes nothing.
use Rattle.transitions.proofs.Conditions.{answers_latest, answers_other}
use Rattle.transitions.proofs.State.respond.Goals as goal

pub returns-then-v-found : goal.returns-then-v-found
returns-then-v-found c =
    let e = rw (c.lists-lists.ensures.listed, c.lists-lists.ensures.events) at c.latest-found.ensures in
    answers_other c.args.self.now.good c.requires.t_lt_threads c.requires.a_lt_addresses e c.if-v-found.true

pub returns : goal.returns
returns c =
    let e = rw (c.lists-lists.ensures.listed, c.lists-lists.ensures.events) at c.latest-found.ensures in
    answers_latest c.args.self.now.good c.requires.t_lt_threads c.requires.a_lt_addresses e c.if-v-found.false
