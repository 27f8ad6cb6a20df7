-- `writer::put_initials` meets its contract. Assumes nothing.
use mathlib.Core.Path.{ap}
use borrow.Author.Rules.{rules}
use Rattle.number.specs.Number.{encode}
use Rattle.model.specs.Limits.{most_addresses}
use Rattle.writer.specs.Stages.{most_number, initial_at}
use Rattle.writer.proofs.Runs.{front_within, front_past, front_read}
use Rattle.writer.proofs.Taken.{may_same, took_same, none_taken, may_next, one_taken, all_taken}
use Rattle.writer.proofs.put_initials.Goals as goal

pub loop-v-init : goal.loop-v-init
loop-v-init g c =
    none_taken g.met.S.Sink.laws _ most_number

pub number-requires : goal.number-requires
unfolding initial_at
number-requires g c =
    let l = front_within c.args.c.now.initial c.args.c.now.addresses c.loop-v.v-index (search rules) c.loop-v-test.true in
    may_same g.met.S.Sink.laws (ap encode (front_read _ _ _ l)) (may_next g.met.S.Sink.laws _ most_number most_addresses c.requires.sound.addresses_most c.requires.may c.loop-v.invariant l)

pub loop-v-preserved : goal.loop-v-preserved
unfolding initial_at
loop-v-preserved g c =
    let l = front_within c.args.c.now.initial c.args.c.now.addresses c.loop-v.v-index (search rules) c.loop-v-test.true in
    one_taken g.met.S.Sink.laws _ most_number most_addresses c.requires.sound.addresses_most c.requires.may c.loop-v.invariant l
    (took_same g.met.S.Sink.laws (ap encode (front_read _ _ _ l)) c.number.ensures)

pub returns : goal.returns
unfolding initial_at
returns g c =
    let l = front_past c.args.c.now.initial c.args.c.now.addresses c.loop-v.v-index (search rules) c.loop-v-test.false in
    all_taken g.met.S.Sink.laws _ most_number most_addresses c.requires.sound.addresses_most c.requires.may c.loop-v.invariant (search rules) l
