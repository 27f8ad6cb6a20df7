-- `writer::put_writes` meets its contract. Assumes nothing.
use Rattle.writer.proofs.Taken.{none_taken, may_next, one_taken, all_taken}
use Rattle.model.specs.Limits.{most_addresses}
use Rattle.writer.specs.Stages.{most_entries}
use Rattle.writer.proofs.put_writes.Goals as goal

pub loop-x-init : goal.loop-x-init
loop-x-init g c =
    none_taken g.met.S.Sink.laws _ most_entries

pub put_stores-requires-clause-may : goal.put_stores-requires-clause-may
put_stores-requires-clause-may g c =
    may_next g.met.S.Sink.laws _ most_entries most_addresses c.requires.sound.addresses_most c.requires.may c.loop-x.invariant c.loop-x-test.true

pub loop-x-preserved : goal.loop-x-preserved
loop-x-preserved g c =
    one_taken g.met.S.Sink.laws _ most_entries most_addresses c.requires.sound.addresses_most c.requires.may c.loop-x.invariant c.loop-x-test.true c.put_stores.ensures

pub returns : goal.returns
returns g c =
    all_taken g.met.S.Sink.laws _ most_entries most_addresses c.requires.sound.addresses_most c.requires.may c.loop-x.invariant (search) c.loop-x-test.false
