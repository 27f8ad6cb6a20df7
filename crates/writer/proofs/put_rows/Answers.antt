-- `writer::put_rows` meets its contract. Assumes nothing.
use Rattle.writer.proofs.Taken.{none_taken, may_next, one_taken, all_taken}
use Rattle.model.specs.Limits.{most_events}
use Rattle.writer.specs.Stages.{most_row}
use Rattle.writer.proofs.put_rows.Goals as goal

pub loop-a-init : goal.loop-a-init
loop-a-init g c =
    none_taken g.met.S.Sink.laws _ most_row

pub put_row-requires-clause-may : goal.put_row-requires-clause-may
put_row-requires-clause-may g c =
    may_next g.met.S.Sink.laws _ most_row most_events c.requires.sound.events_most c.requires.may c.loop-a.invariant c.loop-a-test.true

pub loop-a-preserved : goal.loop-a-preserved
loop-a-preserved g c =
    one_taken g.met.S.Sink.laws _ most_row most_events c.requires.sound.events_most c.requires.may c.loop-a.invariant c.loop-a-test.true c.put_row.ensures

pub returns : goal.returns
returns g c =
    all_taken g.met.S.Sink.laws _ most_row most_events c.requires.sound.events_most c.requires.may c.loop-a.invariant (search) c.loop-a-test.false
