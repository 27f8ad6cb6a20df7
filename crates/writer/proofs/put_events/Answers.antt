-- `writer::put_events` meets its contract. Assumes nothing.
use Rattle.writer.proofs.Taken.{none_taken, may_next, one_taken, all_taken}
use Rattle.model.specs.Limits.{most_events}
use Rattle.writer.specs.Stages.{most_event}
use Rattle.writer.proofs.put_events.Goals as goal

pub loop-e-init : goal.loop-e-init
loop-e-init g c =
    none_taken g.met.S.Sink.laws _ most_event

pub put_event-requires-clause-may : goal.put_event-requires-clause-may
put_event-requires-clause-may g c =
    may_next g.met.S.Sink.laws _ most_event most_events c.requires.sound.events_most c.requires.may c.loop-e.invariant c.loop-e-test.true

pub loop-e-preserved : goal.loop-e-preserved
loop-e-preserved g c =
    one_taken g.met.S.Sink.laws _ most_event most_events c.requires.sound.events_most c.requires.may c.loop-e.invariant c.loop-e-test.true c.put_event.ensures

pub returns : goal.returns
returns g c =
    all_taken g.met.S.Sink.laws _ most_event most_events c.requires.sound.events_most c.requires.may c.loop-e.invariant (search) c.loop-e-test.false
