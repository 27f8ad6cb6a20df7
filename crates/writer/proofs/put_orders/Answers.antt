-- `writer::put_orders` meets its contract. Assumes nothing.
use Rattle.writer.proofs.Taken.{none_taken, may_next, one_taken, all_taken}
use Rattle.model.specs.Limits.{most_threads}
use Rattle.writer.specs.Stages.{most_order}
use Rattle.writer.proofs.put_orders.Goals as goal

pub loop-p-init : goal.loop-p-init
loop-p-init g c =
    none_taken g.met.S.Sink.laws _ most_order

pub put_order-requires-clause-may : goal.put_order-requires-clause-may
put_order-requires-clause-may g c =
    may_next g.met.S.Sink.laws _ most_order most_threads c.requires.sound.threads_most c.requires.may c.loop-p.invariant c.loop-p-test.true

pub loop-p-preserved : goal.loop-p-preserved
loop-p-preserved g c =
    one_taken g.met.S.Sink.laws _ most_order most_threads c.requires.sound.threads_most c.requires.may c.loop-p.invariant c.loop-p-test.true c.put_order.ensures

pub returns : goal.returns
returns g c =
    all_taken g.met.S.Sink.laws _ most_order most_threads c.requires.sound.threads_most c.requires.may c.loop-p.invariant (search) c.loop-p-test.false
