-- `writer::put_links` meets its contract. Assumes nothing.
use Rattle.writer.proofs.Taken.{none_taken, may_next, one_taken, all_taken}
use Rattle.model.specs.Limits.{most_dependencies}
use Rattle.writer.specs.Stages.{most_three}
use Rattle.writer.proofs.put_links.Goals as goal

pub loop-j-init : goal.loop-j-init
loop-j-init g c =
    none_taken g.met.S.Sink.laws _ most_three

pub put_link-requires-clause-may : goal.put_link-requires-clause-may
put_link-requires-clause-may g c =
    may_next g.met.S.Sink.laws _ most_three most_dependencies c.requires.few c.requires.may c.loop-j.invariant c.loop-j-test.true

pub loop-j-preserved : goal.loop-j-preserved
loop-j-preserved g c =
    one_taken g.met.S.Sink.laws _ most_three most_dependencies c.requires.few c.requires.may c.loop-j.invariant c.loop-j-test.true c.put_link.ensures

pub returns : goal.returns
returns g c =
    all_taken g.met.S.Sink.laws _ most_three most_dependencies c.requires.few c.requires.may c.loop-j.invariant (search) c.loop-j-test.false
