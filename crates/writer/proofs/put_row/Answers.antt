-- `writer::put_row` meets its contract. Assumes nothing.
use Rattle.model.specs.Limits.{most_events}
use Rattle.writer.specs.Stages.{row_at}
use Rattle.writer.proofs.Pairs.{paired_none, pair_may, pair_taken, paired_all}
use Rattle.writer.proofs.put_row.Goals as goal

pub loop-b-init : goal.loop-b-init
loop-b-init g c =
    paired_none g.met.S.Sink.laws c.into_iter-b-iterator.ensures.into_iter_gives c.members_below-b-items.ensures c.row.ensures

pub put_two-requires : goal.put_two-requires
unfolding row_at
put_two-requires g c =
    pair_may g.met.S.Sink.laws most_events c.requires.sound.events_most c.requires.may c.loop-b.invariant c.in-Some.ensures.steps

pub loop-b-preserved : goal.loop-b-preserved
unfolding row_at
loop-b-preserved g c =
    pair_taken g.met.S.Sink.laws most_events c.requires.sound.events_most c.requires.may c.loop-b.invariant c.in-Some.ensures.steps c.put_two.ensures

pub returns : goal.returns
unfolding row_at
returns g c =
    paired_all g.met.S.Sink.laws most_events c.requires.sound.events_most c.requires.may c.loop-b.invariant c.in-None.ensures.steps
