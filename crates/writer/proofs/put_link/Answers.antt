-- `writer::put_link` meets its contract. Assumes nothing.
use Rattle.writer.proofs.Taken.{may_same, took_same}
use Rattle.writer.proofs.Runs.{link_bytes}
use Rattle.writer.specs.Stages.{link_at}
use Rattle.writer.proofs.put_link.Goals as goal

pub put_three-requires : goal.put_three-requires
unfolding link_at
put_three-requires g c =
    may_same g.met.S.Sink.laws (link_bytes c.from.ensures c.from-2.ensures c.from-3.ensures) c.requires.may

pub returns : goal.returns
unfolding link_at
returns g c =
    took_same g.met.S.Sink.laws (link_bytes c.from.ensures c.from-2.ensures c.from-3.ensures) c.put_three.ensures
