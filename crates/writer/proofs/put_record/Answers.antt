-- `writer::put_record` meets its contract. Assumes nothing.
use mathlib.Core.Path.{refl}
use native.Mathlib.Omega.{arith}
use Rattle.writer.proofs.Taken.{may_same, took_same, may_first, may_second, may_third-of, may_fourth, took_four}
use Rattle.writer.proofs.Parts.{record_by}
use Rattle.writer.proofs.put_record.Goals as goal

pub put_three-requires : goal.put_three-requires
put_three-requires g c =
    may_first g.met.S.Sink.laws _ _ (may_same g.met.S.Sink.laws (record_by _ _ refl) c.requires.may) (omega arith)

pub put_listing-requires-clause-may : goal.put_listing-requires-clause-may
put_listing-requires-clause-may g c =
    may_second g.met.S.Sink.laws _ _ _ (may_same g.met.S.Sink.laws (record_by _ _ refl) c.requires.may) c.put_three.ensures (omega arith)

pub put_dependencies-requires-clause-may : goal.put_dependencies-requires-clause-may
put_dependencies-requires-clause-may g c =
    may_third-of g.met.S.Sink.laws _ _ _ _ (may_same g.met.S.Sink.laws (record_by _ _ c.link_count.ensures) c.requires.may) c.put_three.ensures c.put_listing.ensures (omega arith)

pub put_rest-requires-clause-may : goal.put_rest-requires-clause-may
put_rest-requires-clause-may g c =
    may_fourth g.met.S.Sink.laws _ _ _ _ (may_same g.met.S.Sink.laws (record_by _ _ c.link_count.ensures) c.requires.may) c.put_three.ensures c.put_listing.ensures c.put_dependencies.ensures (omega arith)

pub returns : goal.returns
returns g c =
    took_same g.met.S.Sink.laws (record_by _ _ c.link_count.ensures) (took_four g.met.S.Sink.laws _ _ _ _ (may_same g.met.S.Sink.laws (record_by _ _ c.link_count.ensures) c.requires.may) c.put_three.ensures c.put_listing.ensures c.put_dependencies.ensures (omega arith) c.put_rest.ensures)
