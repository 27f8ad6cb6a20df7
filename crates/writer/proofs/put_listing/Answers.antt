-- `writer::put_listing` meets its contract. Assumes nothing.
use native.Mathlib.Omega.{arith}
use Rattle.writer.proofs.Taken.{may_first, may_second, may_third, took_three}
use Rattle.writer.specs.Stages.{listing_bytes}
use Rattle.writer.proofs.put_listing.Goals as goal

pub put_initials-requires-clause-may : goal.put_initials-requires-clause-may
unfolding listing_bytes
put_initials-requires-clause-may g c =
    may_first g.met.S.Sink.laws _ _ c.requires.may (omega arith)

pub number-requires : goal.number-requires
unfolding listing_bytes
number-requires g c =
    may_second g.met.S.Sink.laws _ _ _ c.requires.may c.put_initials.ensures (omega arith)

pub put_events-requires-clause-may : goal.put_events-requires-clause-may
unfolding listing_bytes
put_events-requires-clause-may g c =
    may_third g.met.S.Sink.laws _ _ _ c.requires.may c.put_initials.ensures c.number.ensures (omega arith)

pub returns : goal.returns
unfolding listing_bytes
returns g c =
    took_three g.met.S.Sink.laws _ _ _ c.requires.may c.put_initials.ensures c.number.ensures c.put_events.ensures (omega arith)
