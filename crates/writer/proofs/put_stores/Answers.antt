-- `writer::put_stores` meets its contract. Assumes nothing.
use borrow.Author.Rules.{rules}
use Rattle.case.proofs.WriteOrders.{few-stores}
use Rattle.writer.proofs.Taken.{may_same, took_same}
use Rattle.writer.proofs.Runs.{stores-run}
use Rattle.writer.proofs.put_stores.Goals as goal

pub put_entries-requires-clause-within : goal.put_entries-requires-clause-within
put_entries-requires-clause-within g c =
    (search rules, few-stores _ _ _ c.requires.sound.events_most c.count_stores-n.ensures)

pub put_entries-requires-clause-may : goal.put_entries-requires-clause-may
put_entries-requires-clause-may g c =
    may_same g.met.S.Sink.laws (stores-run _ _ _ _ _ _ c.count_stores-n.ensures) c.requires.may

pub returns : goal.returns
returns g c =
    took_same g.met.S.Sink.laws (stores-run _ _ _ _ _ _ c.count_stores-n.ensures) c.put_entries.ensures
