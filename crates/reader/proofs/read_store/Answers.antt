use Rattle.reader.proofs.Stores.{event-small}
use Rattle.reader.proofs.read_store.Goals as goal

pub store_at-requires : goal.store_at-requires
store_at-requires c =
    event-small _ _ _ _ _ c.in_ok-number.ensures c.requires c.args.events.few

pub has-requires : goal.has-requires
has-requires c =
    event-small _ _ _ _ _ c.in_ok-number.ensures c.requires c.args.events.few
