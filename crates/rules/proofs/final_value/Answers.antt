-- `rules::final_value` meets its contract. Assumes nothing.
use Prim.Native.Nat.{ℕ, ◌<◌, ◌≤◌}
use mathlib.Core.Path.{◌≡◌, refl, sym, ap, ◌∙◌, subst}
use lib.Dec.{ltb}
use Rattle.rules.specs.Finals.{stored_in, last_in}
use Rattle.rules.proofs.Last.{cond_yes, cond_no, stored_here}
use Rattle.finite.specs.Tests.{count}
use native.Mathlib.Nat.{le_trans}
use Rattle.finite.proofs.Tests.{count-le}
use Rattle.orders.proofs.Laws.{count_set}
use Rattle.rows.proofs.SetLaws.{set_as, share, as_set}
use borrow.Author.Tests.{lt-ltb, le-ltb}
use Rattle.model.specs.Limits.{most_events}
use Rattle.rules.proofs.final_value.Goals as goal

pub last_value-requires-clause-x_lt_most_addresses : goal.last_value-requires-clause-x_lt_most_addresses
last_value-requires-clause-x_lt_most_addresses c =
    let m : c.size_below.result ≡ count c.args.c.now.events (stored_in c.args.stores c.args.c.now.address c.args.x)
    = count_set c.args.c.now.events (set_as c.both-those.ensures (share (as_set refl) c.labelled.ensures)) c.size_below.ensures ∙ stored_here c.args.c.now.events c.args.stores c.args.c.now.address c.args.x in
    c.requires.x_lt_most_addresses

pub last_value-requires-clause-i_le_most_events : goal.last_value-requires-clause-i_le_most_events
last_value-requires-clause-i_le_most_events c =
    let m : c.size_below.result ≡ count c.args.c.now.events (stored_in c.args.stores c.args.c.now.address c.args.x)
    = count_set c.args.c.now.events (set_as c.both-those.ensures (share (as_set refl) c.labelled.ensures)) c.size_below.ensures ∙ stored_here c.args.c.now.events c.args.stores c.args.c.now.address c.args.x in
    subst (λ (i : ℕ). i ≤ most_events) (sym m) (le_trans (count-le c.args.c.now.events (stored_in c.args.stores c.args.c.now.address c.args.x)) c.requires.k_le_most_events)

pub last_value-requires-clause-by_index : goal.last_value-requires-clause-by_index
last_value-requires-clause-by_index c =
    let m : c.size_below.result ≡ count c.args.c.now.events (stored_in c.args.stores c.args.c.now.address c.args.x)
    = count_set c.args.c.now.events (set_as c.both-those.ensures (share (as_set refl) c.labelled.ensures)) c.size_below.ensures ∙ stored_here c.args.c.now.events c.args.stores c.args.c.now.address c.args.x in
    λ j l. c.requires.j_bound c.if-x-m.true j (subst (λ (i : ℕ). j < i) m l)

pub returns-then-x-m : goal.returns-then-x-m
returns-then-x-m c =
    let m : c.size_below.result ≡ count c.args.c.now.events (stored_in c.args.stores c.args.c.now.address c.args.x)
    = count_set c.args.c.now.events (set_as c.both-those.ensures (share (as_set refl) c.labelled.ensures)) c.size_below.ensures ∙ stored_here c.args.c.now.events c.args.stores c.args.c.now.address c.args.x in
    c.last_value.ensures
    ∙ ap (last_in c.args.c.now.kind c.args.c.now.value c.args.c.now.writes c.args.c.now.initial c.args.x) m
    ∙ cond_yes (ltb c.args.x c.args.c.now.addresses) (last_in c.args.c.now.kind c.args.c.now.value c.args.c.now.writes c.args.c.now.initial c.args.x (count c.args.c.now.events (stored_in c.args.stores c.args.c.now.address c.args.x))) 0 (lt-ltb c.args.x c.args.c.now.addresses c.if-x-m.true)

pub returns-else-x-m : goal.returns-else-x-m
returns-else-x-m c =
    cond_no (ltb c.args.x c.args.c.now.addresses) (last_in c.args.c.now.kind c.args.c.now.value c.args.c.now.writes c.args.c.now.initial c.args.x (count c.args.c.now.events (stored_in c.args.stores c.args.c.now.address c.args.x))) 0 (le-ltb c.args.x c.args.c.now.addresses c.if-x-m.false)
