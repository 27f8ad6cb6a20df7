-- `orders::coherent_event` meets its contract. Assumes nothing.
use Prim.Native.Nat.{ℕ, ◌+◌, ◌*◌, ◌<◌, ◌≤◌}
use mathlib.Core.Path.{◌≡◌, refl, sym, ap₂, ap, ◌∙◌, subst}
use mathlib.Core.Bool.{Bool, ◌&&◌}
use lib.ListN.{get_or}
use Rattle.finite.specs.Tests.{all, some, count, ◌⇒◌}
use Rattle.finite.proofs.Tests.{all_same, count-le}
use Rattle.bits.specs.Bit.{bit}
use Rattle.model.specs.Limits.{most_events}
use Rattle.model.specs.Rules.{first}
use Rattle.rows.specs.Sets.{order_in, store_in}
use Rattle.rows.proofs.SetLaws.{as_set, set_as, share, imp_yes}
use Rattle.orders.specs.Parts.{writes_in, written_in}
use Rattle.orders.proofs.Laws.{count_set}
use Rattle.orders.proofs.coherent_event.Goals as goal

pub in_write_order-requires-clause-count_le_k : goal.in_write_order-requires-clause-count_le_k
in_write_order-requires-clause-count_le_k c =
    let long : c.size_below-count.result ≡ count c.args.k (store_in c.args.stores c.args.partners.now c.args.a)
    = count_set c.args.k (set_as c.both-sources.ensures (share (as_set refl) (as_set refl))) c.size_below-count.ensures in
    subst (λ (i : ℕ). i ≤ c.args.k) (sym long) (count-le c.args.k (store_in c.args.stores c.args.partners.now c.args.a))

pub in_write_order-requires-clause-by_index : goal.in_write_order-requires-clause-by_index
in_write_order-requires-clause-by_index c =
    let long : c.size_below-count.result ≡ count c.args.k (store_in c.args.stores c.args.partners.now c.args.a)
    = count_set c.args.k (set_as c.both-sources.ensures (share (as_set refl) (as_set refl))) c.size_below-count.ensures in
    λ i l.
    subst (λ (x : ℕ). get_or c.args.writes.now (x * most_events + i) 0 < c.args.k) (sym c.from.ensures)
    (c.requires.i_bound i (subst (λ (j : ℕ). i < j) long l))

pub returns : goal.returns
returns c =
    let s = c.args in
    let address = get_or s.addresses.now s.a 0 in
    let sources = set_as c.both-sources.ensures (share (as_set refl) (as_set refl)) in
    let later : ℕ → Bool = λ b. store_in s.stores s.partners.now s.a b && some s.n (λ p. order_in s.known.now p s.a b) in
    let written = written_in s.k s.stores s.partners.now s.addresses.now s.writes.now s.a in
    let long : c.size_below-count.result ≡ count c.args.k (store_in c.args.stores c.args.partners.now c.args.a)
    = count_set c.args.k (set_as c.both-sources.ensures (share (as_set refl) (as_set refl))) c.size_below-count.ensures in
    c.in_write_order.ensures
    ∙ ap₂ (λ (x i : ℕ). all s.k (λ b. bit c.both-later.result b ⇒ first s.a b (writes_in s.writes.now x i))) c.from.ensures long
    ∙ all_same s.k _ _ (λ b l. ap (λ t. t ⇒ written b) ((set_as c.both-later.ensures (share sources c.after_anywhere.ensures)).has b))
    ∙ imp_yes (bit s.stores s.a) (all s.k (λ b. later b ⇒ written b)) c.requires.a_value
