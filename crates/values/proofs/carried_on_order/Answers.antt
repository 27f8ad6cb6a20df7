-- `values::carried_on_order` meets its contract. Assumes nothing.
use borrow.Author.Rules.{rules}
use borrow.Author.Tests.{tests}
use mathlib.Core.Path.{sym, ◌∙◌}
use Rattle.finite.proofs.Tests.{imp_no}
use Rattle.bits.specs.Bit.{bit}
use Rattle.rows.specs.Sets.{order_in, set_in, applicable_in}
use Rattle.values.specs.Parts.{carried_on, thread_in}
use Rattle.values.proofs.Laws.{fences_set}
use Rattle.values.proofs.Members.{serves_members, all_members}
use Rattle.values.proofs.carried_on_order.Goals as goal

pub all-requires-clause-callable : goal.all-requires-clause-callable
all-requires-clause-callable c = serves_members c.args.k c.both-fences.result c.members_below.ensures (λ x q k. search (rules, tests)) (λ x l m. let fence = sym ((fences_set c.args.barriers c.args.own c.both-fences.ensures).has x) ∙ m in search rules)

pub returns : goal.returns
returns c =
    let a = c.args in
    all_members a.k c.both-fences.result (carried_on a.k a.n (bit a.own) (bit a.barriers) (applicable_in a.syncs a.light.now) (bit a.stores) (set_in a.read.now) (thread_in a.threads.now) a.p (order_in a.known.now) (order_in a.asked.now)) _ _ _ (λ x b q k. search (rules, tests)) c.all.ensures.ran c.members_below.ensures (λ i h. imp_no _ _ (sym ((fences_set a.barriers a.own c.both-fences.ensures).has i) ∙ h))
