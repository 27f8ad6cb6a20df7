-- `by_columns::Accesses::must_read` meets its contract. Assumes nothing.
use Prim.Native.Nat.{ℕ}
use mathlib.Core.Path.{refl, sym, ◌∙◌}
use mathlib.Core.Bool.{Bool}
use Rattle.bits.specs.Bit.{bit}
use Rattle.rows.specs.Sets.{order_in}
use Rattle.rows.proofs.SetLaws.{inside-set, as_set, set_with}
use Rattle.values.specs.Parts.{thread_in}
use Rattle.values.proofs.Laws.{read_all}
use Rattle.by_columns.proofs.Laws.{read_by, rival, no_rival}
use Rattle.by_columns.proofs.Accesses.must_read.Goals as goal

pub returns-then-has : goal.returns-then-has
returns-then-has c =
    let a = c.args in
    let o = a.self.now in
    let k = o.orders.k in
    let after : ℕ → ℕ → Bool = order_in o.orders.rows.now (thread_in o.threads.now a.l) in
    let rivals : ℕ → Bool = bit c.earlier_of-rivals.result in
    rival (rivals a.s) (sym c.has.ensures ∙ c.if-has.true)
    (c.inside_below.ensures
    ∙ inside-set k (as_set refl) (set_with a.s c.with.ensures (rw c.from-t.ensures at c.earlier_of.ensures))
    ∙ read_all k rivals after a.s)
    ∙ read_by k o.loads o.stores o.partners.now o.threads.now o.orders.rows.now a.l a.s c.requires.l_value c.requires.s_lt_k c.both-sources.ensures (rw c.from-t.ensures at c.earlier_of-rivals.ensures)

pub returns-else-has : goal.returns-else-has
returns-else-has c =
    let a = c.args in
    let o = a.self.now in
    c.if-has.false
    ∙ no_rival (bit c.earlier_of-rivals.result a.s) _ (sym c.has.ensures ∙ c.if-has.false)
    ∙ read_by o.orders.k o.loads o.stores o.partners.now o.threads.now o.orders.rows.now a.l a.s c.requires.l_value c.requires.s_lt_k c.both-sources.ensures (rw c.from-t.ensures at c.earlier_of-rivals.ensures)
