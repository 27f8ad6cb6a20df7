-- `by_columns::Barriers::carried_on_barrier` meets its contract. Assumes nothing.
use Prim.Native.Nat.{ℕ}
use mathlib.Core.Path.{refl, ◌∙◌}
use mathlib.Core.Bool.{Bool}
use Rattle.bits.specs.Bit.{bit}
use Rattle.rows.specs.Sets.{order_in, set_in}
use Rattle.rows.specs.May.{Relation}
use Rattle.rows.proofs.SetLaws.{imp_yes, set_as, share, as_set}
use Rattle.values.proofs.Laws.{first-set, then-set}
use Rattle.by_columns.specs.Parts.{applies_in}
use Rattle.by_columns.proofs.Laws.{reached_of}
use Rattle.by_columns.proofs.Barriers.carried_on_barrier.Goals as goal

pub returns : goal.returns
returns c =
    let after : Relation = order_in c.args.self.now.orders.rows.now in
    let applies : ℕ → ℕ → Bool = applies_in c.args.self.now.barriers c.args.self.now.syncs c.args.self.now.stores c.args.self.now.loads c.args.f in
    let first : ℕ → Bool = λ e. after c.args.p e c.args.f in
    let later = set_as c.both-later.ensures (share (set_as c.both.ensures (share (as_set refl) (as_set refl))) (as_set c.row.ensures)) in
    c.carried.ensures
    ∙ first-set c.args.self.now.orders.k c.args.self.now.orders.n first applies after (bit c.reached-then.result) c.earlier-first.ensures
    ∙ then-set c.args.self.now.orders.k c.args.self.now.orders.n first applies after (reached_of c.args.self.now.orders.k (set_in c.args.behind.now) later c.reached-then.ensures)
    ∙ imp_yes _ _ c.requires.f_value
