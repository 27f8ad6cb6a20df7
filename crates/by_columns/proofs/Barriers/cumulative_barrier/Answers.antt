-- `by_columns::Barriers::cumulative_barrier` meets its contract. Assumes nothing.
use Prim.Native.Nat.{ℕ}
use mathlib.Core.Path.{refl, ◌∙◌}
use mathlib.Core.Bool.{Bool}
use Rattle.bits.specs.Bit.{bit}
use Rattle.rows.specs.Sets.{order_in}
use Rattle.rows.specs.May.{Relation}
use Rattle.rows.proofs.SetLaws.{imp_yes, set_as, share, as_set}
use Rattle.values.proofs.Laws.{first-set, fences_set, cumulative_at}
use Rattle.by_columns.specs.Parts.{applies_in}
use Rattle.by_columns.proofs.Barriers.cumulative_barrier.Goals as goal

pub returns : goal.returns
returns c =
    let after : Relation = order_in c.args.self.now.orders.rows.now in
    let applies : ℕ → ℕ → ℕ → Bool = applies_in c.args.self.now.barriers c.args.self.now.syncs c.args.self.now.stores c.args.self.now.loads in
    cumulative_at c.args.self.now.orders.k c.args.self.now.orders.n c.args.own c.args.self.now.barriers applies (after c.args.p) after c.args.f refl (set_as c.both-then.ensures (share (as_set refl) (as_set c.row.ensures)))
    (c.carried.ensures
    ∙ first-set c.args.self.now.orders.k c.args.self.now.orders.n (λ e. after c.args.p e c.args.f) (applies c.args.f) after (bit c.both-then.result) c.earlier-first.ensures
    ∙ imp_yes _ _ ((fences_set c.args.self.now.barriers c.args.own refl).has c.args.f ∙ c.requires.f_value))
