-- `by_columns::Orders::overwritten_load` meets its contract. Assumes nothing.
use Prim.Native.Nat.{ℕ}
use mathlib.Core.Path.{refl, ap, ◌∙◌}
use mathlib.Core.Bool.{Bool}
use Rattle.bits.specs.Bit.{bit}
use Rattle.rows.specs.Sets.{order_in, store_in}
use Rattle.rows.proofs.SetLaws.{imp_yes, set_as, share, as_set, of_set}
use Rattle.values.specs.Parts.{equal_in}
use Rattle.values.proofs.Laws.{by_sets}
use Rattle.by_columns.proofs.Laws.{not_after}
use Rattle.by_columns.proofs.Orders.overwritten_load.Goals as goal

pub returns : goal.returns
returns c =
    let after : ℕ → ℕ → Bool = order_in c.args.self.now.rows.now c.args.p in
    let sources = set_as c.both-sources.ensures (share (as_set refl) (as_set refl)) in
    c.replaced_stores.ensures
    ∙ not_after c.args.self.now.k c.earlier_of-between.result c.both.result c.row.result (equal_in c.args.values.now) after c.args.l c.minus-set.ensures (λ e. ap (λ (x : ℕ). bit x e) c.row.ensures)
    ∙ by_sets c.args.self.now.k (bit c.args.seen) (store_in c.args.stores c.args.partners.now) (equal_in c.args.values.now) after c.args.l
    (set_as c.both.ensures (share sources (as_set refl))) (of_set c.args.self.now.k (λ x. after x c.args.l) sources c.earlier_of-between.ensures)
    ∙ imp_yes _ _ c.requires.l_value
