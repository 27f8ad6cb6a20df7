-- `by_columns::Orders::supplied_load` meets its contract. Assumes nothing.
use mathlib.Core.Path.{refl, ◌∙◌}
use mathlib.Core.Bool.{Bool, ◌&&◌}
use Prim.Native.Nat.{ℕ}
use Rattle.bits.specs.Bit.{bit}
use Rattle.finite.specs.Tests.{some}
use Rattle.rows.specs.Sets.{order_in, store_in}
use Rattle.rows.proofs.SetLaws.{set_as, share, as_set, some-set, of_set}
use Rattle.values.proofs.Laws.{some-before}
use Rattle.by_columns.proofs.Laws.{changed_load}
use Rattle.by_columns.proofs.Orders.supplied_load.Goals as goal

pub returns : goal.returns
returns c =
    let after : ℕ → Bool = λ x. order_in c.args.self.now.rows.now c.args.p x c.args.l in
    let stores : ℕ → Bool = store_in c.args.stores c.args.partners.now c.args.l in
    c.any.ensures
    ∙ some-set c.args.self.now.k (of_set c.args.self.now.k after (set_as c.both-sources.ensures (share (as_set refl) (as_set refl))) c.earlier_of.ensures)
    ∙ some-before c.args.self.now.k stores after
    ∙ changed_load (bit c.args.judged c.args.l) (bit c.args.fresh c.args.l) (some c.args.self.now.k (λ x. stores x && after x)) c.requires.l_value
