-- `values::cumulative_barrier` meets its contract. Assumes nothing.
use mathlib.Core.Path.{refl, ◌∙◌}
use Rattle.bits.specs.Bit.{bit}
use Rattle.rows.specs.Sets.{order_in, applicable_in}
use Rattle.values.proofs.Laws.{fences_set, cumulative_at, first-set}
use Rattle.rows.proofs.SetLaws.{imp_yes}
use mathlib.Core.Bool.{Bool}
use Prim.Native.Nat.{ℕ}
use Rattle.values.proofs.cumulative_barrier.Goals as goal

pub returns : goal.returns
returns c =
    let a = c.args in
    let applies : ℕ → ℕ → ℕ → Bool = applicable_in a.syncs a.light.now in
    cumulative_at a.k a.n a.own a.barriers applies (order_in a.known.now a.p) (order_in a.asked.now) a.f refl c.after_of-then.ensures
    (c.carried.ensures
    ∙ first-set a.k a.n (λ e. order_in a.known.now a.p e a.f) (applies a.f) (order_in a.asked.now) (bit c.after_of-then.result) c.before-first.ensures
    ∙ imp_yes _ _ ((fences_set a.barriers a.own refl).has a.f ∙ c.requires.f_value))
