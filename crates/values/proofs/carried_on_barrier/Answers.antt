-- `values::carried_on_barrier` meets its contract. Assumes nothing.
use mathlib.Core.Path.{refl, ◌∙◌}
use Rattle.bits.specs.Bit.{bit}
use Rattle.rows.specs.Sets.{order_in, set_in, applicable_in}
use Rattle.values.specs.Parts.{thread_in}
use Rattle.values.proofs.Laws.{fences_set, carried_on_at, first-set}
use Rattle.rows.proofs.SetLaws.{imp_yes}
use mathlib.Core.Bool.{Bool}
use Prim.Native.Nat.{ℕ}
use Rattle.values.proofs.carried_on_barrier.Goals as goal

pub returns : goal.returns
returns c =
    let a = c.args in
    let applies : ℕ → ℕ → ℕ → Bool = applicable_in a.syncs a.light.now in
    carried_on_at a.k a.n a.own a.barriers applies (bit a.stores) (set_in a.read.now) (thread_in a.threads.now) a.p (order_in a.known.now) (order_in a.asked.now) a.f refl c.reached_from-then.ensures
    (c.carried.ensures
    ∙ first-set a.k a.n (λ e. order_in a.known.now a.p e a.f) (applies a.f) (order_in a.asked.now) (bit c.reached_from-then.result) c.before-before.ensures
    ∙ imp_yes _ _ ((fences_set a.barriers a.own refl).has a.f ∙ c.requires.f_value))
