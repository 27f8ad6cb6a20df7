-- `values::must_read` meets its contract. Assumes nothing.
use mathlib.Core.Path.{refl, sym, ◌∙◌}
use Rattle.finite.specs.Tests.{all, ◌⇒◌}
use Rattle.bits.specs.Bit.{bit}
use Rattle.rows.specs.Sets.{order_in}
use mathlib.Core.Bool.{◌&&◌, not, Bool}
use Rattle.rows.proofs.SetLaws.{as_set, set_with, inside-set}
use Rattle.values.proofs.Laws.{read_all, and_both, and_second}
use lib.Dec.{eqb}
use Prim.Native.Nat.{ℕ}
use Rattle.values.proofs.must_read.Goals as goal

pub returns-then-precedes : goal.returns-then-precedes
returns-then-precedes c =
    let a = c.args in
    let after : ℕ → ℕ → Bool = order_in a.known.now a.t in
    c.inside_below.ensures
    ∙ inside-set a.k (as_set refl) (set_with a.s c.with.ensures c.before_of.ensures)
    ∙ read_all a.k (bit a.rivals) after a.s
    ∙ and_both (bit a.sources a.s) (after a.s a.l) (all a.k (λ x. (bit a.rivals x && not (eqb x a.s)) ⇒ after x a.s)) c.requires.s_value (sym c.precedes.ensures ∙ c.if-precedes.true)

pub returns-else-precedes : goal.returns-else-precedes
returns-else-precedes c =
    let a = c.args in
    let after : ℕ → ℕ → Bool = order_in a.known.now a.t in
    c.if-precedes.false
    ∙ and_second (bit a.sources a.s) (after a.s a.l) (all a.k (λ x. (bit a.rivals x && not (eqb x a.s)) ⇒ after x a.s)) c.requires.s_value (sym c.precedes.ensures ∙ c.if-precedes.false)
