-- `rows::paired` meets its contract. Assumes nothing.
use Prim.Native.Nat.{ℕ}
use mathlib.Core.Path.{subst}
use mathlib.Core.Bool.{◌&&◌, ◌||◌}
use lib.Dec.{eqb, ltb}
use Rattle.finite.specs.Tests.{some}
use Rattle.rows.specs.Sets.{Set, order_in}
use Rattle.bits.specs.Bit.{bit}
use Rattle.rows.proofs.Loops.{empty, joins, united}
use Rattle.rows.proofs.SetLaws.{paired-set}
use Rattle.rows.proofs.paired.Goals as goal

pub loop-a-init : goal.loop-a-init
loop-a-init c =
    search empty

pub loop-a-preserved : goal.loop-a-preserved
loop-a-preserved c =
    let s = c.args in
    joins c.loop-a.invariant c.loop-a-test.true
    (subst (λ (m : ℕ). Set c.paired_one-found.result (λ e. ltb e s.k && (bit m e || (eqb e c.loop-a.a && some s.k (bit m))))) c.row.ensures c.paired_one-found.ensures)

pub returns : goal.returns
returns c =
    let s = c.args in
    paired-set s.k (order_in s.rows.now) s.p (united c.loop-a.invariant c.loop-a-test.false)
