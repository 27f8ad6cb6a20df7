-- `rows::before` meets its contract. Assumes nothing.
use Rattle.rows.specs.Sets.{order_in}
use Rattle.rows.proofs.Loops.{empty, joins, united}
use Rattle.rows.proofs.SetLaws.{set_same, some_only}
use Rattle.rows.proofs.before.Goals as goal

pub loop-a-init : goal.loop-a-init
loop-a-init c =
    search empty

pub loop-a-preserved : goal.loop-a-preserved
loop-a-preserved c =
    search joins

pub returns : goal.returns
returns c =
    let s = c.args in
    set_same (united c.loop-a.invariant c.loop-a-test.false) (some_only s.k (λ a. order_in s.rows.now s.p a s.b))
