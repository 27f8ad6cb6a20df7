-- `rows::labelled` meets its contract. Assumes nothing.
use lib.Dec.{eqb}
use lib.ListN.{get_or}
use Rattle.rows.proofs.Loops.{empty, joins, united}
use Rattle.rows.proofs.SetLaws.{set_same, some_only}
use Rattle.rows.proofs.labelled.Goals as goal

pub loop-e-init : goal.loop-e-init
loop-e-init c =
    search empty

pub loop-e-preserved : goal.loop-e-preserved
loop-e-preserved c =
    search joins

pub returns : goal.returns
returns c =
    let s = c.args in
    set_same (united c.loop-e.invariant c.loop-e-test.false) (some_only s.k (λ e. eqb (get_or s.bytes.now e 0) s.x))
