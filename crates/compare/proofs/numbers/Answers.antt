-- `compare::numbers` meets its contract. Assumes nothing.
use Rattle.compare.proofs.Groups.{differs, ends, again}
use Rattle.compare.proofs.numbers.Goals.{then-is_ne-via-then-is_ne, then-is_ne-via-else-is_ne+then-a-lt128}
use Rattle.compare.proofs.numbers.Goals as goal

pub returns-then-is_ne : goal.returns-then-is_ne
returns-then-is_ne c =
    elim c.then-is_ne.branch [
      | then-is_ne-via-then-is_ne w ↦ differs c.loop-order.invariant _ _ c.first.ensures c.first-in-loop-order.ensures _ c.cmp-order.ensures _ c.is_ne.ensures w.if-is_ne.true
      | then-is_ne-via-else-is_ne+then-a-lt128 w ↦ ends c.loop-order.invariant _ _ c.first.ensures c.first-in-loop-order.ensures _ c.cmp-order.ensures w.if-a-lt128.true
    ]

pub loop-order-preserved : goal.loop-order-preserved
loop-order-preserved c =
    again c.loop-order.invariant _ _ c.first.ensures c.first-in-loop-order.ensures _ c.cmp-order.ensures _ c.is_ne.ensures c.if-is_ne.false c.if-a-lt128.false
