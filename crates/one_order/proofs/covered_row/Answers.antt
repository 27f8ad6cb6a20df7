-- `one_order::covered_row` meets its contract. Assumes nothing.
use Rattle.one_order.proofs.Covers.{cover-none, cover-fails, cover-less, cover-next}
use Rattle.one_order.proofs.covered_row.Goals as goal

pub loop-b-init : goal.loop-b-init
loop-b-init c =
    cover-none c.requires.k_le_most_events c.row-mine.ensures c.has.ensures c.if-has.false c.below-events.ensures c.minus-others.ensures c.both.ensures c.members-rest.ensures

pub returns-then-not-apart : goal.returns-then-not-apart
returns-then-not-apart c =
    cover-fails c.loop-b.invariant c.in-Some.ensures.steps c.row-behind.ensures c.apart.ensures c.if-not-apart.true

pub loop-b-smaller : goal.loop-b-smaller
loop-b-smaller c =
    cover-less c.loop-b.invariant c.in-Some.ensures.steps c.row-behind.ensures c.apart.ensures c.set.ensures c.minus.ensures c.members-rest-in-Some.ensures

pub loop-b-preserved : goal.loop-b-preserved
loop-b-preserved c =
    cover-next c.loop-b.invariant c.in-Some.ensures.steps c.row-behind.ensures c.apart.ensures c.set.ensures c.minus.ensures c.members-rest-in-Some.ensures c.if-not-apart.false
