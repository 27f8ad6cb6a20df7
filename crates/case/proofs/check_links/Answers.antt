-- `case::check_links` meets its contract. Assumes nothing.
use mathlib.Core.Path.{◌∙◌}
use Rattle.case.proofs.Numbers.{err-number}
use Rattle.case.proofs.Links.{linking_begun, linking_done, linking_found, linking_among, linking_fits, linking_next}
use Rattle.case.proofs.check_links.Goals as goal

pub loop-i-init : goal.loop-i-init
loop-i-init c =
    linking_begun _ _ _ _ _ _

pub returns-in_err-check : goal.returns-in_err-check
returns-in_err-check c =
    err-number _ _ c.from_residual.ensures
    ∙ linking_found _ _ _ _ _ _ _ _ c.loop-i.invariant c.loop-i-test.true _ c.link_at-link.ensures _ c.in_err-check.ensures

pub rank-least-requires-clause-among : goal.rank-least-requires-clause-among
rank-least-requires-clause-among c =
    linking_among _ _ _ _ _ _ _ _ c.loop-i.invariant c.loop-i-test.true _ c.link_at-link.ensures c.in_ok-check.ensures

pub overflow_add-least : goal.overflow_add-least
overflow_add-least c =
    linking_fits _ _ _ _ _ _ _ _ c.loop-i.invariant c.loop-i-test.true _ c.link_at-link.ensures c.in_ok-check.ensures _ c.rank-least.ensures c.requires.events_le_most_events

pub loop-i-preserved : goal.loop-i-preserved
loop-i-preserved c =
    linking_next _ _ _ _ _ _ _ _ c.loop-i.invariant c.loop-i-test.true _ c.link_at-link.ensures c.in_ok-check.ensures _ c.rank-least.ensures

pub returns : goal.returns
returns c =
    search linking_done
