-- `case::check` meets its contract. Assumes nothing.
use mathlib.Core.Path.{refl, ◌∙◌}
use Rattle.case.proofs.Numbers.{some-number, err-number}
use Rattle.case.proofs.Means.{bad_head, bad_initial, many_events, bad_listing, bad_links, bad_writes, that_name}
use Rattle.case.proofs.check.Goals.{then-not-head_good-via-then-not-head_good, then-not-head_good-via-else-not-head_good+then-not-initials_good, then-not-head_good-via-else-not-head_good+else-not-initials_good+then-c-gt-MOST_EVENTS, then-not-head_good-via-else-not-head_good+else-not-initials_good+else-c-gt-MOST_EVENTS+then-not-events_good}
use Rattle.case.proofs.check.Goals as goal

pub returns-then-not-head_good : goal.returns-then-not-head_good
returns-then-not-head_good c =
    elim c.then-not-head_good.branch [
      | then-not-head_good-via-then-not-head_good w ↦ search bad_head
      | then-not-head_good-via-else-not-head_good+then-not-initials_good w ↦ search bad_initial
      | then-not-head_good-via-else-not-head_good+else-not-initials_good+then-c-gt-MOST_EVENTS w ↦ search many_events
      | then-not-head_good-via-else-not-head_good+else-not-initials_good+else-c-gt-MOST_EVENTS+then-not-events_good w ↦ search bad_listing
    ]

pub returns-in_err-check_dependencies : goal.returns-in_err-check_dependencies
returns-in_err-check_dependencies c =
    err-number _ _ c.from_residual.ensures
    ∙ bad_links c.args.c _ c.head_good.ensures c.if-not-head_good.false _ c.initials_good.ensures c.if-not-initials_good.false c.if-c-gt-MOST_EVENTS.false
    _ c.events_good.ensures c.if-not-events_good.false _ c.in_err-check_dependencies.ensures (some-number _)

pub returns-in_err-check_write_orders : goal.returns-in_err-check_write_orders
returns-in_err-check_write_orders c =
    err-number _ _ c.from_residual-in_err-check_write_orders.ensures
    ∙ bad_writes c.args.c _ c.head_good.ensures c.if-not-head_good.false _ c.initials_good.ensures c.if-not-initials_good.false c.if-c-gt-MOST_EVENTS.false
    _ c.events_good.ensures c.if-not-events_good.false _ c.in_ok-check_dependencies.ensures refl _ c.in_err-check_write_orders.ensures (some-number _)

pub returns : goal.returns
returns c =
    that_name c.args.c _ c.head_good.ensures c.if-not-head_good.false _ c.initials_good.ensures c.if-not-initials_good.false c.if-c-gt-MOST_EVENTS.false
    _ c.events_good.ensures c.if-not-events_good.false _ c.in_ok-check_dependencies.ensures refl _ c.in_ok-check_write_orders.ensures refl _ c.check_name.ensures
