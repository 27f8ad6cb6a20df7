-- The most bytes that a record takes, from the limits (01: "record bytes").
-- Assumes nothing.
use Rattle.std.specs.Prelude.{ℕ, ◌+◌, ◌-◌, ◌*◌, ◌/◌, cond}
pub use Rattle.number.specs.Number.{size}
use Rattle.model.specs.Limits.{most_edition, second, most_threads, most_addresses, most_events, most_dependencies, most_value, most_name}
use Rattle.model.specs.Case.{most_kind, most_class}

unfoldable pub most_event_bytes : ℕ
most_event_bytes = size (most_kind most_edition) + (size (most_threads - 1) + (size (most_addresses - 1) + size most_value))

unfoldable pub most_order_bytes : ℕ
most_order_bytes = size (most_events * most_events) + (most_events * most_events) * (size (most_events - 1) + size (most_events - 1))

unfoldable pub most_dependency_bytes : ℕ
most_dependency_bytes = size most_class + (size (most_events - 1) + size (most_events - 1))

-- one load begins at most a dependency of each class to each event
abbrev pub most_from_one : ℕ
most_from_one = most_events * (most_class + 1)

-- the fewest loads that begin as many dependencies as there may be
abbrev pub least_loads : ℕ
least_loads = (most_dependencies + (most_from_one - 1)) / most_from_one

-- of dependencies and write orders. Where there are the most dependencies, some events are loads, which stand in no write order
unfoldable pub most_link_bytes : (edition : ℕ) → ℕ
most_link_bytes edition =
    cond (second edition)
    (size most_dependencies + (most_dependencies * most_dependency_bytes + (most_events - least_loads) * size (most_events - 1)))
    (most_events * size (most_events - 1))

-- 01: "record bytes"; 02 (xii): "An edition 1 record may be 33,409 bytes", (viii): "edition 2 has 288 more"
unfoldable pub most_bytes : (edition : ℕ) → ℕ
most_bytes edition =
    size most_edition + (size most_threads + (size most_addresses + (most_addresses * size most_value
    + (size most_events + (most_events * most_event_bytes
    + (most_link_bytes edition
    + (most_threads * most_order_bytes
    + (size most_name + most_name))))))))
