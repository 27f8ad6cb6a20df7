-- The most bytes that a trace takes, from the limits.
-- Assumes nothing.
use Rattle.std.specs.Prelude.{ℕ, ◌+◌, ◌-◌, ◌*◌}
use Rattle.number.specs.Number.{size}
use Rattle.model.specs.Limits.{most_threads, most_addresses, most_value}
use Rattle.storage_model.specs.Limits.{most_kind, most_steps}

-- of a step: a read response with the greatest value; there may be as many of these as steps
unfoldable pub most_step_bytes : ℕ
most_step_bytes = size most_kind + (size (most_threads - 1) + (size (most_addresses - 1) + size most_value))

unfoldable pub most_trace_bytes : ℕ
most_trace_bytes = size most_threads + (size most_addresses + (most_addresses * size most_value + (size most_steps + most_steps * most_step_bytes)))
