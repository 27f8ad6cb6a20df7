-- A trace's bytes.
-- Assumes nothing.
use Rattle.std.specs.Prelude.{ℕ, List, ◌++◌, length}
use Rattle.finite.specs.Lists.{each}
use Rattle.number.specs.Number.{encode}
use Rattle.storage_model.specs.Trace.{Trace, Step, accept_write, accept_barrier, propagate_write, propagate_barrier, commit, respond, acknowledge}

unfoldable pub step_bytes : Step → List ℕ
step_bytes (accept_write t a v) = encode 1 ++ (encode t ++ (encode a ++ encode v))
step_bytes (accept_barrier t c) = encode 2 ++ (encode t ++ encode c)
step_bytes (propagate_write w t) = encode 3 ++ (encode w ++ encode t)
step_bytes (propagate_barrier b t) = encode 4 ++ (encode b ++ encode t)
step_bytes (commit x y) = encode 5 ++ (encode x ++ encode y)
step_bytes (respond t a v) = encode 6 ++ (encode t ++ (encode a ++ encode v))
step_bytes (acknowledge b) = encode 7 ++ encode b

unfoldable pub trace_bytes : Trace → List ℕ
trace_bytes t =
    encode t.n ++ (encode t.m ++ (each encode t.initials ++ (encode (length t.steps) ++ each step_bytes t.steps)))
