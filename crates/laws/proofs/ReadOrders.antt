-- Reading back the orders of all threads.
-- Assumes nothing.
use Prim.Native.Nat.{ℕ, ◌*◌, ◌≤◌}
use native.Mathlib.Nat.{mul-le-mul}
use native.Mathlib.Omega.{arith}
use mathlib.Core.List.{List}
use lib.ListN.{length}
use Rattle.finite.specs.Lists.{each, All}
use Rattle.finite.proofs.All.{all_map}
use Rattle.number.specs.Reader.{times}
use Rattle.codec.proofs.ReadsAs.{ReadsAs, reads_times}
use Rattle.model.specs.Limits.{most_events}
use Rattle.model.specs.Record.{order}
use Rattle.model.specs.Written.{order_bytes}
use Rattle.model.specs.Fits.{RowsFit}
use Rattle.laws.proofs.ReadOrder.{reads_order}

pub reads_all-orders : (k : ℕ) (os : List (List ℕ)) → k ≤ most_events → All (RowsFit k) os → ReadsAs (times (length os) (order k)) (each (order_bytes k) os) os
reads_all-orders k os few h =
    let square : k * k ≤ most_events * most_events = mul-le-mul few few in
    reads_times (order k) (order_bytes k) os (all_map _ _ (λ rows f. reads_order k rows f.0 f.1 (omega arith) (omega arith)) os h)
