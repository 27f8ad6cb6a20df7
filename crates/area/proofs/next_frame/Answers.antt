-- `area::next_frame` meets its contract. Assumes nothing.
use native.Mathlib.Omega.{arith}
use Rattle.area.proofs.Framing.{frame-within}
use Rattle.area.proofs.next_frame.Goals as goal

pub overflow_add-result : goal.overflow_add-result
overflow_add-result c =
    omega (arith, frame-within c.args.area.now c.args.at _ (rw c.in-Ok-Some.field-0-is at c.in-Ok-Some.ensures))
