-- `columns::swap_rows` meets its contract. Assumes nothing.
use Prim.Native.Nat.{◌*◌, ◌^◌}
use Rattle.columns.proofs.Turns.{Swapping}
use Rattle.columns.proofs.swap_rows.Given as goal

abbrev pub invariant-loop-block : goal.invariant-loop-block
invariant-loop-block l = Swapping l.s 0 (2 ^ l.last) (l.block * 2 ^ l.s) l.initial.part l.part
