use Prim.Native.Nat.{◌+◌, ◌%◌, ◌^◌}
use lib.ListN.{get_or}
use Rattle.relabel.proofs.Fill.{Filling}
use Rattle.relabel.proofs.copy_rows.Given as goal

abbrev pub invariant-loop-a : goal.invariant-loop-a
invariant-loop-a l = Filling (λ b. get_or l.rows (l.from + b) 0 % 2 ^ l.k) l.k l.initial.out l.out l.a
