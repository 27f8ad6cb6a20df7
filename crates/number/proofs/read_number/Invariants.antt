use Prim.Native.Nat.{◌-◌}
use Rattle.number.specs.Number.{groups}
use Rattle.number.proofs.Groups.{Reading}
use Rattle.number.proofs.read_number.Given as goal

abbrev pub invariant-loop : goal.invariant-loop
invariant-loop l = Reading l.bytes l.at l.place (groups - l.counter) l.least l.value l.scale
