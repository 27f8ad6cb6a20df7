use native.Mathlib.Omega.{arith}
use lib.ListN.{length-set}
use Rattle.number.proofs.Encoding.{begun, inside, turn, finished}
use Rattle.number.proofs.write_number.Goals as goal

pub loop-rest-init : goal.loop-rest-init
loop-rest-init c =
    begun _ _ _ c.requires

pub bounds-out-place : goal.bounds-out-place
bounds-out-place c =
    inside _ _ _ _ _ _ c.loop-rest.invariant

pub overflow_add-place : goal.overflow_add-place
overflow_add-place c =
    omega (arith, inside _ _ _ _ _ _ c.loop-rest.invariant, c.loop-rest.invariant.long)

pub loop-rest-preserved : goal.loop-rest-preserved
loop-rest-preserved c =
    turn _ _ _ _ _ _ c.loop-rest.invariant c.loop-rest-test.true

pub bounds-out-place-2 : goal.bounds-out-place-2
bounds-out-place-2 c =
    inside _ _ _ _ _ _ c.loop-rest.invariant

pub overflow_add-result : goal.overflow_add-result
overflow_add-result c =
    omega (arith, inside _ _ _ _ _ _ c.loop-rest.invariant, c.loop-rest.invariant.long)

pub shape_of-out : goal.shape_of-out
shape_of-out c =
    simp length-set c.loop-rest.invariant.long

pub returns : goal.returns
returns c =
    finished _ _ _ _ _ _ c.loop-rest.invariant c.loop-rest-test.false
