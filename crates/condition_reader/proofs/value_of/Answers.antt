use native.Mathlib.Omega.{arith}
use Rattle.condition_model.specs.Reader.{is_digit}
use Rattle.condition_reader.proofs.Places.{end_fits, passed_none, read_inside, least, sum_fits, passed_next, passed_big, passed_all}
use Rattle.condition_reader.proofs.value_of.Goals as goal

pub overflow_add-end : goal.overflow_add-end
overflow_add-end c =
    end_fits is_digit c.args.text.now c.args.at _ c.requires (omega arith) (omega arith)

pub loop-i-init : goal.loop-i-init
loop-i-init c =
    passed_none _ _

pub bounds-text-i : goal.bounds-text-i
bounds-text-i c =
    read_inside _ _ _ c.requires _ _ c.loop-i.invariant c.loop-i-test.true

pub overflow_sub-text : goal.overflow_sub-text
overflow_sub-text c =
    least _ _ _ c.requires _ _ c.loop-i.invariant c.loop-i-test.true

pub overflow_add-value : goal.overflow_add-value
overflow_add-value c =
    sum_fits _ _ _ c.requires _ _ c.loop-i.invariant c.loop-i-test.true _ c.from.ensures

pub returns-then-from-value : goal.returns-then-from-value
returns-then-from-value c =
    rw c.at.ensures (passed_big _ _ _ c.requires _ _ c.loop-i.invariant c.loop-i-test.true _ c.from.ensures (omega arith))

pub loop-i-preserved : goal.loop-i-preserved
loop-i-preserved c =
    passed_next _ _ _ c.requires _ _ c.loop-i.invariant c.loop-i-test.true _ c.from.ensures (omega arith)

pub returns : goal.returns
returns c =
    passed_all _ _ _ c.requires _ _ c.loop-i.invariant c.loop-i-test.false
