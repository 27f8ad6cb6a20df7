use Prim.Native.Nat.{◌+◌, ◌-◌}
use mathlib.Core.Path.{◌≡◌}
use native.Mathlib.Omega.{arith}
use Rattle.number.specs.Number.{groups}
use Rattle.number.proofs.Groups.{start, none_left, ends, wrong-last, too_large, number, goes_on, product_fits, scale_fits}
use Rattle.number.proofs.read_number.Goals as goal

pub loop-init : goal.loop-init
loop-init c =
    start _ _

pub returns-then-bytes-place : goal.returns-then-bytes-place
returns-then-bytes-place c =
    rw c.at.ensures (ends _ _ _ _ _ _ _ _ c.loop.invariant (omega arith) c.if-bytes-place.true)

pub returns-then-b-least : goal.returns-then-b-least
returns-then-b-least c =
    rw c.at-then-b-least.ensures (wrong-last _ _ _ _ _ _ _ _ c.loop.invariant (omega arith) _ c.from-b.ensures c.if-bytes-place.false c.if-b-lt128.true c.if-b-least.true)

pub overflow_mul-v : goal.overflow_mul-v
overflow_mul-v c =
    omega (arith, product_fits _ _ 0 _ _ _ _ _ c.loop.invariant c.from-b.result (omega arith) c.if-b-lt128.true)

pub overflow_add-v : goal.overflow_add-v
overflow_add-v c =
    omega (arith, product_fits _ _ 0 _ _ _ _ _ c.loop.invariant c.from-b.result (omega arith) c.if-b-lt128.true)

pub returns-then-from-v : goal.returns-then-from-v
returns-then-from-v c =
    rw c.at-then-from-v.ensures (too_large _ _ _ _ _ _ _ _ c.loop.invariant (omega arith) _ c.from-b.ensures c.if-bytes-place.false c.if-b-lt128.true c.if-b-least.false (omega (arith, c.from.ensures)))

pub returns-then-b-lt128 : goal.returns-then-b-lt128
returns-then-b-lt128 c =
    number _ _ _ _ _ _ _ _ c.loop.invariant (omega arith) _ c.from-b.ensures c.if-bytes-place.false c.if-b-lt128.true c.if-b-least.false (omega (arith, c.from.ensures))

pub overflow_mul-value : goal.overflow_mul-value
overflow_mul-value c =
    omega (arith, product_fits _ _ 0 _ _ _ _ _ c.loop.invariant (c.from-b.result - 128) (omega arith) (omega (arith, c.type_inv.bytes c.loop.place)))

pub overflow_add-value : goal.overflow_add-value
overflow_add-value c =
    omega (arith, product_fits _ _ 0 _ _ _ _ _ c.loop.invariant (c.from-b.result - 128) (omega arith) (omega (arith, c.type_inv.bytes c.loop.place)))

pub overflow_mul-scale : goal.overflow_mul-scale
overflow_mul-scale c =
    omega (arith, scale_fits _ _ 0 _ _ _ _ _ c.loop.invariant (omega arith))

pub loop-preserved : goal.loop-preserved
loop-preserved c =
    let left : groups - (c.loop.counter + 1) ≡ groups - c.loop.counter - 1 = omega arith in
    rw left (goes_on _ _ 0 _ _ _ _ _ c.loop.invariant (omega arith) _ c.from-b.ensures c.if-bytes-place.false c.if-b-lt128.false (omega (arith, c.type_inv.bytes c.loop.place)))

pub returns : goal.returns
returns c =
    rw c.at-2.ensures (none_left _ _ _ _ _ _ _ _ c.loop.invariant (omega arith))
