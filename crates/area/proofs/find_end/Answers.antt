-- `area::find_end` meets its contract. Assumes nothing.
use Rattle.std.proofs.Common.{◌≡◌, Err, rules}
use native.Mathlib.Omega.{arith}
use mathlib.Core.Path.{sym, subst}
use Rattle.area_model.specs.Area.{found}
use Rattle.area.specs.Shown.{EndOf}
use Rattle.area.proofs.Framing.{begun, frame-within, found-end, found-fault, one_more}
use Rattle.area.proofs.find_end.Goals as goal

pub loop-size-init : goal.loop-size-init
loop-size-init c =
    begun _

pub returns-in_err-size : goal.returns-in_err-size
returns-in_err-size c =
    let h : c.from_residual.result ≡ Err c.in_err-size.field-0.0 = search rules in
    subst (EndOf (found c.args.area.now)) (sym h) (found-fault _ _ c.loop-size.invariant _ c.in_err-size.ensures)

pub overflow_add-at : goal.overflow_add-at
overflow_add-at c =
    let h = rw c.in-Some.is at c.in_ok-size.ensures in
    omega (arith, frame-within _ _ _ h)

pub overflow_add-at-in-Some : goal.overflow_add-at-in-Some
overflow_add-at-in-Some c =
    let h = rw c.in-Some.is at c.in_ok-size.ensures in
    omega (arith, frame-within _ _ _ h)

pub loop-size-smaller : goal.loop-size-smaller
loop-size-smaller c =
    let h = rw c.in-Some.is at c.in_ok-size.ensures in
    omega (arith, frame-within _ _ _ h)

pub loop-size-preserved : goal.loop-size-preserved
loop-size-preserved c =
    let h = rw c.in-Some.is at c.in_ok-size.ensures in
    one_more _ _ c.loop-size.invariant _ h

pub returns : goal.returns
returns c =
    found-end _ _ c.loop-size.invariant (rw c.in_default.is at c.in_ok-size.ensures)
