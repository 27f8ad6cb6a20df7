-- `area::frame_size` meets its contract. Assumes nothing.
use Rattle.std.proofs.Common.{◌≡◌, Err, rules}
use native.Mathlib.Omega.{arith}
use mathlib.Core.Path.{ap, ◌∙◌}
use Rattle.area.specs.Shown.{frame_told}
use Rattle.area.proofs.Framing.{at_end, is-unused, is-finished, is_bad}
use Rattle.area.proofs.frame_size.Goals as goal

pub returns-then-area-at : goal.returns-then-area-at
returns-then-area-at c =
    at_end _ _ c.if-area-at.true

pub returns-in_err-finished_size-in-0 : goal.returns-in_err-finished_size-in-0
returns-in_err-finished_size-in-0 c =
    let h : c.from_residual.result ≡ Err c.in_err-finished_size-in-0.field-0.0 = search rules in
    ap frame_told h ∙ is-finished _ _ c.if-area-at.false c.in-0.is _ c.in_err-finished_size-in-0.ensures

pub returns-in-255 : goal.returns-in-255
returns-in-255 c =
    is-unused _ _ c.if-area-at.false c.in-255.is

pub returns-in_ok-finished_size-in-0 : goal.returns-in_ok-finished_size-in-0
returns-in_ok-finished_size-in-0 c =
    is-finished _ _ c.if-area-at.false c.in-0.is _ c.in_ok-finished_size-in-0.ensures

pub returns-in_default : goal.returns-in_default
returns-in_default c =
    let h = c.in_default in
    is_bad _ _ c.if-area-at.false (λ e. omega arith) (λ e. omega arith)
