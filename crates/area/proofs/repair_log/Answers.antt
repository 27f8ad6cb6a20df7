-- `area::repair_log` meets its contract. Assumes nothing.
use Rattle.std.proofs.Common.{◌≡◌, Err, rules}
use mathlib.Core.Path.{sym, subst}
use Rattle.area_model.specs.Area.{repair}
use Rattle.area.specs.Shown.{stores_given, Answered}
use Rattle.area.proofs.Clearing.{repaired, not_repaired}
use Rattle.area.proofs.repair_log.Goals as goal

pub returns-in_err-end : goal.returns-in_err-end
returns-in_err-end c =
    let a = c.args in
    let h : c.from_residual.result ≡ Err c.in_err-end.field-0.0 = search rules in
    subst (λ r. Answered (repair a.area.now a.allowed) (stores_given r) a.area.now) (sym h) (not_repaired _ _ _ c.in_err-end.ensures)

pub returns : goal.returns
returns c =
    repaired _ _ _ c.in_ok-end.ensures _ _ c.clear.ensures
