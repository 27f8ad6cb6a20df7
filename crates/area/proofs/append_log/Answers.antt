-- `area::append_log` meets its contract. Assumes nothing.
use Rattle.std.proofs.Common.{◌≡◌, Err, rules}
use mathlib.Core.Path.{sym, subst}
use Rattle.area_model.specs.Area.{append}
use Rattle.area.specs.Shown.{stores_given, Answered}
use Rattle.area.proofs.Told.{end-inside}
use Rattle.area.proofs.Appending.{appended, not-appended}
use Rattle.area.proofs.append_log.Goals as goal

pub returns-in_err-end : goal.returns-in_err-end
returns-in_err-end c =
    let a = c.args in
    let h : c.from_residual.result ≡ Err c.in_err-end.field-0.0 = search rules in
    subst (λ r. Answered (append a.area.now a.bytes.now a.allowed) (stores_given r) a.area.now) (sym h) (not-appended _ _ _ _ c.in_err-end.ensures)

pub append_read-requires : goal.append_read-requires
append_read-requires c =
    end-inside _ _ c.in_ok-end.ensures

pub returns : goal.returns
returns c =
    appended _ _ _ _ c.in_ok-end.ensures _ _ c.append_read.ensures
