-- `area::append_read` meets its contract. Assumes nothing.
use Rattle.std.proofs.Common.{◌≡◌, Err, rules}
use mathlib.Core.Path.{sym, subst}
use Rattle.answers.specs.declared.Cause.TheVariants.{Fault}
use Rattle.model.specs.Record.{read}
use Rattle.area_model.specs.Area.{append_read}
use Rattle.area.specs.Shown.{stores_given, Answered}
use Rattle.area.proofs.Appending.{record_within, record_appended, record_refused}
use Rattle.area.proofs.append_read.Goals as goal

pub returns-in_err-reading : goal.returns-in_err-reading
returns-in_err-reading c =
    let a = c.args in
    let e = c.in_err-reading.field-0.0 in
    let h : c.from_residual.result ≡ Err (record { cause = Fault e.fault; place = e.place }) = search rules in
    subst (λ r. Answered (append_read a.end a.allowed a.bytes.now a.area.now (read a.bytes.now)) (stores_given r) a.area.now) (sym h)
    (record_refused _ e c.in_err-reading.ensures _ _ _)

pub append_at-requires : goal.append_at-requires
append_at-requires c =
    (record_within _ _ c.in_ok-reading.ensures, c.requires)

pub returns : goal.returns
returns c =
    record_appended _ _ c.in_ok-reading.ensures _ _ _ _ _ c.append_at.ensures
