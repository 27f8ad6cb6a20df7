-- `area::append_at` meets its contract. Assumes nothing.
use Rattle.std.proofs.Common.{◌≡◌, Err, rules}
use mathlib.Core.Path.{sym, subst}
use Rattle.std.proofs.Common.{take}
use Rattle.area_model.specs.Area.{append_at}
use Rattle.area.specs.Shown.{stores_given, Answered}
use Rattle.area.proofs.Appending.{room_for, stored, not-stored}
use Rattle.area.proofs.append_at.Goals as goal

pub returns-in_err-check_room : goal.returns-in_err-check_room
returns-in_err-check_room c =
    let a = c.args in
    let k = c.in_err-check_room.field-0.0 in
    let h : c.from_residual.result ≡ Err (record { cause = k; place = 0 }) = search rules in
    subst (λ r. Answered (append_at a.end a.allowed (take a.size a.bytes.now) a.area.now) (stores_given r) a.area.now) (sym h)
    (not-stored _ _ _ _ _ c.requires.0 k c.in_err-check_room.ensures)

pub store_frame-requires : goal.store_frame-requires
store_frame-requires c =
    (c.requires.0, room_for _ _ _ c.in_ok-check_room.ensures)

pub returns : goal.returns
returns c =
    stored _ _ _ _ _ c.requires.0 c.in_ok-check_room.ensures _ _ c.store_frame.ensures
