-- `log_pieces::judge_records` meets its contract. Assumes nothing.
use Prim.Native.Nat.{◌<◌}
use mathlib.Core.Path.{refl, sym, subst}
use Rattle.log_model.specs.Pieces.{run}
use Rattle.log_pieces.specs.Shown.{Turn, going_at}
use Rattle.log_pieces.proofs.Going.{Going, first, onward, less, left}
use Rattle.log_pieces.proofs.judge_records.Goals as goal

pub loop-next-init : goal.loop-next-init
loop-next-init c = first _ _

pub loop-next-preserved : goal.loop-next-preserved
loop-next-preserved c =
    let s = c.args.bytes.now in
    subst (Going s (run s c.args.tally.now)) (sym c.in-Ok.ensures) (onward s c.type_inv.bytes _ _ c.loop-next.invariant refl)

pub loop-next-smaller : goal.loop-next-smaller
loop-next-smaller c =
    let s = c.args.bytes.now in
    subst (λ (m : Turn). left s m.step < left s (going_at c.loop-next.judged)) (sym c.in-Ok.ensures) (less s c.type_inv.bytes _ _ c.loop-next.invariant refl)

pub returns-in-Err : goal.returns-in-Err
returns-in-Err c =
    let s = c.args.bytes.now in
    let G = subst (Going s (run s c.args.tally.now)) (sym c.in-Err.ensures) (onward s c.type_inv.bytes _ _ c.loop-next.invariant refl) in
    G.stops refl
