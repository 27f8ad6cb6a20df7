-- `rows::by_label` meets its contract. Assumes nothing.
use Prim.Native.Nat.{ℕ}
use mathlib.Core.Path.{sym, subst, refl}
use mathlib.Core.Bool.{◌&&◌}
use lib.Dec.{eqb, ltb}
use lib.ListN.{get_or}
use Rattle.rows.specs.Sets.{Set}
use Rattle.bits.specs.Bit.{bit}
use Rattle.rows.proofs.Loops.{fills}
use Rattle.rows.proofs.SetLaws.{share, as_set}
use Rattle.rows.proofs.by_label.Goals as goal

pub loop-x-preserved : goal.loop-x-preserved
loop-x-preserved c =
    let s = c.args in
    fills c.loop-x.invariant c.loop-x-test.true
    (subst (λ (r : ℕ). Set r (λ e. bit s.set e && (ltb e s.k && eqb (get_or s.bytes.now e 0) c.loop-x.x))) (sym c.both.ensures)
    (share (as_set refl) c.labelled.ensures))
