-- `rules::fresh_load` meets its contract. Assumes nothing.
use Prim.Native.Nat.{◌<◌}
use native.Mathlib.Omega.{arith}
use mathlib.Core.Path.{sym, ap, ◌∙◌}
use mathlib.Core.Bool.{◌&&◌}
use lib.Dec.{eqb}
use lib.ListN.{get_or}
use Rattle.model.specs.Limits.{most_addresses}
use Rattle.bits.proofs.Bits.{bit-zero}
use Rattle.rows.proofs.SetLaws.{so_set}
use Rattle.rules.proofs.fresh_load.Goals as goal

pub bounds-initial-x : goal.bounds-initial-x
bounds-initial-x c =
    let x : get_or c.args.addresses.now c.args.l 0 < most_addresses = c.requires.l_bound (sym c.has.ensures ∙ c.if-has.true) in
    omega (arith, c.from-x.ensures)

pub returns-then-has : goal.returns-then-has
returns-then-has c =
    so_set {t = eqb (get_or c.args.values.now c.args.l 0) (get_or c.args.initial.now (get_or c.args.addresses.now c.args.l 0) 0)} (rw c.from-x.ensures at c.where_so.ensures)
    (ap (λ t. t && eqb (get_or c.args.values.now c.args.l 0) (get_or c.args.initial.now (get_or c.args.addresses.now c.args.l 0) 0)) (sym (sym c.has.ensures ∙ c.if-has.true)))
    c.alone.ensures

pub returns-else-has : goal.returns-else-has
returns-else-has c =
    record { has = λ e. bit-zero e ∙ ap (λ t. t && eqb (get_or c.args.values.now c.args.l 0) (get_or c.args.initial.now (get_or c.args.addresses.now c.args.l 0) 0) && eqb e c.args.l) (sym (sym c.has.ensures ∙ c.if-has.false)) }
