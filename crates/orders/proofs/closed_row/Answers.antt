-- `orders::closed_row` meets its contract. Assumes nothing.
use Prim.Native.Nat.{ℕ}
use mathlib.Core.Path.{sym, ap, ◌∙◌}
use mathlib.Core.Bool.{◌&&◌}
use Rattle.finite.specs.Tests.{all, some, ◌⇒◌}
use Rattle.rows.specs.Sets.{order_in}
use Rattle.bits.specs.Bit.{bit}
use Rattle.orders.proofs.Laws.{closed-rest}
use Rattle.rows.proofs.SetLaws.{inside-set, as_set, union_inside}
use Rattle.orders.proofs.closed_row.Goals as goal

pub returns-then-not-has : goal.returns-then-not-has
returns-then-not-has c =
    let known = order_in c.args.known.now c.args.p in
    let asked = order_in c.args.asked.now c.args.p in
    c.inside_below.ensures
    ∙ inside-set c.args.k c.after.ensures (as_set c.row.ensures)
    ∙ ap (λ (m : ℕ). all c.args.k (λ e. some c.args.k (λ b. bit m b && known b e) ⇒ asked c.args.a e)) c.row-mine.ensures
    ∙ union_inside c.args.k c.args.k (known c.args.a) known (asked c.args.a)
    ∙ closed-rest c.args.k known asked c.args.a
    (ap (λ (x : ℕ). bit x c.args.a) (sym c.row-mine.ensures) ∙ sym c.has.ensures ∙ c.if-not-has.true)
