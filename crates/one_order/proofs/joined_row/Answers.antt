-- `one_order::joined_row` meets its contract. Assumes nothing.
use Prim.Native.Nat.{ℕ, ◌-◌}
use borrow.Author.Rules.{rules}
use native.Mathlib.Nat.{zero-min}
use native.Mathlib.Omega.{arith}
use mathlib.Core.Path.{sym, ap, ◌∙◌}
use Rattle.rows.specs.Sets.{row_in, order_in}
use Rattle.rows.proofs.SetLaws.{as_set}
use Rattle.one_order.proofs.Joins.{join_first, join_next, join_all}
use Rattle.one_order.proofs.joined_row.Goals as goal

pub loop-q-init : goal.loop-q-init
loop-q-init c =
    join_first (omega arith) (as_set (c.row-shared.ensures ∙ ap (λ (q : ℕ). row_in c.args.rows.now q c.args.e) (sym (zero-min (c.args.n - 1)))))

pub loop-q-preserved : goal.loop-q-preserved
loop-q-preserved c =
    join_next c.loop-q.invariant c.loop-q-test.true
    (as_set (c.row.ensures ∙ ap (λ (q : ℕ). row_in c.args.rows.now q c.args.e) c.min.ensures)) c.both-shared.ensures

pub returns : goal.returns
returns c =
    join_all c.args.n (λ q g. order_in c.args.rows.now q c.args.e g) c.loop-q.invariant c.loop-q-test.false (search rules) (search rules)
