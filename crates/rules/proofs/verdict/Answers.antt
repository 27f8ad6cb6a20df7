-- `rules::verdict` meets its contract. Assumes nothing.
use mathlib.Core.Path.{sym, ◌∙◌}
use Rattle.std.proofs.lemmas.Result.{err_from_is_err_and}
use Rattle.rules.specs.Models.{model_of}
use Rattle.rules.proofs.Same.{no_zero, by_order, by_value, by_barrier}
use Rattle.rules.proofs.verdict.Goals as goal

pub returns-in_err-check_order : goal.returns-in_err-check_order
returns-in_err-check_order c =
    let order = c.in_err-check_order.ensures in
    let p = err_from_is_err_and c.from_residual.result c.from_residual.ensures.1 in
    rw (p.1, p.2) (order ∙ by_order c.args.c (model_of c.args.model) (λ x. no_zero c.in_err-check_order.field-0.0 (order ∙ x)))

pub returns-in_err-check_values : goal.returns-in_err-check_values
returns-in_err-check_values c =
    let value = c.in_err-check_values.ensures in
    let p = err_from_is_err_and c.from_residual-in_err-check_values.result c.from_residual-in_err-check_values.ensures.1 in
    rw (p.1, p.2) (value ∙ by_value c.args.c (model_of c.args.model) (sym c.in_ok-check_order.ensures) (λ x. no_zero c.in_err-check_values.field-0.0 (value ∙ x)))

pub check_barriers-requires : goal.check_barriers-requires
check_barriers-requires c = sym c.in_ok-check_order.ensures

pub returns : goal.returns
returns c =
    c.check_barriers.ensures ∙ by_barrier c.args.c (model_of c.args.model) (sym c.in_ok-check_order.ensures) (sym c.in_ok-check_values.ensures)
