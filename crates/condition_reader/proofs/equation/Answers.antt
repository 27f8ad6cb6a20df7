use Prim.Native.Nat.{◌<◌}
use lib.ListN.{length}
use native.Mathlib.Omega.{arith}
use Rattle.condition_reader.proofs.Places.{stands_inside}
use mathlib.Core.Path.{sym, ◌∙◌}
use Rattle.condition_reader.proofs.Passing.{told-err}
use Rattle.condition_reader.proofs.Equations.{equation-none, letter-read, equation_by_letter, equation-refused, equation-outside, equation_read, narrow_named, none_named, one_named}
use Rattle.condition_reader.proofs.equation.Goals.{then-not-memory+in_ok-expect, else-not-memory}
use Rattle.condition_reader.proofs.equation.Goals as goal

pub returns-in_err-expect : goal.returns-in_err-expect
returns-in_err-expect c =
    let known = c.args.known.now in
    told-err _ _ c.from_residual.ensures
    ∙ equation-none known.finals.now known.kinds.now known.values.now _ _ _ _ (sym c.stands-memory.ensures ∙ c.if-not-memory.true) c.in_err-expect.ensures

pub overflow_add-start : goal.overflow_add-start
overflow_add-start c =
    let known = c.args.known.now in
    let inside : c.args.at < length c.args.text.now =
    elim c.if-not-memory.branch [ then-not-memory+in_ok-expect w ↦ stands_inside _ _ 101 (omega arith) (letter-read known.finals.now known.kinds.now known.values.now _ _ _ w.in_ok-expect.ensures) | else-not-memory w ↦ stands_inside _ _ 109 (omega arith) (sym c.stands-memory.ensures ∙ w.if-not-memory.false) ] in
    record { fits = omega arith }

pub returns-in_err-n : goal.returns-in_err-n
returns-in_err-n c =
    let known = c.args.known.now in
    told-err _ _ c.from_residual-in_err-n.ensures
    ∙ equation_by_letter known.finals.now known.kinds.now known.values.now _ _ _ c.stands-memory.ensures
    (elim c.if-not-memory.branch [ then-not-memory+in_ok-expect w ↦ λ h. letter-read known.finals.now known.kinds.now known.values.now _ _ _ w.in_ok-expect.ensures | else-not-memory w ↦ λ h. cc (w.if-not-memory.false) ]) _
    (equation-refused _ _ _ _ (narrow_named _ _ _ _ known.small) _ _ c.in_err-n.ensures)

pub returns-in_default : goal.returns-in_default
returns-in_default c =
    let known = c.args.known.now in
    rw c.at.ensures
    (equation_by_letter known.finals.now known.kinds.now known.values.now _ _ _ c.stands-memory.ensures
    (elim c.if-not-memory.branch [ then-not-memory+in_ok-expect w ↦ λ h. letter-read known.finals.now known.kinds.now known.values.now _ _ _ w.in_ok-expect.ensures | else-not-memory w ↦ λ h. cc (w.if-not-memory.false) ]) _
    (equation-outside _ _ _ _ (narrow_named _ _ _ _ known.small) _ _ c.in_ok-n.ensures (none_named _ _ _ _ _ _ c.held.ensures c.in_default.is)))

pub returns : goal.returns
returns c =
    let known = c.args.known.now in
    let found = one_named _ _ _ _ _ _ c.held.ensures _ c.in-Some.is in
    equation_by_letter known.finals.now known.kinds.now known.values.now _ _ _ c.stands-memory.ensures
    (elim c.if-not-memory.branch [ then-not-memory+in_ok-expect w ↦ λ h. letter-read known.finals.now known.kinds.now known.values.now _ _ _ w.in_ok-expect.ensures | else-not-memory w ↦ λ h. cc (w.if-not-memory.false) ]) _
    (equation_read _ _ _ _ (narrow_named _ _ _ _ known.small) _ _ c.in_ok-n.ensures _ _ found.0 c.skip.ensures (rw (← found.1) c.valued.ensures))
