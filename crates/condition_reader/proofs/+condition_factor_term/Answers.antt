use mathlib.Core.Path.{refl, sym, ◌∙◌}
use native.Mathlib.Omega.{arith}
use borrow.Author.Rules.{rules}
use Rattle.condition_reader.specs.Told.{Phrase.disjunction, Phrase.conjunction, Phrase.single}
use Rattle.condition_reader.proofs.Cycle.{passed_on, join_refused, join_alone, join_broken, join_falls, join_more, factor_equation, factor_deep_not, factor_deep_bracket, factor_falls, factor_not, factor_bracket, closed_refused, closed_open, closed_shut}
use Rattle.condition_reader.proofs.+condition_factor_term.Goals as goal

pub condition-returns-in_err-first : goal.condition-returns-in_err-first
condition-returns-in_err-first t c =
    passed_on _ _ _ _ _ _ _ _ _ c.from_residual.ensures
    (join_refused disjunction tt _ _ _ _ _ _ _ c.in_err-first.ensures _ _ refl)

pub condition-returns-in_err-q : goal.condition-returns-in_err-q
condition-returns-in_err-q t c =
    passed_on _ _ _ _ _ _ _ _ _ c.from_residual-in_err-q.ensures
    (join_broken disjunction tt _ _ _ _ _ _ _ c.in_ok-first.ensures _ _ refl _ _ c.in_err-q.ensures)

pub condition-returns-in_default : goal.condition-returns-in_default
condition-returns-in_default t c =
    join_alone disjunction tt _ _ _ _ _ _ _ c.in_ok-first.ensures _ _ refl (rw c.in_default.is at c.in_ok-q.ensures)

pub condition-condition-requires : goal.condition-condition-requires
condition-condition-requires t c =
    let falls = join_falls conjunction _ _ _ _ _ _ _ _ c.in_ok-first.ensures 92 47 (omega arith) _ (rw c.in-Some.is at c.in_ok-q.ensures) in
    search rules

pub condition-returns-in_err-rest : goal.condition-returns-in_err-rest
condition-returns-in_err-rest t c =
    let z = rw c.in-Some.is at c.in_ok-q.ensures in
    passed_on _ _ _ _ _ _ _ _ _ c.from_residual-in_err-rest.ensures
    (join_more disjunction tt _ _ _ _ _ _ _ c.in_ok-first.ensures _ _ refl _ _ _ z c.in_err-rest.ensures refl)

pub condition-returns-then-first : goal.condition-returns-then-first
condition-returns-then-first t c =
    let z = rw c.in-Some.is at c.in_ok-q.ensures in
    join_more disjunction tt _ _ _ _ _ _ _ c.in_ok-first.ensures _ _ refl _ _ _ z c.in_ok-rest.ensures (rw c.if-first.true)

pub condition-returns-else-first : goal.condition-returns-else-first
condition-returns-else-first t c =
    let z = rw c.in-Some.is at c.in_ok-q.ensures in
    join_more disjunction tt _ _ _ _ _ _ _ c.in_ok-first.ensures _ _ refl _ _ _ z c.in_ok-rest.ensures (rw c.if-first.false)

pub term-returns-in_err-first : goal.term-returns-in_err-first
term-returns-in_err-first t c =
    passed_on _ _ _ _ _ _ _ _ _ c.from_residual.ensures
    (join_refused conjunction tt _ _ _ _ _ _ _ c.in_err-first.ensures _ _ refl)

pub term-returns-in_err-q : goal.term-returns-in_err-q
term-returns-in_err-q t c =
    passed_on _ _ _ _ _ _ _ _ _ c.from_residual-in_err-q.ensures
    (join_broken conjunction tt _ _ _ _ _ _ _ c.in_ok-first.ensures _ _ refl _ _ c.in_err-q.ensures)

pub term-returns-in_default : goal.term-returns-in_default
term-returns-in_default t c =
    join_alone conjunction tt _ _ _ _ _ _ _ c.in_ok-first.ensures _ _ refl (rw c.in_default.is at c.in_ok-q.ensures)

pub term-term-requires : goal.term-term-requires
term-term-requires t c =
    let falls = join_falls single _ _ _ _ _ _ _ _ c.in_ok-first.ensures 47 92 (omega arith) _ (rw c.in-Some.is at c.in_ok-q.ensures) in
    search rules

pub term-returns-in_err-rest : goal.term-returns-in_err-rest
term-returns-in_err-rest t c =
    let z = rw c.in-Some.is at c.in_ok-q.ensures in
    passed_on _ _ _ _ _ _ _ _ _ c.from_residual-in_err-rest.ensures
    (join_more conjunction tt _ _ _ _ _ _ _ c.in_ok-first.ensures _ _ refl _ _ _ z c.in_err-rest.ensures refl)

pub term-returns-then-first : goal.term-returns-then-first
term-returns-then-first t c =
    let z = rw c.in-Some.is at c.in_ok-q.ensures in
    join_more conjunction tt _ _ _ _ _ _ _ c.in_ok-first.ensures _ _ refl _ _ _ z c.in_ok-rest.ensures (rw c.if-first.true)

pub term-returns-else-first : goal.term-returns-else-first
term-returns-else-first t c =
    let z = rw c.in-Some.is at c.in_ok-q.ensures in
    join_more conjunction tt _ _ _ _ _ _ _ c.in_ok-first.ensures _ _ refl _ _ _ z c.in_ok-rest.ensures (rw c.if-first.false)

pub factor-returns-then-left-eq0 : goal.factor-returns-then-left-eq0
factor-returns-then-left-eq0 t c =
    rw c.at.ensures (factor_deep_not _ _ _ _ _ _ (sym c.stands.ensures ∙ c.if-stands.true) c.if-left-eq0.true)

pub factor-factor-requires : goal.factor-factor-requires
factor-factor-requires t c =
    let x = sym c.stands.ensures ∙ c.if-stands.true in
    search (rules, factor_falls)

pub factor-returns-in_err-inner : goal.factor-returns-in_err-inner
factor-returns-in_err-inner t c =
    passed_on _ _ _ _ _ _ _ _ _ c.from_residual.ensures
    (factor_not _ _ _ _ _ _ _ c.skip.ensures _ _ c.if-left-eq0.false (sym c.stands.ensures ∙ c.if-stands.true) c.in_err-inner.ensures refl)

pub factor-returns-then-stands : goal.factor-returns-then-stands
factor-returns-then-stands t c =
    factor_not _ _ _ _ _ _ _ c.skip.ensures _ _ c.if-left-eq0.false (sym c.stands.ensures ∙ c.if-stands.true) c.in_ok-inner.ensures refl

pub factor-returns-then-left-eq0-2 : goal.factor-returns-then-left-eq0-2
factor-returns-then-left-eq0-2 t c =
    rw c.at-then-left-eq0-2.ensures (factor_deep_bracket _ _ _ _ _ _ (sym c.stands.ensures ∙ c.if-stands.false) (sym c.stands-2.ensures ∙ c.if-stands-2.true) c.if-left-eq0-2.true)

pub factor-condition-requires : goal.factor-condition-requires
factor-condition-requires t c =
    let x = sym c.stands-2.ensures ∙ c.if-stands-2.true in
    search (rules, factor_falls)

pub factor-returns-in_err-inner-2 : goal.factor-returns-in_err-inner-2
factor-returns-in_err-inner-2 t c =
    passed_on _ _ _ _ _ _ _ _ _ c.from_residual-in_err-inner-2.ensures
    (factor_bracket _ _ _ _ _ _ _ c.skip-then-stands-2.ensures _ _ c.if-left-eq0-2.false (sym c.stands.ensures ∙ c.if-stands.false) (sym c.stands-2.ensures ∙ c.if-stands-2.true)
    c.in_err-inner-2.ensures (closed_refused _ _ _))

pub factor-returns-in_err-end : goal.factor-returns-in_err-end
factor-returns-in_err-end t c =
    passed_on _ _ _ _ _ _ _ _ _ c.from_residual-in_err-end.ensures
    (factor_bracket _ _ _ _ _ _ _ c.skip-then-stands-2.ensures _ _ c.if-left-eq0-2.false (sym c.stands.ensures ∙ c.if-stands.false) (sym c.stands-2.ensures ∙ c.if-stands-2.true)
    c.in_ok-inner-2.ensures (closed_open _ _ _ _ _ c.in_err-end.ensures))

pub factor-returns-then-stands-2 : goal.factor-returns-then-stands-2
factor-returns-then-stands-2 t c =
    factor_bracket _ _ _ _ _ _ _ c.skip-then-stands-2.ensures _ _ c.if-left-eq0-2.false (sym c.stands.ensures ∙ c.if-stands.false) (sym c.stands-2.ensures ∙ c.if-stands-2.true)
    c.in_ok-inner-2.ensures (closed_shut _ _ _ _ _ c.in_ok-end.ensures c.skip-then-stands-2-2.ensures)

pub factor-returns : goal.factor-returns
factor-returns t c =
    factor_equation _ _ _ _ _ _ _ (sym c.stands.ensures ∙ c.if-stands.false) (sym c.stands-2.ensures ∙ c.if-stands-2.false) c.equation.ensures
