-- `litmus::rule11_tests_agree` meets its contract. Assumes nothing.
use borrow.Author.Tests.{eq-eqb}
use mathlib.Core.Path.{sym, ◌∙◌}
use Rattle.litmus.proofs.rule11_tests_agree.Goals as goal

pub returns : goal.returns
returns c =
    eq-eqb _ _ (c.rule11.ensures ∙ sym c.rule11_by_threes.ensures)
