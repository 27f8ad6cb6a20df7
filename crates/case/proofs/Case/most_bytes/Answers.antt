-- `case::Case::most_bytes` meets its contract. Assumes nothing.
use mathlib.Core.Path.{sym, ap, ◌∙◌}
use borrow.Author.Tests.{ne_eqb}
use Rattle.laws.proofs.Bound.{most_is, most_first}
use Rattle.model.specs.Bound.{most_bytes}
use Rattle.case.proofs.Case.most_bytes.Goals as goal

pub returns-then-edition-eq-SECOND_EDITION : goal.returns-then-edition-eq-SECOND_EDITION
returns-then-edition-eq-SECOND_EDITION c =
    sym (ap most_bytes c.if-edition-eq-SECOND_EDITION.true ∙ most_is.1)

pub returns-else-edition-eq-SECOND_EDITION : goal.returns-else-edition-eq-SECOND_EDITION
returns-else-edition-eq-SECOND_EDITION c =
    sym (most_first _ (ne_eqb _ _ c.if-edition-eq-SECOND_EDITION.false) ∙ most_is.0)
