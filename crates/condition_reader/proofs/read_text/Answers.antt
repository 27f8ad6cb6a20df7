use mathlib.Core.Path.{refl, ◌∙◌}
use Rattle.condition_reader.proofs.Passing.{told-err}
use Rattle.condition_reader.proofs.Cycle.{text-long, text-whole, text-more, text-refused}
use Rattle.condition_reader.proofs.read_text.Goals as goal

pub returns-then-text-gt-MOST_TEXT : goal.returns-then-text-gt-MOST_TEXT
returns-then-text-gt-MOST_TEXT c =
    rw c.at.ensures (text-long _ _ _ _ c.if-text-gt-MOST_TEXT.true)

pub returns-in_err-truth : goal.returns-in_err-truth
returns-in_err-truth c =
    told-err _ _ c.from_residual.ensures ∙ text-refused _ _ _ _ _ _ c.if-text-gt-MOST_TEXT.false c.skip.ensures c.in_err-truth.ensures _ _ refl

pub returns-then-end-text : goal.returns-then-end-text
returns-then-end-text c =
    text-whole _ _ _ _ _ _ c.if-text-gt-MOST_TEXT.false c.skip.ensures c.in_ok-truth.ensures _ _ refl c.if-end-text.true

pub returns-else-end-text : goal.returns-else-end-text
returns-else-end-text c =
    rw c.at-else-end-text.ensures (text-more _ _ _ _ _ _ c.if-text-gt-MOST_TEXT.false c.skip.ensures c.in_ok-truth.ensures _ _ refl c.if-end-text.false)
