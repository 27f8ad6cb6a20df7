use mathlib.Core.Path.{sym, ◌∙◌}
use Rattle.finite.specs.Tests.{all}
use Rattle.permutation.proofs.Table.{table_at}
use Rattle.permutation.specs.declared.TheConstants.{WORDS}
use mathlib.Core.List.{[]}
use Rattle.permutation.specs.Permutation.{words, image, labels, permutations}
use Rattle.permutation.proofs.Laws.{image_far, image_none}
use Rattle.permutation.proofs.image.Goals as goal
use Rattle.permutation.proofs.image.Goals.{else-q-lt-PERMUTATIONS-via-then-q-lt-PERMUTATIONS+else-x-lt-LABELS, else-q-lt-PERMUTATIONS-via-else-q-lt-PERMUTATIONS}

pub returns-then-x-lt-LABELS : goal.returns-then-x-lt-LABELS
unfolding image words all
returns-then-x-lt-LABELS c =
    let a = c.args in
    c.from.ensures ∙ table_at permutations labels image WORDS [] tt a.q a.x c.if-q-lt-PERMUTATIONS.true c.if-x-lt-LABELS.true

pub returns-else-q-lt-PERMUTATIONS : goal.returns-else-q-lt-PERMUTATIONS
returns-else-q-lt-PERMUTATIONS c =
    let a = c.args in
    elim c.else-q-lt-PERMUTATIONS.branch [
      | else-q-lt-PERMUTATIONS-via-then-q-lt-PERMUTATIONS+else-x-lt-LABELS w ↦ sym (image_far a.q a.x w.if-x-lt-LABELS.false)
      | else-q-lt-PERMUTATIONS-via-else-q-lt-PERMUTATIONS w ↦ sym (image_none a.q a.x w.if-q-lt-PERMUTATIONS.false)
    ]
