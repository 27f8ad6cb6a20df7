use mathlib.Core.Path.{refl, sym, ◌∙◌}
use native.Mathlib.Omega.{arith}
use borrow.Author.Rules.{rules}
use borrow.Author.Tests.{tests, le-leb, le-ltb}
use lib.Dec.{ltb}
use Rattle.std.proofs.lemmas.Iterator.{YieldsList-from_range}
use Rattle.std.proofs.lemmas.Iterator.Search.{all_from_yields_List}
use Rattle.permutation.specs.Permutation.{image}
use Rattle.permutation.proofs.Laws.{fits_far, fits_many, fits_by, all-range}
use Rattle.permutation.proofs.fits.Goals as goal

pub returns-then-n-ge-LABELS : goal.returns-then-n-ge-LABELS
returns-then-n-ge-LABELS c =
    le-leb _ c.args.n c.if-n-ge-LABELS.true ∙ sym (fits_many c.args.q c.args.n c.if-q-lt-PERMUTATIONS.true c.if-n-ge-LABELS.true)

pub returns-else-n-ge-LABELS : goal.returns-else-n-ge-LABELS
returns-else-n-ge-LABELS c =
    let a = c.args in
    all_from_yields_List (λ x. ltb (image a.q x) a.n) _ _ c.all.result c.all.ensures.ran (YieldsList-from_range 0 a.n a.n refl (omega arith)) (λ x b q k. search (rules, tests))
    ∙ all-range a.n _ ∙ fits_by a.q a.n c.if-q-lt-PERMUTATIONS.true

pub returns-else-q-lt-PERMUTATIONS : goal.returns-else-q-lt-PERMUTATIONS
returns-else-q-lt-PERMUTATIONS c =
    let a = c.args in
    le-ltb a.q _ c.if-q-lt-PERMUTATIONS.false ∙ sym (fits_far a.q a.n c.if-q-lt-PERMUTATIONS.false)
