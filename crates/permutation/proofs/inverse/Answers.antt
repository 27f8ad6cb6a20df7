use mathlib.Core.Path.{◌∙◌, ap}
use Rattle.finite.specs.Tests.{all}
use Rattle.permutation.proofs.Table.{line_at}
use Rattle.permutation.specs.declared.TheConstants.{INVERSE}
use Rattle.permutation.specs.Permutation.{words, image, least_from, inverse, permutations}
use Rattle.permutation.proofs.Laws.{inverse-known}
use Rattle.permutation.proofs.inverse.Goals as goal

pub returns : goal.returns
unfolding inverse least_from image words all
returns c =
    let a = c.known in
    c.from.ensures ∙ line_at permutations inverse INVERSE tt a.result a.ensures.1 ∙ ap inverse a.ensures.0 ∙ inverse-known _
