use mathlib.Core.Path.{◌∙◌, ap₂}
use Rattle.finite.specs.Tests.{all}
use Rattle.permutation.proofs.Table.{table_at}
use Rattle.permutation.specs.declared.TheConstants.{COMPOSITE}
use mathlib.Core.List.{[]}
use Rattle.permutation.specs.Permutation.{words, image, least_from, numbered, composite, permutations}
use Rattle.permutation.proofs.Laws.{composite-known}
use Rattle.permutation.proofs.composite.Goals as goal

pub returns : goal.returns
unfolding composite numbered least_from image words all
returns c =
    let a = c.known in
    let b = c.known-2 in
    c.from.ensures ∙ table_at permutations permutations composite COMPOSITE [] tt a.result b.result a.ensures.1 b.ensures.1
    ∙ ap₂ composite a.ensures.0 b.ensures.0
    ∙ composite-known _ _
