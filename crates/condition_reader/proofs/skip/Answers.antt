use mathlib.Core.Path.{ap, ◌∙◌}
use Prim.Native.Nat.{ℕ, ◌+◌}
use borrow.Author.Rules.{rules}
use borrow.Author.Tests.{tests}
use Rattle.std.proofs.lemmas.Iterator.{YieldsList-from_slice}
use Rattle.std.proofs.lemmas.Iterator.Search.{YieldsList-from_take_while}
use Rattle.std.proofs.lemmas.Iterator.Consumers.{count_from_yields_List}
use Rattle.condition_model.specs.Reader.{is_space, skipped}
use Rattle.condition_reader.proofs.Places.{front-count}
use Rattle.condition_reader.proofs.skip.Goals as goal

pub returns : goal.returns
unfolding skipped
returns c =
    let s = c.args in
    ap (λ (n : ℕ). s.at + n) (
    count_from_yields_List c.take_while.result _ c.count.ensures.ran
    (YieldsList-from_take_while _ is_space (YieldsList-from_slice c.rest.result.now (cc)) c.take_while.ensures.closure c.take_while.ensures.done (λ x b q k. search (rules, tests)))
    ∙ front-count is_space _ _ c.rest.ensures)
