-- `case::count_stores` meets its contract. Assumes nothing.
use mathlib.Core.Path.{◌∙◌}
use native.Mathlib.Omega.{arith}
use borrow.Author.Rules.{rules}
use borrow.Author.Tests.{tests}
use Rattle.std.proofs.lemmas.Iterator.{YieldsList-from_range}
use Rattle.std.proofs.lemmas.Iterator.Consumers.{YieldsList-from_filter, count_from_yields_List}
use Rattle.case.specs.Stores.{store_at}
use Rattle.case.proofs.Chains.{count-range}
use Rattle.case.proofs.count_stores.Goals as goal

pub returns : goal.returns
returns c =
    let s = c.args in
    count_from_yields_List c.filter.result _ c.count.ensures.ran
    (YieldsList-from_filter _ (store_at s.kinds.now s.targets.now s.x) (YieldsList-from_range {s = c.filter.result.iter} 0 s.k s.k (cc) (omega arith)) c.filter.ensures.closure (λ x b q k. search (rules, tests)))
    ∙ count-range s.k _
