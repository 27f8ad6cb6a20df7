-- `case::initials_good` meets its contract. Assumes nothing.
use mathlib.Core.Path.{◌∙◌}
use native.Mathlib.Omega.{arith}
use borrow.Author.Rules.{rules}
use borrow.Author.Tests.{tests}
use lib.Dec.{leb}
use lib.ListN.{take}
use Rattle.std.proofs.lemmas.Iterator.{YieldsList-from_slice}
use Rattle.std.proofs.lemmas.Iterator.Search.{all_from_yields_List}
use Rattle.model.specs.Limits.{most_value}
use Rattle.case.proofs.Chains.{all-front}
use Rattle.case.proofs.initials_good.Goals as goal

pub returns : goal.returns
returns c =
    let d = c.args.c.now in
    all_from_yields_List {all = take d.addresses d.initial} (λ v. leb v most_value) _ _ _ c.all.ensures.ran (YieldsList-from_slice _ cc) (λ x b q k. search (rules, tests))
    ∙ all-front (λ v. leb v most_value) d.initial d.addresses 0 (omega arith)
