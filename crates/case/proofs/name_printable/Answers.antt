-- `case::name_printable` meets its contract. Assumes nothing.
use mathlib.Core.Path.{◌∙◌}
use native.Mathlib.Omega.{arith}
use borrow.Author.Rules.{rules}
use borrow.Author.Tests.{tests}
use lib.ListN.{take}
use Rattle.std.proofs.lemmas.Iterator.{YieldsList-from_slice}
use Rattle.std.proofs.lemmas.Iterator.Search.{all_from_yields_List}
use Rattle.model.specs.Case.{printable}
use Rattle.case.proofs.Chains.{all-front}
use Rattle.case.proofs.name_printable.Goals as goal

pub returns : goal.returns
returns c =
    let d = c.args.c.now in
    all_from_yields_List {all = take d.namelength d.name} printable _ _ _ c.all.ensures.ran (YieldsList-from_slice _ cc) (λ x b q k. search (rules, tests))
    ∙ all-front printable d.name d.namelength 0 (omega arith)
