-- `case::events_good` meets its contract. Assumes nothing.
use mathlib.Core.Path.{refl, ◌∙◌}
use native.Mathlib.Omega.{arith}
use borrow.Author.Rules.{rules}
use borrow.Author.Tests.{tests}
use Rattle.std.proofs.lemmas.Iterator.{YieldsList-from_range}
use Rattle.std.proofs.lemmas.Iterator.Search.{all_from_yields_List}
use Rattle.model.specs.Fault.{event_good}
use Rattle.case.specs.Held.{event_at}
use Rattle.case.proofs.Chains.{all-range}
use Rattle.case.proofs.events_good.Goals as goal

pub returns : goal.returns
returns c =
    let d = c.args.c.now in
    all_from_yields_List (λ e. event_good d.edition d.threads d.addresses (event_at d e)) _ _ _ c.all.ensures.ran (YieldsList-from_range 0 d.events d.events (refl) (omega arith)) (λ x b q k. search (rules, tests))
    ∙ all-range d.events _
