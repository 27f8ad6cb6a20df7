-- `area::all_unused` meets its contract. Assumes nothing.
use Prim.Native.Nat.{ℕ}
use mathlib.Core.Path.{◌≡◌, refl, ap, ◌∙◌}
use mathlib.Core.Bool.{Bool, ◌&&◌}
use mathlib.Core.List.{List, [], ◌∷◌}
use borrow.Author.Rules.{rules}
use borrow.Author.Tests.{tests}
use lib.ListN.{drop}
use Rattle.std.specs.List.{list_all}
use Rattle.std.proofs.lemmas.Iterator.{YieldsList-from_slice}
use Rattle.std.proofs.lemmas.Iterator.Adapters.{YieldsList-from_skip}
use Rattle.std.proofs.lemmas.Iterator.Search.{all_from_yields_List}
use Rattle.finite.specs.Lists.{every}
use Rattle.area_model.specs.Area.{is_unused}
use Rattle.area.proofs.all_unused.Goals as goal

is_every : (f : ℕ → Bool) (xs : List ℕ) → list_all f xs ≡ every f xs
unfolding every
is_every f [] = refl
is_every f (x ∷ xs) = ap (λ (b : Bool). f x && b) (is_every f xs)

pub returns : goal.returns
returns c =
    let s = c.args.area.now in
    all_from_yields_List {all = drop c.args.from s} is_unused _ _ c.all.result c.all.ensures.ran (YieldsList-from_skip c.args.from (YieldsList-from_slice s cc) cc) (λ x b q k. search (rules, tests))
    ∙ is_every is_unused (drop c.args.from s)
