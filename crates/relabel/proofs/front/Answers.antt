use borrow.Author.Rules.{rules}
use mathlib.Core.Path.{ap, ◌∙◌}
use mathlib.Core.List.{List, ◌++◌}
use Prim.Native.Nat.{ℕ}
use lib.ListN.{drop, replicate}
use Rattle.relabel.proofs.Fill.{front_padded}
use Rattle.relabel.proofs.front.Goals as goal

pub returns : goal.returns
returns g c =
    ap (λ (v : List ℕ). v ++ drop c.args.n (replicate g.row.N 0)) c.copy_from_slice.ensures.after
    ∙ front_padded c.args.xs.now c.args.n g.row.N (search rules) c.requires
