-- `compare::row` meets its contract. Assumes nothing.
use Prim.Native.Nat.{ℕ, ◌%◌, ◌^◌}
use mathlib.Core.Path.{ap, ◌∙◌}
use Rattle.relabel.proofs.Steps.{masked}
use Rattle.compare.proofs.row.Goals as goal

pub returns : goal.returns
returns c =
    masked _ _ _ _ c.below.ensures c.both.ensures
    ∙ ap (λ (x : ℕ). x % 2 ^ c.args.k) c.row-row.ensures
