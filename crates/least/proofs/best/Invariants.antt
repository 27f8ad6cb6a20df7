-- `least::best` meets its contract. Assumes nothing.
use Prim.Native.Nat.{ℕ}
use mathlib.Core.List.{List}
use Rattle.std.proofs.Common.{Ordering}
use Rattle.compare.specs.Decided.{Decided}
use Rattle.least.proofs.Search.{Tried}
use Rattle.least.proofs.best.Given as goal

abbrev pub invariant-loop-q : goal.invariant-loop-q
invariant-loop-q g l = (part : ℕ → List ℕ) → ((q p : ℕ) (r : Ordering) → goal.F-post g l.by q p r → Decided (part q) (part p) r) → Tried part l.n l.best l.q
