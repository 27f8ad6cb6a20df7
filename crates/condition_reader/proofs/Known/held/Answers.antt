use Prim.Native.Nat.{ℕ}
use mathlib.Core.Path.{◌≡◌, ◌∙◌}
use mathlib.Core.Bool.{cond}
use mathlib.Core.List.{List}
use native.Mathlib.Nat.{le_refl}
use lib.Dec.{ltb}
use lib.ListN.{length, get_or}
use denote.Bor.{Bor}
use Rattle.std.specs.Option.{is_some, unwrap_or, option_map, option_copied}
use Rattle.std.proofs.Common.{Option, None, Some}
use native.Mathlib.Omega.{arith}
use Rattle.std.proofs.lemmas.Bool.Decides.{nat_tests}
use Rattle.std.proofs.lemmas.Grind.{common_steps}
use Rattle.condition_reader.specs.Told.{is_address, is_load}
use Rattle.condition_reader.proofs.Known.held.Goals as goal

copied-held : (xs : List ℕ) (n : ℕ) (r : Option (Bor ℕ)) → is_some r ≡ ltb n (length xs) → unwrap_or (option_map (λ x. x.now) r) 0 ≡ get_or xs n 0
    → option_copied r ≡ cond (ltb n (length xs)) (Some (get_or xs n 0)) None
copied-held xs n None h u = rw (← h)
copied-held xs n (Some x) h u = rw (← h, ← u)

pub returns-then-memory : goal.returns-then-memory
unfolding is_address is_load
returns-then-memory c =
    rw c.if-memory.true (c.copied.ensures ∙ copied-held c.args.self.now.finals.now c.args.n c.get.result c.get.ensures.lookup.0 (c.get.ensures.lookup.4 (le_refl _) 0))

pub returns-then-eq : goal.returns-then-eq
unfolding is_address is_load
returns-then-eq c =
    rw c.if-memory.false (grind (arith, nat_tests, common_steps))

pub returns-else-eq : goal.returns-else-eq
unfolding is_address is_load
returns-else-eq c =
    rw c.if-memory.false (grind (arith, nat_tests, common_steps))
