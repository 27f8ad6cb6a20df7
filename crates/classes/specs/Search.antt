-- How the representative is found: by the best permutation of threads alone, and the best one of addresses alone (theorem `best_two`).
-- Assumes nothing.
use Rattle.std.specs.Prelude.{ℕ, ◌<◌, ◌≡◌, Bool, true, List}
use Rattle.permutation.specs.Permutation.{permutations, fits}
use Rattle.model.specs.Case.{Case}
use Rattle.model.specs.Written.{record_of}
use Rattle.model.specs.Renumber.{renumber}
use Rattle.classes.specs.Order.{at_most}

-- q passes the test, and of the numbers below i that pass it none gives less bytes
pub record Best (test : ℕ → Bool) (bytes : ℕ → List ℕ) (i q : ℕ) : Type 0 where
  pub passes : test q ≡ true
  pub least : (p : ℕ) → p < i → test p ≡ true → at_most (bytes q) (bytes p) ≡ true

-- the permutation of threads that gives the least record, the addresses left as they are
abbrev pub BestThreads : Case → ℕ → Type 0
BestThreads c q = Best (λ q. fits q c.n) (λ q. record_of (renumber q 0 c)) permutations q

-- the permutation of addresses that gives the least record, the threads left as they are
abbrev pub BestAddresses : Case → ℕ → Type 0
BestAddresses c r = Best (λ r. fits r c.m) (λ r. record_of (renumber 0 r c)) permutations r
