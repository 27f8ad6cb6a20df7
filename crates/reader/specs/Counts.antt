-- How many threads and addresses there may be.
-- Assumes nothing.
use Rattle.std.specs.Prelude.{ℕ, ◌≤◌}
use Rattle.model.specs.Limits.{most_threads, most_addresses}

pub record Counts (n m : ℕ) : Type 0 where
  pub threads_least : 1 ≤ n
  pub threads_most : n ≤ most_threads
  pub addresses_least : 1 ≤ m
  pub addresses_most : m ≤ most_addresses
