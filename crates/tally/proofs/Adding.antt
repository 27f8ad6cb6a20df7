-- Each way through the functions that add to a tally.
-- Assumes nothing.
use Prim.Native.Nat.{ℕ, suc, ◌+◌, ◌-◌, ◌≤◌, ◌<◌}
use native.Mathlib.Omega.{arith}
use mathlib.Core.Path.{◌≡◌}
use mathlib.Core.Bool.{true}
use lib.Dec.{ltb}
use lib.ListN.{get_or, set}
use borrow.Author.Tests.{lt-ltb, le-ltb, le-leb, lt-leb, ne_eqb}
use Rattle.finite.proofs.Tests.{and-false}
use Rattle.tally.specs.declared.Tally.{Tally}
use Rattle.std.proofs.Common.{Result, Ok, Err}
use Rattle.tally.specs.declared.NotAdded.{NotAdded}
use Rattle.tally.specs.declared.NotAdded.TheVariants.{NoVerdict, Full}
use Rattle.model.specs.Rules.{first_rule, last_rule}
use Rattle.tally.specs.Tally.{most_count, rules, is_verdict, grown, may_grow, addition_to, adding}

module _ (t : Tally) where
  pub accepted_added : (m n : ℕ) → (t.records < most_count) × (m ≡ t.records + 1) → (t.accepted < most_count) × (n ≡ t.accepted + 1)
      → addition_to t (Ok (record { records = m; accepted = n; broken = t.broken })) ≡ adding t 0
  unfolding adding may_grow grown
  accepted_added m n p q = rw (p.1, q.1, lt-ltb t.records most_count p.0, lt-ltb t.accepted most_count q.0)

  module _ (r : Result Tally NotAdded) (e : r ≡ Err Full) where
    pub accepted-full : most_count ≤ t.accepted → addition_to t r ≡ adding t 0
    unfolding adding may_grow
    accepted-full q = rw (e, le-ltb t.accepted most_count q, and-false (ltb t.records most_count))

    pub records-full : most_count ≤ t.records → addition_to t r ≡ adding t 0
    unfolding adding may_grow
    records-full p = rw (e, le-ltb t.records most_count p)

module _ (t : Tally) (rule : ℕ) (l : rule < rules) where
  is_rule : is_verdict (suc (10 + rule)) ≡ true
  is_rule = rw (ne_eqb (suc (10 + rule)) 0 (λ e. omega arith), le-leb first_rule (suc (10 + rule)) (omega arith), le-leb (suc (10 + rule)) last_rule (omega arith))

  number_is : first_rule + rule ≡ suc (10 + rule)
  number_is = omega arith

  index_is : suc (10 + rule) - first_rule ≡ rule
  index_is = omega arith

  pub broken_added : (m n : ℕ) → (t.records < most_count) × (m ≡ t.records + 1) → (get_or t.broken rule 0 < most_count) × (n ≡ get_or t.broken rule 0 + 1)
      → addition_to t (Ok (record { records = m; accepted = t.accepted; broken = set t.broken rule n })) ≡ adding t (first_rule + rule)
  unfolding adding may_grow grown
  broken_added m n p q = rw (p.1, q.1, number_is, is_rule, index_is, lt-ltb t.records most_count p.0, lt-ltb (get_or t.broken rule 0) most_count q.0)

  module _ (r : Result Tally NotAdded) (e : r ≡ Err Full) where
    pub broken-full : most_count ≤ get_or t.broken rule 0 → addition_to t r ≡ adding t (first_rule + rule)
    unfolding adding may_grow
    broken-full q = rw (e, number_is, is_rule, index_is, le-ltb (get_or t.broken rule 0) most_count q, and-false (ltb t.records most_count))

    pub records-full_2 : most_count ≤ t.records → addition_to t r ≡ adding t (first_rule + rule)
    unfolding adding may_grow
    records-full_2 p = rw (e, number_is, is_rule, le-ltb t.records most_count p)

module _ (t : Tally) (v : ℕ) where
  pub too_low : (v ≡ 0 → ⊥) → v < first_rule → addition_to t (Err NoVerdict) ≡ adding t v
  unfolding adding
  too_low e l = rw (ne_eqb v 0 e, lt-leb first_rule v l)

  pub too_high : last_rule < v → addition_to t (Err NoVerdict) ≡ adding t v
  unfolding adding
  too_high h = rw (ne_eqb v 0 (λ e. omega arith), le-leb first_rule v (omega arith), lt-leb v last_rule h)
