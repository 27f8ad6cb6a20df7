-- When the rows of what follows an event need not all be looked at: of one thread's order before, with k events.
-- Assumes nothing.
use Rattle.std.specs.Prelude.{ℕ, ◌<◌, ◌≡◌, Bool, true, false, ◌||◌, eqb}
use Rattle.orders.specs.Parts.{closed}

module _ (k : ℕ) (before : ℕ → ℕ → Bool) where
  -- d follows a through an event b: b follows a, d is b or follows it, and all that follows b follows a
  pub record Cover (a d : ℕ) : Type 0 where
    pub through : ℕ
    pub inside : through < k
    pub follows : before a through ≡ true
    pub reaches : (eqb d through || before through d) ≡ true
    pub onward : (e : ℕ) → e < k → before through e ≡ true → before a e ≡ true

  -- a is not before itself, and whatever follows it does so through such an event
  pub record Covered (a : ℕ) : Type 0 where
    pub irreflexive : before a a ≡ false
    pub cover : (d : ℕ) → d < k → before a d ≡ true → Cover a d

  -- what a test of a's row says: where every row of the order passes, the order is irreflexive and transitive
  -- (`covered_all`, proofs/Covers.antt); where one fails, it is not
  pub record Tested (a : ℕ) (r : Bool) : Type 0 where
    pub holds : r ≡ true → Covered a
    pub fails : r ≡ false → closed k before before a ≡ false
