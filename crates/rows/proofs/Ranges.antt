-- Tests of all numbers below a bound, as
--     (0..n).all(|i| f(i))
-- `all_below` says the result: from n, the test that f computes, `c.all.ensures.ran`, `refl` and `λ x b q k. search (rules, tests)`.
-- `all_from_one` does where the numbers from 1 on are tested and 0 passes anyway.
-- Assumes nothing.
use Prim.Native.Nat.{ℕ, zero, suc, ◌-◌}
use native.Mathlib.Omega.{arith}
use mathlib.Core.Path.{◌≡◌, refl, sym, ap, ◌∙◌}
use mathlib.Core.Bool.{Bool, true, false, ◌&&◌}
use mathlib.Core.List.{List}
use Rattle.std.specs.declared.ops.Range.{Range}
use Rattle.std.specs.Prelude.{Option}
use Rattle.std.proofs.iter.Yields.{nat_range_steps}
use denote.Param.Members.{Mut}
use Rattle.std.specs.Fn.{Called}
use Rattle.std.specs.Iterator.{YieldsThen}
use Rattle.std.specs.List.{FoldsTo, list_all, range_with_len}
use Rattle.std.specs.Option.{MatchOption}
use Rattle.std.proofs.lemmas.Iterator.{YieldsList-from_range}
use Rattle.std.proofs.lemmas.Iterator.Search.{all_from_yields_List}
use Rattle.finite.specs.Tests.{all}
use Rattle.case.proofs.Chains.{all-range}

-- the test of a range, as it ran
abbrev Ran : {F : Type 0} (g : Mut F (ℕ × Unit {0}) Bool) (s u : Range ℕ) (f : F) (r : Bool) → Type 0
Ran {F} g s u f r =
    (xs : List ℕ) × (o : Option ℕ) × (j : F) × YieldsThen nat_range_steps s xs o u × FoldsTo (λ p x q. Called g p (x, tt) true q) f xs j
    × MatchOption o (r ≡ true) (λ x. (r ≡ false) × ((h : F) × Called g j (x, tt) false h))

module _ {F : Type 0} {g : Mut F (ℕ × Unit {0}) Bool} {s u : Range ℕ} {f : F} {r : Bool} (n : ℕ) (test : ℕ → Bool) where
  pub all_below : Ran g s u f r → s ≡ record { start = 0; end = n } → ((x : ℕ) (b : Bool) (q : F) → Called g f (x, tt) b q → (q ≡ f) × (b ≡ test x)) → r ≡ all n test
  all_below ran same called = all_from_yields_List test u f r ran (YieldsList-from_range 0 n n same (omega arith)) called ∙ all-range n test

  pub all_from_one : Ran g s u f r → s ≡ record { start = 1; end = n } → ((x : ℕ) (b : Bool) (q : F) → Called g f (x, tt) b q → (q ≡ f) × (b ≡ test x)) → test 0 ≡ true → r ≡ all n test
  all_from_one ran same called h =
      all_from_yields_List test u f r ran (YieldsList-from_range 1 n (n - 1) same refl) called ∙ but_first n
    where
      but_first : (n : ℕ) → list_all test (range_with_len 1 (n - 1)) ≡ all n test
      but_first zero = all-range 0 test
      but_first (suc n) =
          let e : suc n - 1 ≡ n = omega arith in
          ap (λ (m : ℕ). list_all test (range_with_len 1 m)) e ∙ ap (λ b. b && list_all test (range_with_len 1 n)) (sym h) ∙ all-range (suc n) test
