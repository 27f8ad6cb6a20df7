-- Laws of values and equations: what the code answers, by what it found at each place.
-- Assumes nothing.
use Prim.Native.Nat.{ℕ, ◌+◌, ◌≤◌, ◌<◌}
use native.Mathlib.Omega.{arith}
use mathlib.Core.Path.{◌≡◌, refl, sym, ap, ◌∙◌}
use mathlib.Core.Bool.{Bool, true, false, cond}
use mathlib.Core.List.{List}
use lib.Dec.{eqb, ltb}
use lib.ListN.{length, get_or}
use borrow.Author.Tests.{le-leb, ltb-true}
use Rattle.finite.proofs.Tests.{and_l}
use Rattle.number.specs.Reader.{Out, stop, next, tested, unless, onward}
use Rattle.model.specs.Limits.{most_value}
use Rattle.model.specs.Case.{load}
use Rattle.condition_model.specs.Grammar.{Factor, Factor.memory_is, Factor.load_is, letter_m, letter_e}
use Rattle.condition_model.specs.Reader.{is, skipped, sign, choose, number, number_in, label, valued, equation_by, equation_at}
use Rattle.condition_model.specs.Truth.{truth_f}
use Rattle.condition_reader.specs.Told.{map_out, value_in, is_address, is_load, is_value, is_named, values_by, held_at, Small, held_ranges, equation_truth}
use Rattle.std.proofs.Common.{Option, None, Some}

-- ---- a label and its value

-- what passes the test is no larger than values are
pub record Narrow (test : ℕ → Bool) : Type 0 where
  pub narrow : (v : ℕ) → test v ≡ true → is_value v ≡ true

pub narrow_address : (finals : List ℕ) → length finals ≤ most_value + 1 → Narrow (is_address finals)
unfolding is_address
narrow_address finals l = record { narrow = λ v h. le-leb v most_value (omega (arith, ltb-true v (length finals) h)) }

load_below : (kinds : List ℕ) (e : ℕ) → is_load kinds e ≡ true → e < length kinds
unfolding is_load
load_below kinds e h = ltb-true e (length kinds) (and_l (ltb e (length kinds)) (eqb (get_or kinds e 0) load) h)

pub narrow_load : (kinds : List ℕ) → length kinds ≤ most_value + 1 → Narrow (is_load kinds)
narrow_load kinds l = record { narrow = λ v h. le-leb v most_value (omega (arith, load_below kinds v h)) }

pub narrow_named : (m : Bool) (finals kinds values : List ℕ) → Small finals kinds values → Narrow (is_named m finals kinds)
narrow_named true finals kinds values S = narrow_address finals S.addresses
narrow_named false finals kinds values S = narrow_load kinds S.events

-- a test behind a wider one
tested_narrow : (test : ℕ → Bool) → Narrow test → (at : ℕ) (o : Out ℕ) → tested 3 test at o ≡ tested 3 test at (tested 3 is_value at o)
tested_narrow test N at (stop x p) = refl
tested_narrow test N at (next v p) = go (test v) refl (is_value v) refl
  where
    go : (t : Bool) → test v ≡ t → (u : Bool) → is_value v ≡ u → cond t (next v p) (stop 3 at) ≡ tested 3 test at (cond u (next v p) (stop 3 at))
    go true e u f = let g : u ≡ true = sym f ∙ N.narrow v e in rw (g, e)
    go false e true f = rw e
    go false e false f = refl

module _ (test : ℕ → Bool) (held s : List ℕ) (at : ℕ) (N : Narrow test) where
  number_test : (o : Out ℕ) → o ≡ number_in is_value s (at + 1) → number_in test s (at + 1) ≡ tested 3 test (at + 1) o
  unfolding unless
  number_test o e = tested_narrow test N (at + 1) (number s (at + 1)) ∙ ap (tested 3 test (at + 1)) (sym e)

  pub equation-refused : (n p : ℕ) → stop n p ≡ number_in is_value s (at + 1) → stop n p ≡ equation_truth test held s at
  unfolding equation_truth label
  equation-refused n p e = rw (number_test (stop n p) e)

  module _ (v p : ℕ) (e : next v p ≡ number_in is_value s (at + 1)) where
    pub equation-outside : test v ≡ false → stop 3 (at + 1) ≡ equation_truth test held s at
    unfolding equation_truth label
    equation-outside h = rw (number_test (next v p) e, h)

    pub equation_read : (q : ℕ) (o : Out Bool) → test v ≡ true → q ≡ skipped s p → o ≡ map_out (eqb (value_in held v)) (valued is_value s q) → o ≡ equation_truth test held s at
    unfolding equation_truth label
    equation_read q o h l g = g ∙ rw (number_test (next v p) e, h, l)

-- ---- an equation

by_truth : (truth : Factor → Bool) (test : ℕ → Bool) (make : ℕ → ℕ → Factor) (held s : List ℕ) (at : ℕ) → ((n v : ℕ) → truth (make n v) ≡ eqb (value_in held n) v)
    → equation_truth test held s at ≡ map_out truth (equation_by test is_value make s at)
unfolding equation_truth equation_by
by_truth truth test make held s at h = go (label test s at)
  where
    value : (n : ℕ) (o : Out ℕ) → map_out (eqb (value_in held n)) o ≡ map_out truth (onward (λ v p. next (make n v) p) o)
    value n (stop x p) = refl
    value n (next v p) = ap (λ (b : Bool). next b p) (sym (h n v))

    go : (o : Out ℕ) → onward (λ n p. map_out (eqb (value_in held n)) (valued is_value s p)) o ≡ map_out truth (onward (λ n p. onward (λ v p. next (make n v) p) (valued is_value s p)) o)
    go (stop x p) = refl
    go (next n p) = value n (valued is_value s p)

module _ (finals kinds values s : List ℕ) (at : ℕ) where
  abbrev truth_at : Out Bool
  truth_at = map_out (truth_f (value_in finals) (value_in values)) (equation_at (held_ranges finals kinds) s at)

  pub equation-none : (n p : ℕ) → is letter_m s at ≡ false → stop n p ≡ sign letter_e s at → stop n p ≡ truth_at
  unfolding equation_at sign
  equation-none n p m h = rw m (go (is letter_e s at) h)
    where
      go : (t : Bool) → stop n p ≡ cond t (next (tt {0}) (at + 1)) (stop 21 at)
          → stop n p ≡ map_out (truth_f (value_in finals) (value_in values)) (choose t (equation_by (is_load kinds) is_value load_is) (λ s at. stop 21 at) s at)
      go true k = cc
      go false k = cc

  pub letter-read : (p : ℕ) → next tt p ≡ sign letter_e s at → is letter_e s at ≡ true
  unfolding sign
  letter-read p h = go (is letter_e s at) h
    where
      go : (t : Bool) → next (tt {0}) p ≡ cond t (next (tt {0}) (at + 1)) (stop 21 at) → t ≡ true
      go true k = refl
      go false k = cc

  -- with `m`, or with `e`
  pub equation_by_letter : (m : Bool) → m ≡ is letter_m s at → (m ≡ false → is letter_e s at ≡ true)
      → (o : Out Bool) → o ≡ equation_truth (is_named m finals kinds) (values_by m finals values) s at → o ≡ truth_at
  unfolding equation_at truth_f
  equation_by_letter true h l o k = k ∙ rw (sym h) (by_truth (truth_f (value_in finals) (value_in values)) (is_address finals) memory_is finals s at (λ n v. refl))
  equation_by_letter false h l o k = k ∙ rw (sym h, l refl) (by_truth (truth_f (value_in finals) (value_in values)) (is_load kinds) load_is values s at (λ n v. refl))

-- what is found of a number
pub none_named : (m : Bool) (finals kinds values : List ℕ) (n : ℕ) (o : Option ℕ) → o ≡ held_at m finals kinds values n → o ≡ None → is_named m finals kinds n ≡ false
none_named m finals kinds values n o e h = go (is_named m finals kinds n) (sym e ∙ h)
  where
    go : (t : Bool) → cond t (Some (value_in (values_by m finals values) n)) None ≡ None → t ≡ false
    go true k = cc
    go false k = refl

pub one_named : (m : Bool) (finals kinds values : List ℕ) (n : ℕ) (o : Option ℕ) → o ≡ held_at m finals kinds values n → (x : ℕ) → o ≡ Some x
    → (is_named m finals kinds n ≡ true) × (x ≡ value_in (values_by m finals values) n)
one_named m finals kinds values n o e x h = go (is_named m finals kinds n) (sym e ∙ h)
  where
    go : (t : Bool) → cond t (Some (value_in (values_by m finals values) n)) None ≡ Some x → (t ≡ true) × (x ≡ value_in (values_by m finals values) n)
    go true k = (refl, cc)
    go false k = cc
