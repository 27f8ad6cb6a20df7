-- Where both orders are a case's, what they may still obey is what the model's rules say.
-- Assumes nothing.
use Prim.Native.Nat.{ℕ}
use mathlib.Core.Path.{◌≡◌, refl}
use lib.Dec.{eqb}
use Rattle.model.specs.Case.{Case}
use Rattle.model.specs.Rules.{Model, thread, address, value, initial, is_load, is_store, is_barrier, of, one_address, depends, applicable, store_for, before, everywhere, written, paired, seen, reads_from, judged, rule11, rule12, rule13, rule14, rule15, rule16, rule17, rule18}
use Rattle.rows.specs.May.{pairs, must_read, may11, may12, may13, may14, may15, may16, may17, may18}

module _ (c : Case) where
  open c use {n, k}

  pairs_is : (p e : ℕ) → pairs k (before c) p e ≡ paired c p e
  unfolding pairs paired
  pairs_is p e = refl

  reads_is : (l s : ℕ) → must_read k (is_load c) (store_for c) (thread c) (before c) (before c) l s ≡ reads_from c l s
  unfolding must_read reads_from
  reads_is l s = refl

  is11 : may11 n k (before c) (before c) ≡ rule11 c
  unfolding may11 rule11
  is11 = refl

  is12 : may12 n k (of c) (before c) ≡ rule12 c
  unfolding may12 rule12
  is12 = refl

  is13 : may13 n k (of c) (is_barrier c) (one_address c) (depends c) (before c) ≡ rule13 c
  unfolding may13 rule13
  is13 = refl

  is14 : may14 n k (is_store c) (store_for c) (written c) (before c) ≡ rule14 c
  unfolding may14 rule14
  is14 = refl

  is15 : (w : Model) → may15 n k (judged c w) (λ l. eqb (value c l) (initial c (address c l))) (store_for c) (before c) ≡ rule15 c w
  unfolding may15 rule15
  is15 w = refl

  is16 : (w : Model) → may16 n k (judged c w) (seen c) (store_for c) (λ l s. eqb (value c l) (value c s)) (before c) ≡ rule16 c w
  unfolding may16 rule16
  is16 w = refl

  is17 : may17 n k (of c) (is_barrier c) (applicable c) (before c) (before c) ≡ rule17 c
  unfolding may17 rule17 everywhere
  is17 = refl

  is18 : may18 n k (of c) (is_barrier c) (applicable c) (is_store c) (reads_from c) (thread c) (before c) (before c) ≡ rule18 c
  unfolding may18 rule18 everywhere
  is18 = refl
