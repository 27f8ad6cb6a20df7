-- What the laws of a sink give a stage of two parts or three, and a run.
-- Assumes nothing.
use Prim.Native.Nat.{ℕ, zero, suc, ◌+◌, ◌*◌, ◌≤◌, ◌<◌}
use native.Mathlib.Nat.{le_trans, add-mul, one-mul, le_antisymm, mul-le-mul_right, le_of_suc-le-suc, eq-or-lt_of_le}
use native.Mathlib.Omega.{arith}
use mathlib.Core.Path.{◌≡◌, sym, ap, subst, ◌∙◌}
use mathlib.Core.Logic.{⊎_elim}
use mathlib.Core.List.{List, [], ◌++◌, append-nil}
use Rattle.writer.specs.Stages.{run}
use Rattle.writer.specs.Sinks.{SinkLaws}
use Rattle.writer.proofs.Runs.{run_more}

module _ {S : Type 0} {may : S → ℕ → List ℕ → Type 0} {took : S → ℕ → List ℕ → S → Type 0} (laws : SinkLaws may took) where
  -- ---- a bound put further off
  pub may_fewer : {s : S} {n a : ℕ} {w : List ℕ} → a ≤ n → may s n w → may s a w
  may_fewer {s} {n} {a} {w} l m = laws.first s n a w [] l (rw (append-nil w) m)

  pub took_more : {s t : S} {n a : ℕ} {w : List ℕ} → a ≤ n → may s n w → took s a w t → took s n w t
  took_more {s} {t} {n} {a} {w} l m h = rw (append-nil w) at (laws.both s t t n a 0 w [] (omega arith) (rw (append-nil w) m) h (laws.none t 0))

  -- ---- the same bytes
  pub may_same : {s : S} {n : ℕ} {v w : List ℕ} → v ≡ w → may s n v → may s n w
  may_same {s} {n} e m = subst (λ l. may s n l) e m

  pub took_same : {s t : S} {n : ℕ} {v w : List ℕ} → v ≡ w → took s n w t → took s n v t
  took_same {s} {t} {n} e h = subst (λ l. took s n l t) (sym e) h

  -- ---- two parts
  pub may_first : {s : S} {n a : ℕ} (v w : List ℕ) → may s n (v ++ w) → a ≤ n → may s a v
  may_first {s} {n} {a} v w m l = laws.first s n a v w l m

  pub may_then : {s t : S} {n a b : ℕ} (v w : List ℕ) → may s n (v ++ w) → took s a v t → a + b ≤ n → may t b w
  may_then {s} {t} {n} {a} {b} v w m h l = laws.then s t n a b v w l m h

  pub took_both : {s t u : S} {n a b : ℕ} (v w : List ℕ) → may s n (v ++ w) → took s a v t → took t b w u → a + b ≤ n → took s n (v ++ w) u
  took_both {s} {t} {u} {n} {a} {b} v w m h i l = laws.both s t u n a b v w l m h i

  -- ---- three parts
  pub may_second : {s t : S} {n a b : ℕ} (v w z : List ℕ) → may s n (v ++ (w ++ z)) → took s a v t → a + b ≤ n → may t b w
  may_second {b = b} v w z m h l = may_first w z (may_then {b = b} v (w ++ z) m h l) (omega arith)

  pub may_third : {s t u : S} {n a b d : ℕ} (v w z : List ℕ) → may s n (v ++ (w ++ z)) → took s a v t → took t b w u → a + (b + d) ≤ n → may u d z
  may_third {b = b} {d = d} v w z m h i l = may_then w z (may_then {b = b + d} v (w ++ z) m h l) i (omega arith)

  pub took_three : {s t u x : S} {n a b d : ℕ} (v w z : List ℕ) → may s n (v ++ (w ++ z)) → took s a v t → took t b w u → took u d z x → a + (b + d) ≤ n
      → took s n (v ++ (w ++ z)) x
  took_three {b = b} {d = d} v w z m h i j l =
      took_both v (w ++ z) m h (took_both w z (may_then {b = b + d} v (w ++ z) m h l) i j (omega arith)) l

  -- ---- four parts
  module _ {s t u : S} {n a b d : ℕ} (v w z y : List ℕ) (m : may s n (v ++ (w ++ (z ++ y)))) (h : took s a v t) (i : took t b w u) where
    pub may_third-of : a + (b + d) ≤ n → may u d z
    may_third-of l = may_first z y (may_third {d = d} v w (z ++ y) m h i l) (omega arith)

    module _ {x : S} {e : ℕ} (j : took u d z x) (l : a + (b + (d + e)) ≤ n) where
      pub may_fourth : may x e y
      may_fourth = may_then z y (may_third {d = d + e} v w (z ++ y) m h i l) j (omega arith)

      pub took_four : {o : S} → took x e y o → took s n (v ++ (w ++ (z ++ y))) o
      took_four k = took_three v w (z ++ y) m h i (took_both z y (may_third {d = d + e} v w (z ++ y) m h i l) j k (omega arith)) l

  -- ---- runs, each part at most `most` bytes, and at most `room` parts
  pub none_taken : (h : ℕ → List ℕ) (most : ℕ) {s : S} → took s (0 * most) (run h 0) s
  unfolding run
  none_taken h most {s} = laws.none s (0 * most)

  may_run : (h : ℕ → List ℕ) {s : S} {total : ℕ} (n i : ℕ) → i ≤ n → may s total (run h n) → may s total (run h i)
  unfolding run
  may_run h zero i l m = let e : i ≡ 0 = omega arith in rw e m
  may_run h {s} {total} (suc n) i l m =
      ⊎_elim (λ e. rw e m) (λ b. may_run h n i (le_of_suc-le-suc b) (laws.first s total total (run h n) (h n) (omega arith) m)) (eq-or-lt_of_le l)

  module _ (h : ℕ → List ℕ) (most room : ℕ) where
    more-times : (i : ℕ) → (i + 1) * most ≡ i * most + most
    more-times i = add-mul i 1 most ∙ ap (λ (x : ℕ). i * most + x) (one-mul most)

    step : (n i : ℕ) → n ≤ room → i < n → i * most + most ≤ room * most
    step n i r l = let g : i + 1 ≤ room = omega arith in rw (more-times i) at (mul-le-mul_right most g)

    one-may : {s : S} (n i : ℕ) → may s (room * most) (run h n) → i < n → may s (room * most) (run h i ++ h i)
    one-may n i m l = let g : i + 1 ≤ n = omega arith in rw (run_more h i) at (may_run h n (i + 1) g m)

    pub may_next : {s t : S} {n i : ℕ} → n ≤ room → may s (room * most) (run h n) → took s (i * most) (run h i) t → i < n → may t most (h i)
    may_next {s} {t} {n} {i} r m g l = laws.then s t (room * most) (i * most) most (run h i) (h i) (step n i r l) (one-may n i m l) g

    pub one_taken : {s t u : S} {n i : ℕ} → n ≤ room → may s (room * most) (run h n) → took s (i * most) (run h i) t → i < n → took t most (h i) u
        → took s ((i + 1) * most) (run h (i + 1)) u
    one_taken {s} {t} {u} {n} {i} r m g l k =
        rw (run_more h i, more-times i)
        (laws.both s t u (i * most + most) (i * most) most (run h i) (h i) (omega arith) (may_fewer (step n i r l) (one-may n i m l)) g k)

    pub all_taken : {s t : S} {n i : ℕ} → n ≤ room → may s (room * most) (run h n) → took s (i * most) (run h i) t → i ≤ n → n ≤ i → took s (room * most) (run h n) t
    all_taken r m g w l = took_more (mul-le-mul_right most r) m (rw (le_antisymm w l) at g)

    -- parts without bytes are passed over
    pub took_past : {s t : S} {n i j : ℕ} → n ≤ room → may s (room * most) (run h n) → took s (i * most) (run h i) t → i ≤ j → j ≤ n → run h j ≡ run h i → took s (j * most) (run h j) t
    took_past {s} {t} {n} {i} {j} r m g w l e =
        took_more (mul-le-mul_right most w) (may_fewer (mul-le-mul_right most (le_trans l r)) (may_run h n j l m)) (took_same e g)
