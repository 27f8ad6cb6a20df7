-- Judging records one after the other, without its fuel; where it stops, and that it stops within the bytes.
-- Assumes nothing.
use Prim.Native.Nat.{ℕ, zero, suc, ◌+◌, ◌-◌, ◌≤◌, ◌<◌}
use native.Mathlib.Omega.{arith}
use native.Mathlib.Nat.{add-zero}
use mathlib.Core.Path.{◌≡◌, refl, sym, ap, ◌∙◌}
use mathlib.Core.Bool.{Bool, true, false, cond, true≢false}
use mathlib.Core.List.{List, [], ◌∷◌}
use lib.ListN.{length, drop, length-drop, drop_of_length-le}
use borrow.Author.Tests.{eqb-true, eqb-false}
use Rattle.number.specs.Reader.{Out, stop, next}
use Rattle.model.specs.Case.{Case}
use Rattle.model.specs.Rules.{PPCs, verdict}
use Rattle.model.specs.Record.{read}
use Rattle.laws.proofs.ExtentCase.{Accepted, accepted, read_none}
use Rattle.tally.specs.declared.Tally.{Tally}
use Rattle.tally.specs.Tally.{grown, may_grow}
use Rattle.log_model.specs.Pieces.{refused, full, Run, on_reading, run_by, run_from, run, waits}

-- a record takes a byte at least, and lies within the bytes
pub record Further (s : List ℕ) (at i : ℕ) : Type 0 where
  pub some : 0 < i
  pub inside : at + i ≤ length s

pub further : (s : List ℕ) (at : ℕ) (c : Case) (i : ℕ) → read (drop at s) ≡ next c i → Further s at i
further s at c i e =
    let A : Accepted (drop at s) c i = accepted (drop at s) c i e in
    let l : i ≤ length s - at = rw length-drop at A.inside in
    record { some = A.some; inside = omega (arith, A.some) }

-- no byte is left
pub read_end : (s : List ℕ) (at : ℕ) → length s ≤ at → read (drop at s) ≡ stop 1 0
read_end s at l = rw (drop_of_length-le s l) read_none

-- any fuel will do that is at least the bytes left
fuel_any : (i j at : ℕ) (s : List ℕ) (t : Tally) → length s ≤ at + i → length s ≤ at + j → run_by i at s t ≡ run_by j at s t
unfolding run_by
fuel_any zero zero at s t a b = refl
fuel_any zero (suc j) at s t a b = rw (read_end s at (omega arith), add-zero)
fuel_any (suc i) zero at s t a b = rw (read_end s at (omega arith), add-zero)
fuel_any (suc i) (suc j) at s t a b = go (λ k t'. fuel_any i j k s t') (read (drop at s)) refl
  where
    go : ((k : ℕ) (t' : Tally) → length s ≤ k + i → length s ≤ k + j → run_by i k s t' ≡ run_by j k s t') → (o : Out Case) → read (drop at s) ≡ o
        → on_reading at t (λ k t'. run_by i k s t') o ≡ on_reading at t (λ k t'. run_by j k s t') o
    go ih (stop x p) e = refl
    go ih (next c k) e =
        let F : Further s at k = further s at c k e in
        ap (λ (r : Run). cond (may_grow t (verdict c PPCs)) r (record { judged = at; tally = t; why = full }))
        (ih (at + k) (grown t (verdict c PPCs)) (omega (arith, F.some)) (omega (arith, F.some)))

-- one reading, by any fuel that will do
step : (at : ℕ) (s : List ℕ) (t : Tally) (j : ℕ) → length s ≤ at + suc j → run_from at s t ≡ on_reading at t (λ i t'. run_by j i s t') (read (drop at s))
unfolding run_from run_by
step at s t j l = fuel_any (length s - at) (suc j) at s t (omega arith) l

pub run-stop : (at : ℕ) (s : List ℕ) (t : Tally) (x p : ℕ) → read (drop at s) ≡ stop x p → run_from at s t ≡ record { judged = at; tally = t; why = refused x (at + p) }
run-stop at s t x p e = step at s t (length s) (omega arith) ∙ rw e

pub run-next : (at : ℕ) (s : List ℕ) (t : Tally) (c : Case) (i : ℕ) → read (drop at s) ≡ next c i
    → run_from at s t ≡ cond (may_grow t (verdict c PPCs)) (run_from (at + i) s (grown t (verdict c PPCs))) (record { judged = at; tally = t; why = full })
unfolding run_from
run-next at s t c i e =
    step at s t (length s) (omega arith)
    ∙ rw e (ap (λ (r : Run). cond (may_grow t (verdict c PPCs)) r (record { judged = at; tally = t; why = full }))
    (fuel_any (length s) (length s - (at + i)) (at + i) s (grown t (verdict c PPCs)) (omega arith) (omega arith)))

-- ---- where it stops

-- where judging stopped: within the bytes; it waits where they end inside a record or behind the last one, and else some are left
pub record Left (s : List ℕ) (r : Run) : Type 0 where
  pub inside : r.judged ≤ length s
  pub place : ℕ
  pub ends : waits r.why ≡ true → (read (drop r.judged s) ≡ stop 1 place) × (r.why ≡ refused 1 (r.judged + place))
  pub more : waits r.why ≡ false → r.judged < length s

-- a refusal other than 1 is not one of no bytes
pub some_bytes : (s : List ℕ) (x p : ℕ) → read s ≡ stop x p → (x ≡ 1 → ⊥) → 0 < length s
some_bytes [] x p e n = absurd (n (clash read_none e))
  where
    clash : read [] ≡ stop 1 0 → read [] ≡ stop x p → x ≡ 1
    clash a b = cc
some_bytes (b ∷ s) x p e n = omega arith

left_by : (j at : ℕ) (s : List ℕ) (t : Tally) → at ≤ length s → length s ≤ at + j → Left s (run_by j at s t)
unfolding run_by
left_by zero at s t a b = record { inside = a; place = 0; ends = λ _. (read_end s at (omega arith), rw add-zero); more = λ w. absurd (true≢false w) }
left_by (suc j) at s t a b = go (λ k t'. left_by j k s t') (read (drop at s)) refl
  where
    go : ((k : ℕ) (t' : Tally) → k ≤ length s → length s ≤ k + j → Left s (run_by j k s t')) → (o : Out Case) → read (drop at s) ≡ o
        → Left s (on_reading at t (λ k t'. run_by j k s t') o)
    go ih (stop x p) e = record {
      inside = a;
      place = p;
      ends = λ w. let one : x ≡ 1 = eqb-true x 1 w in (e ∙ ap (λ (z : ℕ). stop z p) one, ap (λ (z : ℕ). refused z (at + p)) one);
      more = λ w. let h : 0 < length s - at = rw length-drop at (some_bytes (drop at s) x p e (eqb-false x 1 w)) in omega arith;
    }
    go ih (next c k) e = by (may_grow t (verdict c PPCs))
      where
        F : Further s at k
        F = further s at c k e

        by : (y : Bool) → Left s (cond y (run_by j (at + k) s (grown t (verdict c PPCs))) (record { judged = at; tally = t; why = full }))
        by true = ih (at + k) (grown t (verdict c PPCs)) F.inside (omega (arith, F.some))
        by false = record { inside = a; place = 0; ends = λ w. absurd (true≢false (sym w)); more = λ _. omega (arith, F.some, F.inside) }

pub left : (s : List ℕ) (t : Tally) → Left s (run s t)
unfolding run_from
left s t = left_by (length s - 0) 0 s t (omega arith) (omega arith)
