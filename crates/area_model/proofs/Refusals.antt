-- Of areas in any state: which faults a log has, that they are answered, and that a refusal leaves every byte.
-- Assumes nothing.
use Prim.Native.Nat.{ℕ, zero, suc, ◌+◌, ◌≤◌}
use native.Mathlib.Omega.{arith}
use mathlib.Core.Path.{◌≡◌, refl}
use mathlib.Core.Bool.{Bool, true, false, cond}
use mathlib.Core.Logic.{◌⊎◌, inl, inr, ⊎_elim}
use mathlib.Core.List.{List, [], ◌∷◌}
use lib.Dec.{eqb, leb}
use lib.ListN.{length, take, drop, length-drop}
use borrow.Author.Tests.{ne_eqb}
use Rattle.finite.specs.Lists.{every}
use Rattle.finite.proofs.All.{all_drop}
use Rattle.number.specs.Number.{Bytes}
use Rattle.number.specs.Reader.{Out, stop, next}
use Rattle.model.specs.Case.{Case}
use Rattle.model.specs.Record.{read}
use Rattle.model.specs.Answers.{Stored}
use Rattle.laws.proofs.Exact.{Refused, refused-within}
use Rattle.laws.proofs.ExactCase.{refused}
use Rattle.laws.proofs.ExtentCase.{accepted}
use Rattle.log_model.specs.Log.{Ending, no_fault}
use Rattle.area_model.specs.Area.{finished_flag, is_unused, frame_of, following, found_by, found_from, found, Store, appending, store_some, refuse, unless_fault, append_at, append_read, append, repairing, repair}
use Rattle.area_model.specs.Changes.{Change, appends, repairs, change}
use Rattle.area_model.specs.Claim.{Faultless, LogFault}
use Rattle.area_model.proofs.Frames.{by_flag}

-- ---- which faults

-- by the number of a record's refusal
of_record : (size : ℕ) (s : List ℕ) (x p place : ℕ) → Refused s x p → place + suc (length s) ≤ size → LogFault size (record { number = x; place = place + 1 + p })
of_record size s x p place R l = record { number = inr (⊎_elim (λ m. inl (m.least, m.most)) (λ u. inr u.number) R); place = omega (arith, refused-within R) }

-- how a log ends
abbrev Ends : ℕ → Ending → Type 0
Ends size e = (e ≡ no_fault) ⊎ LogFault size e

ends_by : (size j place : ℕ) (s : List ℕ) → Bytes s → place + length s ≤ size → Ends size (found_by j place s).ending
unfolding found_by frame_of
ends_by size zero place s b l = inl refl
ends_by size (suc j) place [] b l = inl refl
ends_by size (suc j) place (flag ∷ s) b l = go (λ i k. ends_by size j (place + suc i) (drop i s) (all_drop _ i s b.1) k) (is_unused flag) (eqb flag finished_flag) (read s) refl
  where
    go : ((i : ℕ) → place + suc i + length (drop i s) ≤ size → Ends size (found_by j (place + suc i) (drop i s)).ending)
        → (y z : Bool) (o : Out Case) → read s ≡ o → Ends size (following place (flag ∷ s) (λ i. found_by j (place + i) (drop i (flag ∷ s))) (by_flag place y z o)).ending
    go ih true z o e = inl refl
    go ih false false o e = inr (record { number = inl refl; place = omega arith })
    go ih false true (stop x p) e = inr (of_record size s x p place (refused s b.1 x p e) l)
    go ih false true (next c i) e = ih i (rw length-drop (omega (arith, (accepted s c i e).inside)))

-- a log ends without fault, or with one of its own
pub faults_known : (area : List ℕ) → Bytes area → ((found area).ending ≡ no_fault) ⊎ LogFault (length area) (found area).ending
unfolding found_from
faults_known area b = ends_by (length area) (length area) 0 area b (omega arith)

-- ---- they are answered

-- "a log's own fault is its answer and then nothing changes"
pub fault-answered : (area : List ℕ) (x : Change) → (Faultless area → ⊥)
    → change x area ≡ refuse (found area).ending.number (found area).ending.place area
unfolding append repair
fault-answered area (appends bytes n) f = rw (ne_eqb (found area).ending.number 0 f)
fault-answered area (repairs n) f = rw (ne_eqb (found area).ending.number 0 f)

-- ---- every byte is left

-- where the answer is not 0, the area is as before
record Leaves (area : List ℕ) (s : Stored) : Type 0 where
  same : (s.answer.number ≡ 0 → ⊥) → s.buffer ≡ area

refusal_leaves : (area : List ℕ) (number place : ℕ) → Leaves area (refuse number place area)
refusal_leaves area number place = record { same = λ _. refl }

stores_leave : (area : List ℕ) (n : ℕ) (xs : List Store) → Leaves area (store_some n xs area)
unfolding store_some
stores_leave area n xs = record { same = λ f. absurd (f refl) }

either_leaves : (area : List ℕ) (y : Bool) (s t : Stored) → Leaves area s → Leaves area t → Leaves area (cond y s t)
either_leaves area true s t S T = S
either_leaves area false s t S T = T

unless_leaves : (area : List ℕ) (e : Ending) (s : Stored) → Leaves area s → Leaves area (unless_fault e area s)
unless_leaves area e s S = either_leaves area (eqb e.number 0) s (refuse e.number e.place area) S (refusal_leaves area e.number e.place)

append_leaves : (area bytes : List ℕ) (end n : ℕ) (o : Out Case) → Leaves area (append_read end n bytes area o)
append_leaves area bytes end n (stop x p) = refusal_leaves area x p
append_leaves area bytes end n (next c i) = go (take i bytes)
  where
    go : (w : List ℕ) → Leaves area (append_at end n w area)
    go w = unfold append_at in
        either_leaves area (leb (end + 1 + length w) (length area)) _ _
        (either_leaves area (every is_unused (drop end area)) _ _ (stores_leave area n (appending end w)) (refusal_leaves area 8 0))
        (refusal_leaves area 6 0)

change_leaves : (area : List ℕ) (x : Change) → Leaves area (change x area)
unfolding append repair
change_leaves area (appends bytes n) = unless_leaves area (found area).ending _ (append_leaves area bytes (found area).end n (read bytes))
change_leaves area (repairs n) = unless_leaves area (found area).ending _ (stores_leave area n (repairing area))

-- a refusal leaves every byte, of an area in any state
pub refusal_stays : (area : List ℕ) (x : Change) → ((change x area).answer.number ≡ 0 → ⊥) → (change x area).buffer ≡ area
refusal_stays area x = (change_leaves area x).same
