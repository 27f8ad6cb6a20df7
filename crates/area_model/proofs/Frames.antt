-- The frames of an area: what stands before the end of its log is found again, whatever stands behind.
-- Assumes nothing.
use Prim.Native.Nat.{ℕ, zero, suc, ◌+◌, ◌≤◌}
use native.Mathlib.Omega.{arith}
use native.Mathlib.Nat.{le_refl}
use mathlib.Core.Path.{◌≡◌, refl, sym, ap, ◌∙◌, subst}
use mathlib.Core.Bool.{Bool, true, false, cond}
use mathlib.Core.List.{List, [], ◌∷◌, ◌++◌, append_assoc}
use lib.Dec.{eqb}
use lib.ListN.{length, take, drop, length-append, length-drop, take-append-drop}
use lib.Seq.{take_at, drop_at, length-take-le, drop-drop}
use borrow.Author.Tests.{eqb-true, ne_eqb}
use Rattle.number.specs.Reader.{Out, stop, next}
use Rattle.model.specs.Case.{Case}
use Rattle.model.specs.Record.{read}
use Rattle.laws.proofs.ExtentCase.{Accepted, accepted, refusal-least}
use Rattle.log_model.specs.Log.{no_fault}
use Rattle.area_model.specs.Area.{unused, finished_flag, is_unused, bad_flag, Frame, finished, none, by_reading, frame_of, frame_at, Found, ends_at, before, following, found_by, found_from, found}

-- ---- without fuel

fuel_any : (i j place : ℕ) (s : List ℕ) → length s ≤ i → length s ≤ j → found_by i place s ≡ found_by j place s
unfolding found_by frame_of
fuel_any zero zero place s a b = refl
fuel_any zero (suc j) place [] a b = refl
fuel_any zero (suc j) place (x ∷ s) a b = absurd (omega arith)
fuel_any (suc i) zero place [] a b = refl
fuel_any (suc i) zero place (x ∷ s) a b = absurd (omega arith)
fuel_any (suc i) (suc j) place s a b = go (λ k. fuel_any i j (place + suc k) (drop (suc k) s) (rw length-drop (omega arith)) (rw length-drop (omega arith))) (frame_of place s)
  where
    go : ((k : ℕ) → found_by i (place + suc k) (drop (suc k) s) ≡ found_by j (place + suc k) (drop (suc k) s))
        → (f : Frame) → following place s (λ k. found_by i (place + k) (drop k s)) f ≡ following place s (λ k. found_by j (place + k) (drop k s)) f
    go ih (none e) = refl
    go ih (finished k) = ap (before (take k (drop 1 s))) (ih k)

-- the frame at the front, and what is found behind it
pub found-step : (place : ℕ) (s : List ℕ) → found_from place s ≡ following place s (λ i. found_from (place + i) (drop i s)) (frame_of place s)
unfolding found_from found_by frame_of
found-step place [] = refl
found-step place (b ∷ s) = go (frame_of place (b ∷ s))
  where
    go : (f : Frame) → following place (b ∷ s) (λ i. found_by (length s) (place + i) (drop i (b ∷ s))) f
        ≡ following place (b ∷ s) (λ i. found_by (length (drop i (b ∷ s))) (place + i) (drop i (b ∷ s))) f
    go (none e) = refl
    go (finished k) = ap (before (take k s)) (fuel_any (length s) (length (drop k s)) (place + suc k) (drop k s) (rw length-drop (omega arith)) (le_refl (length (drop k s))))

-- a walk from frame to frame finds what is found: at each place the frame there, and what is found behind it
pub walk : (area : List ℕ) (place : ℕ)
    → found_from place (drop place area) ≡ following place (drop place area) (λ i. found_from (place + i) (drop (place + i) area)) (frame_at area place)
walk area place = found-step place (drop place area) ∙ go (frame_of place (drop place area))
  where
    go : (f : Frame) → following place (drop place area) (λ i. found_from (place + i) (drop i (drop place area))) f
        ≡ following place (drop place area) (λ i. found_from (place + i) (drop (place + i) area)) f
    go (none e) = refl
    go (finished k) = ap (λ (t : List ℕ). before (take k (drop 1 (drop place area))) (found_from (place + suc k) t)) (drop-drop (suc k) place area)

-- ---- one frame

-- no frame begins there
abbrev pub Over : List ℕ → Type 0
Over [] = Unit {0}
Over (b ∷ s) = b ≡ unused

pub frame-over : (place : ℕ) (s : List ℕ) → Over s → frame_of place s ≡ none no_fault
unfolding frame_of
frame-over place [] h = refl
frame-over place (b ∷ s) h = rw h

pub frame_read : (place : ℕ) (s : List ℕ) → frame_of place (finished_flag ∷ s) ≡ by_reading place (read s)
unfolding frame_of
frame_read place s = refl

pub frame_bad : (place b : ℕ) (s : List ℕ) → (b ≡ unused → ⊥) → (b ≡ finished_flag → ⊥) → frame_of place (b ∷ s) ≡ none (bad_flag place)
unfolding frame_of
frame_bad place b s m n = rw (ne_eqb b unused m, ne_eqb b finished_flag n)

-- by what the flag is, and what reading the record answers
abbrev pub by_flag : (place : ℕ) → (is_end is_finished : Bool) → Out Case → Frame
by_flag place y z o = cond y (none no_fault) (cond z (by_reading place o) (none (bad_flag place)))

-- the record of a finished frame
pub record FrameReads (s : List ℕ) (i : ℕ) : Type 0 where
  pub case : Case
  pub reads : read (drop 1 s) ≡ next case i

-- where there is one
abbrev IfFinished : List ℕ → Frame → Type 0
IfFinished s (none e) = Unit {0}
IfFinished s (finished i) = FrameReads s i

if_finished : (place : ℕ) (s : List ℕ) → IfFinished s (frame_of place s)
unfolding frame_of
if_finished place [] = tt
if_finished place (flag ∷ s) = go (is_unused flag) (eqb flag finished_flag) (read s) refl
  where
    go : (y z : Bool) (o : Out Case) → read s ≡ o
        → IfFinished (flag ∷ s) (by_flag place y z o)
    go true z o e = tt
    go false false o e = tt
    go false true (stop x p) e = tt
    go false true (next c i) e = record { case = c; reads = e }

pub frame_reads : (place : ℕ) (s : List ℕ) (i : ℕ) → frame_of place s ≡ finished i → FrameReads s i
frame_reads place s i p = subst (IfFinished s) p (if_finished place s)

pub found-over : (place : ℕ) (s : List ℕ) → Over s → found_from place s ≡ ends_at place no_fault
found-over place s h = found-step place s ∙ ap (following place s (λ i. found_from (place + i) (drop i s))) (frame-over place s h)

pub found-one : (place : ℕ) (s : List ℕ) (c : Case) (i : ℕ) → read s ≡ next c i
    → found_from place (finished_flag ∷ s) ≡ before (take i s) (found_from (place + suc i) (drop i s))
found-one place s c i e =
    found-step place (finished_flag ∷ s)
    ∙ ap (following place (finished_flag ∷ s) (λ k. found_from (place + k) (drop k (finished_flag ∷ s)))) (frame_read place s ∙ ap (by_reading place) e)

-- ---- all frames

-- records before those found
abbrev pub before_all : List (List ℕ) → Found → Found
before_all rs f = record { records = rs ++ f.records; ending = f.ending; end = f.end }

-- the bytes of the finished frames, and what stands behind them; whatever stands there instead, these frames are found
pub record Split (place : ℕ) (s : List ℕ) (f : Found) : Type 0 where
  pub front : List ℕ
  pub rest : List ℕ
  pub whole : s ≡ front ++ rest
  pub ending : f.ending ≡ no_fault
  pub end : f.end ≡ place + length front
  pub over : Over rest
  pub again : (t : List ℕ) → found_from place (front ++ t) ≡ before_all f.records (found_from f.end t)

split_over : (place : ℕ) (s : List ℕ) → Over s → Split place s (ends_at place no_fault)
split_over place s h = record { front = []; rest = s; whole = refl; ending = refl; end = omega arith; over = h; again = λ t. refl }

split_one : (place : ℕ) (s : List ℕ) (c : Case) (i : ℕ) → read s ≡ next c i → (f : Found) → Split (place + suc i) (drop i s) f
    → Split place (finished_flag ∷ s) (before (take i s) f)
split_one place s c i e f S =
    let A : Accepted s c i = accepted s c i e in
    let size : length (take i s) ≡ i = length-take-le i s A.inside in
    record {
      front = finished_flag ∷ (take i s ++ S.front);
      rest = S.rest;
      whole = ap (λ (x : List ℕ). finished_flag ∷ x) (sym (take-append-drop i s) ∙ ap (λ (x : List ℕ). take i s ++ x) S.whole ∙ sym (append_assoc (take i s) S.front S.rest));
      ending = S.ending;
      end = let l : length (take i s ++ S.front) ≡ i + length S.front = length-append (take i s) S.front ∙ ap (λ (z : ℕ). z + length S.front) size in omega (arith, S.end);
      over = S.over;
      again = λ t.
          let z : take i s ++ S.front ++ t ≡ take i s ++ (S.front ++ t) = append_assoc (take i s) S.front t in
          ap (λ (x : List ℕ). found_from place (finished_flag ∷ x)) z
          ∙ found-one place (take i s ++ (S.front ++ t)) c i (A.front (S.front ++ t))
          ∙ rw (take_at (take i s) (S.front ++ t) i size, drop_at (take i s) (S.front ++ t) i size, S.again t);
    }

split_by : (j place : ℕ) (s : List ℕ) → length s ≤ j → (found_by j place s).ending.number ≡ 0 → Split place s (found_by j place s)
unfolding found_by frame_of
split_by zero place [] l h = split_over place [] tt
split_by zero place (b ∷ s) l h = absurd (omega arith)
split_by (suc j) place [] l h = split_over place [] tt
split_by (suc j) place (flag ∷ s) l h = go (λ k. split_by j (place + suc k) (drop k s) (rw length-drop (omega arith))) (is_unused flag) refl (eqb flag finished_flag) refl (read s) refl h
  where
    go : ((k : ℕ) → (found_by j (place + suc k) (drop k s)).ending.number ≡ 0 → Split (place + suc k) (drop k s) (found_by j (place + suc k) (drop k s)))
        → (y : Bool) → is_unused flag ≡ y → (z : Bool) → eqb flag finished_flag ≡ z → (o : Out Case) → read s ≡ o
        → (following place (flag ∷ s) (λ i. found_by j (place + i) (drop i (flag ∷ s))) (by_flag place y z o)).ending.number ≡ 0 → Split place (flag ∷ s) (following place (flag ∷ s) (λ i. found_by j (place + i) (drop i (flag ∷ s))) (by_flag place y z o))
    go ih true p z q o e h = split_over place (flag ∷ s) (eqb-true flag unused p)
    go ih false p false q o e h = absurd (omega arith)
    go ih false p true q (stop x r) e h = absurd (omega (arith, refusal-least s x r e))
    go ih false p true q (next c i) e h =
        rw (eqb-true flag finished_flag q) (split_one place s c i e (found_by j (place + suc i) (drop i s)) (ih i h))

pub split : (area : List ℕ) → (found area).ending.number ≡ 0 → Split 0 area (found area)
unfolding found_from
split area h = split_by (length area) 0 area (le_refl (length area)) h
