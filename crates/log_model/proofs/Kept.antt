-- What is kept between pieces is no more than the longest record has, and its place and that of the ending fit 64 bits.
-- Assumes nothing.
use Prim.Native.Nat.{ℕ, zero, suc, ◌+◌, ◌-◌, ◌*◌, ◌^◌, ◌≤◌, ◌<◌}
use native.Mathlib.Omega.{arith}
use native.Mathlib.Nat.{add_assoc, add-zero, suc-mul, mul-le-mul_right}
use native.Mathlib.Numerals.{add-one}
use mathlib.Core.Path.{◌≡◌, refl}
use mathlib.Core.Bool.{Bool, true, false, not, cond, ◌||◌, true≢false}
use mathlib.Core.List.{List, [], ◌∷◌, ◌++◌}
use lib.Dec.{leb, ltb, lit<}
use lib.ListN.{length, drop, length-drop}
use borrow.Author.Tests.{ltb-true}
use Rattle.finite.proofs.Tests.{and_l}
use Rattle.finite.proofs.All.{all_drop}
use Rattle.number.specs.Number.{Bytes}
use Rattle.number.specs.Reader.{Out, stop, next}
use Rattle.model.specs.Limits.{most_edition}
use Rattle.model.specs.Bound.{most_bytes}
use Rattle.model.specs.Case.{Case}
use Rattle.model.specs.Rules.{PPCs, verdict}
use Rattle.model.specs.Record.{read}
use Rattle.laws.proofs.Bound.{most_is}
use Rattle.laws.proofs.Exact.{refused-within}
use Rattle.laws.proofs.ExactCase.{refused as refused-law}
use Rattle.laws.proofs.ExtentCase.{accepted, ends_near}
use Rattle.tally.specs.declared.Tally.{Tally}
use Rattle.tally.specs.Tally.{most_count, count_of, grown, may_grow}
use Rattle.log_model.specs.Log.{no_fault}
use Rattle.log_model.specs.Claim.{most_taken, Placed, PlacedFed}
use Rattle.log_model.specs.Pieces.{Stop, full, on_reading, run_by, run_from, run, waits, ending_at, judge_log, Fed, going, over, begun, kept, following, feed, feed_all}
use Rattle.log_model.proofs.RunLaws.{Further, further, Left, left}

-- whatever held after each piece holds at the end
all-pieces : (P : Fed → Type 0) → ((f : Fed) (piece : List ℕ) → P f → P (feed f piece)) → (f : Fed) → P f → (pieces : List (List ℕ)) → P (feed_all f pieces)
unfolding feed_all
all-pieces P stays f h [] = h
all-pieces P stays f h (piece ∷ pieces) = all-pieces P stays (feed f piece) (stays f piece h) pieces

-- ---- the bytes

-- where a call leaves the log going on
pub call-small : (from : ℕ) (s : List ℕ) (t : Tally) → (judge_log from false s t).ended ≡ false → length (drop (judge_log from false s t).judged s) ≤ most_bytes most_edition
unfolding judge_log
call-small from s t e =
    let L : Left s (run s t) = left s t in
    ends_near (drop (run s t).judged s) L.place (L.ends (waiting (run s t).why e)).0
  where
    waiting : (w : Stop) → not (waits w) ≡ false → waits w ≡ true
    waiting w h = go (waits w) h
      where
        go : (y : Bool) → not y ≡ false → y ≡ true
        go true h = refl
        go false h = absurd (true≢false h)

abbrev Small : Fed → Type 0
Small f = length (kept f) ≤ most_bytes most_edition

small-feed : (f : Fed) (piece : List ℕ) → Small f → Small (feed f piece)
unfolding feed
small-feed (over r) piece h = omega arith
small-feed (going s place t) piece h = go (judge_log place false (s ++ piece) t).ended refl
  where
    go : (y : Bool) → (judge_log place false (s ++ piece) t).ended ≡ y → Small (following place (s ++ piece) (judge_log place false (s ++ piece) t))
    go true e = rw e (omega arith)
    go false e = rw e (call-small place (s ++ piece) t e)

-- whatever came, no more bytes are kept than the longest record has
pub kept_small : (t : Tally) (pieces : List (List ℕ)) → length (kept (feed_all (begun t) pieces)) ≤ most_bytes most_edition
kept_small t pieces = all-pieces Small small-feed (begun t) (omega arith) pieces

-- 02 (iii): "at most 64 KiB of buffers": so as many hold what is kept of any log, and more than 31,000 bytes of a further piece
pub buffer-enough : most_bytes most_edition + 31000 < 64 * 1024
buffer-enough = rw most_is.1 (lit< tt)

-- ---- the place

grown-records : (t : Tally) (v : ℕ) → (grown t v).records ≡ suc t.records
unfolding grown
grown-records t zero = add-one t.records
grown-records t (suc v) = add-one t.records

placed-grown : (place i : ℕ) (t : Tally) (v : ℕ) → i ≤ most_taken → may_grow t v ≡ true → Placed place t → Placed (place + i) (grown t v)
unfolding may_grow
placed-grown place i t v l g P = record {
  few = rw (grown-records t v, suc-mul t.records most_taken) (omega (arith, P.few));
  most = rw (grown-records t v) (ltb-true t.records most_count (and_l (ltb t.records most_count) (ltb (count_of t v) most_count) g));
}

placed_by : (j place at : ℕ) (s : List ℕ) (t : Tally) → Placed (place + at) t → Placed (place + (run_by j at s t).judged) (run_by j at s t).tally
unfolding run_by
placed_by zero place at s t P = P
placed_by (suc j) place at s t P = go (λ i t'. placed_by j place i s t') (read (drop at s)) refl
  where
    go : ((i : ℕ) (t' : Tally) → Placed (place + i) t' → Placed (place + (run_by j i s t').judged) (run_by j i s t').tally) → (o : Out Case) → read (drop at s) ≡ o
        → Placed (place + (on_reading at t (λ i t'. run_by j i s t') o).judged) (on_reading at t (λ i t'. run_by j i s t') o).tally
    go ih (stop x p) e = P
    go ih (next c i) e = by (may_grow t (verdict c PPCs)) refl
      where
        by : (y : Bool) → may_grow t (verdict c PPCs) ≡ y
            → Placed (place + (cond y (run_by j (at + i) s (grown t (verdict c PPCs))) (record { judged = at; tally = t; why = full })).judged) (cond y (run_by j (at + i) s (grown t (verdict c PPCs))) (record { judged = at; tally = t; why = full })).tally
        by true g = ih (at + i) (grown t (verdict c PPCs)) (rw (← add_assoc place at i) (placed-grown (place + at) i t (verdict c PPCs) (accepted (drop at s) c i e).most g P))
        by false g = P

placed-feed : (f : Fed) (piece : List ℕ) → PlacedFed f → PlacedFed (feed f piece)
unfolding feed judge_log run_from
placed-feed (over r) piece h = tt
placed-feed (going s place t) piece P = go (not (waits (run (s ++ piece) t).why))
  where
    go : (y : Bool) → PlacedFed (cond y (over (record { tally = (run (s ++ piece) t).tally; ending = (judge_log place false (s ++ piece) t).ending })) (going (drop (run (s ++ piece) t).judged (s ++ piece)) (place + (run (s ++ piece) t).judged) (run (s ++ piece) t).tally))
    go true = tt
    go false = placed_by (length (s ++ piece) - 0) place 0 (s ++ piece) t (rw add-zero P)

-- of every log that begins with a tally that can be, the place of what is kept is at most so many records' bytes
pub place-small : (t : Tally) → t.records ≤ most_count → (pieces : List (List ℕ)) → PlacedFed (feed_all (begun t) pieces)
place-small t h pieces = all-pieces PlacedFed placed-feed (begun t) (record { few = omega arith; most = h }) pieces

-- so that it and any place in a slice behind it fit 64 bits, as a count of records fits 32
pub place-fits : (place : ℕ) (t : Tally) → Placed place t → place + 2 ^ 63 < 2 ^ 64
place-fits place t P =
    let most : t.records * most_taken ≤ most_count * most_taken = mul-le-mul_right most_taken P.most in
    let product : most_count * most_taken + 2 ^ 63 < 2 ^ 64 = rw most_is.1 (lit< tt) in
    omega (arith, P.few)

-- a call keeps that
pub placed-call : (place : ℕ) (last : Bool) (s : List ℕ) (t : Tally) → Placed place t → Placed (place + (judge_log place last s t).judged) (judge_log place last s t).tally
unfolding judge_log run_from
placed-call place last s t P = placed_by (length s - 0) place 0 s t (rw add-zero P)

-- where a log ends, its place is within the bytes
why-within : (s : List ℕ) → Bytes s → (j at : ℕ) (t : Tally) → at ≤ length s → length s ≤ at + j → (from : ℕ) → (ending_at from (run_by j at s t).why).place ≤ from + length s
unfolding run_by
why-within s b zero at t l m from = omega arith
why-within s b (suc j) at t l m from = go (λ i t'. why-within s b j i t') (read (drop at s)) refl
  where
    go : ((i : ℕ) (t' : Tally) → i ≤ length s → length s ≤ i + j → (from : ℕ) → (ending_at from (run_by j i s t').why).place ≤ from + length s) → (o : Out Case) → read (drop at s) ≡ o
        → (ending_at from (on_reading at t (λ i t'. run_by j i s t') o).why).place ≤ from + length s
    go ih (stop x p) e =
        let h : p ≤ length s - at = rw length-drop at (refused-within (refused-law (drop at s) (all_drop _ at s b) x p e)) in
        omega arith
    go ih (next c i) e = by (may_grow t (verdict c PPCs))
      where
        F : Further s at i
        F = further s at c i e

        by : (y : Bool) → (ending_at from (cond y (run_by j (at + i) s (grown t (verdict c PPCs))) (record { judged = at; tally = t; why = full })).why).place ≤ from + length s
        by true = ih (at + i) (grown t (verdict c PPCs)) F.inside (omega (arith, F.some)) from
        by false = omega arith

pub ending-within : (s : List ℕ) → Bytes s → (from : ℕ) (last : Bool) (t : Tally) → (judge_log from last s t).ending.place ≤ from + length s
unfolding judge_log run_from
ending-within s b from last t = go (last || not (waits (run s t).why)) (leb (length s) (run s t).judged)
  where
    go : (x y : Bool) → (cond x (cond y no_fault (ending_at from (run s t).why)) no_fault).place ≤ from + length s
    go false y = omega arith
    go true true = omega arith
    go true false = why-within s b (length s - 0) 0 t (omega arith) (omega arith) from

pub judged-within : (from : ℕ) (last : Bool) (s : List ℕ) (t : Tally) → (judge_log from last s t).judged ≤ length s
unfolding judge_log
judged-within from last s t = (left s t).inside
